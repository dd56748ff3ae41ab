-- What the order in which folders are read turns on is decided.
use Rattle.std.proofs.Common.{◌≡◌, ◌⊎◌, ◌<◌, ℕ, zero, suc, Bool, true, false, nat_eq, Option, Some, None, List, [], ◌∷◌, length, get_or, refl, sym, ap, ◌∙◌, subst, inl, inr, arith}
use mathlib.Core.Bool.{true≢false}
use Rattle.std.specs.Prelude.{codes}
use Rattle.std.specs.List.{starts_with}
use Rattle.std.specs.Str.{bytes_eq}
use Rattle.std.proofs.lemmas.Slice.Eq.{bytes_eq-Decides}
use Rattle.go_base.specs.Lists.{Has}
use Rattle.go_client_walks.specs.ClientWalks.{IsWanted}
use Rattle.go_existence.proofs.DoubleNegation.{below_or, less_or}
use Rattle.go_imports.proofs.Members.{same_or}
use Rattle.go_imports.proofs.Paths.{not_under, under_more, under_not, under_same}
use Rattle.go_imports.specs.ImportPaths.{IsUnder}
use Rattle.go_imports.specs.declared.used_imports.NamedImport.{NamedImport}
use Rattle.go_typings.proofs.Cells.{either, maybe, none_some, some_once}
use Rattle.go_units.proofs.WalkedFiles.{slot_within}
use Rattle.go_units.specs.Folders.{AsksFor, IsSought, MayBeFound, NamesFolder, folder_of}
use Rattle.go_units.specs.Reached.{FileAsks, FilesAsk, IsAsked, IsFresh, ReadFolders, is_std, slot}
use Rattle.go_units.specs.declared.folder.Folder.{Folder}
use Rattle.go_units.specs.declared.package_uses.PackageFile.{PackageFile}

abbrev pub Decided : Type 0 → Type 0
Decided A = A ⊎ (A → ⊥)

-- ---- texts and lists

pub text_or : (x y : List ℕ) → Decided (x ≡ y)
text_or x y = by (bytes_eq x y) refl
  where
    by : (b : Bool) → bytes_eq x y ≡ b → Decided (x ≡ y)
    by true e = inl ((bytes_eq-Decides x y).0 e)
    by false e = inr (λ s. true≢false (sym ((bytes_eq-Decides x y).1 s) ∙ e))

some_or : (o : Option (List ℕ)) (y : List ℕ) → Decided (o ≡ Some y)
some_or None y = inr (λ e. none_some None y refl e)
some_or (Some x) y = elim (text_or x y) [ inl e ↦ inl (ap (λ (w : List ℕ). Some w) e) | inr n ↦ inr (λ e. n (some_once x y e)) ]

not_or : {A : Type 0} → Decided A → Decided (A → ⊥)
not_or (inl a) = inr (λ n. n a)
not_or (inr n) = inl n

module _ {A : Type 0} (P : A → Type 0) (decide : (x : A) → Decided (P x)) where
  -- one of a list has the property, or none has
  pub any_or : (xs : List A) → Decided ((x : A) × Has xs x × P x)
  any_or [] = inr (λ k. absurd k.1)
  any_or (x ∷ xs) = elim (decide x) [
    | inl p ↦ inl (x, inl refl, p)
    | inr n ↦ elim (any_or xs) [
      | inl k ↦ inl (k.0, inr k.1, k.2)
      | inr never ↦ inr (λ k. elim k.1 [ inl e ↦ n (subst P (sym e) k.2) | inr h ↦ never (k.0, h, k.2) ])
    ]
  ]

module _ (P : ℕ → Type 0) (decide : (n : ℕ) → Decided (P n)) where
  -- the least number below another that has the property, or none has it
  pub least_or : (k : ℕ) → ((n : ℕ) × P n × ((m : ℕ) → m < n → P m → ⊥)) ⊎ ((n : ℕ) → n < k → P n → ⊥)
  least_or zero = inr (λ n l q. omega (arith, l))
  least_or (suc k) = elim (least_or k) [
    | inl m ↦ inl m
    | inr none ↦ elim (decide k) [
      | inl q ↦ inl (k, q, none)
      | inr never ↦ inr (λ n l q. elim (below_or n k l) [ inl m ↦ none n m q | inr e ↦ never (subst P (sym e) q) ])
    ]
  ]

  pub below_any : (k : ℕ) → ((n : ℕ) → P n → n < k) → Decided ((n : ℕ) × P n)
  below_any k bound = elim (least_or k) [ inl m ↦ inl (m.0, m.1) | inr none ↦ inr (λ q. none q.0 (bound q.0 q.1) q.1) ]

-- ---- paths

under_or : (path root : List ℕ) → Decided (IsUnder path root)
under_or path root = by (starts_with nat_eq path root) refl
  where
    by : (b : Bool) → starts_with nat_eq path root ≡ b → Decided (IsUnder path root)
    by false e = inr (not_under path root e)
    by true e = elim (same_or (length path) (length root)) [
      | inl s ↦ inl (under_same path root e s)
      | inr ne ↦ elim (same_or (get_or path (length root) 0) 47) [ inl s ↦ inl (under_more path root e ne s) | inr other ↦ inr (under_not path root ne other) ]
    ]

sought_or : (module_path : List ℕ) (from_std : Bool) (path : List ℕ) (s : Bool) → Decided (IsSought module_path from_std path s)
sought_or module_path true path true = inl tt
sought_or module_path true path false = inr (λ h. h)
sought_or module_path false path true = not_or (under_or path module_path)
sought_or module_path false path false = under_or path module_path

-- ---- what is asked for

permits_or : (f : Folder) → Decided (MayBeFound f)
permits_or f = elim (text_or f.path (codes "unsafe")) [
  | inl e ↦ inr (λ k. k.safe e)
  | inr safe ↦ elim (some_or f.package_name (codes "main")) [
    | inl e ↦ inr (λ k. k.library e)
    | inr library ↦ inl (record { safe = safe; library = library })
  ]
]

module _ (module_path : List ℕ) (folders : List Folder) where
  names_or : (from_std : Bool) (path : List ℕ) (n : ℕ) → Decided (NamesFolder module_path folders from_std path n)
  names_or from_std path n = elim (less_or n (length folders)) [
    | inr past ↦ inr (λ k. let w = k.within in omega (arith, past, w))
    | inl within ↦ elim (text_or (folder_of folders n).path path) [
      | inr other ↦ inr (λ k. other k.same)
      | inl same ↦ elim (sought_or module_path from_std path (folder_of folders n).from_std) [
        | inr elsewhere ↦ inr (λ k. elsewhere k.sought)
        | inl sought ↦ inl (record { within = within; same = same; sought = sought })
      ]
    ]
  ]

  asks_or : (from_std : Bool) (path : List ℕ) (n : ℕ) → Decided (AsksFor module_path folders from_std path n)
  asks_or from_std path n = elim (names_or from_std path n) [
    | inr other ↦ inr (λ k. other k.names)
    | inl names ↦ elim (either (is_std folders n)) [
      | inr own ↦ inr (λ k. true≢false (sym k.side ∙ own))
      | inl std ↦ elim (permits_or (folder_of folders n)) [
        | inr never ↦ inr (λ k. never k.permitted)
        | inl permitted ↦ inl (record { names = names; side = std; permitted = permitted })
      ]
    ]
  ]

  file_asks_or : (from_std : Bool) (m : ℕ) (f : PackageFile) → Decided (FileAsks module_path folders from_std f m)
  file_asks_or from_std m f = any_or (λ (u : NamedImport). AsksFor module_path folders from_std u.path m) (λ u. asks_or from_std u.path m) f.uses

  files_ask_or : (from_std : Bool) (files : List PackageFile) (m : ℕ) → Decided (FilesAsk module_path folders from_std files m)
  files_ask_or from_std files m = any_or (λ (f : PackageFile). FileAsks module_path folders from_std f m) (file_asks_or from_std m) files

  module _ (slots : ReadFolders) (m : ℕ) where
    abbrev AskedBy : ℕ → Type 0
    AskedBy n = (files : List PackageFile) × (slot slots n ≡ Some files) × FilesAsk module_path folders (is_std folders n) files m

    asked_by_or : (n : ℕ) → Decided (AskedBy n)
    asked_by_or n = elim (maybe (slot slots n)) [
      | inr fresh ↦ inr (λ k. none_some (slot slots n) k.0 fresh k.1)
      | inl held ↦ elim (files_ask_or (is_std folders n) held.0 m) [
        | inl asks ↦ inl (held.0, held.1, asks)
        | inr never ↦ inr (λ k. never (subst (λ (fs : List PackageFile). FilesAsk module_path folders (is_std folders n) fs m) (some_once k.0 held.0 (sym k.1 ∙ held.1)) k.2))
      ]
    ]

    asked_or : Decided (IsAsked module_path folders slots m)
    asked_or = elim (below_any AskedBy asked_by_or (length slots) (λ n k. slot_within slots n k.0 k.1)) [
      | inl n ↦ inl (n.0, n.1.0, n.1.1, n.1.2)
      | inr never ↦ inr (λ k. never (k.0, (k.1, k.2, k.3)))
    ]

  pub wanted_or : (client : List PackageFile) (slots : ReadFolders) (n : ℕ) → Decided (IsWanted client module_path folders slots n)
  wanted_or client slots n = elim (less_or n (length folders)) [
    | inr past ↦ inr (λ k. let w = k.within in omega (arith, past, w))
    | inl within ↦ elim (either (is_std folders n)) [
      | inr own ↦ inl (record { within = within; why = inl own })
      | inl std ↦ elim (asked_or slots n) [
        | inl asked ↦ inl (record { within = within; why = inr (inl asked) })
        | inr not_asked ↦ elim (files_ask_or false client n) [
          | inl asks ↦ inl (record { within = within; why = inr (inr asks) })
          | inr never ↦ inr (λ k. elim k.why [ inl own ↦ true≢false (sym std ∙ own) | inr asked ↦ elim asked [ inl a ↦ not_asked a | inr a ↦ never a ] ])
        ]
      ]
    ]
  ]

pub fresh_or : (slots : ReadFolders) (n : ℕ) → Decided (IsFresh slots n)
fresh_or slots n = elim (maybe (slot slots n)) [ inl held ↦ inr (λ e. none_some (slot slots n) held.0 e held.1) | inr e ↦ inl e ]
