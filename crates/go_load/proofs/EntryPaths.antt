-- The entry of a path in a folder, seen from the path.
use Rattle.std.proofs.Common.{◌≡◌, ◌≢◌, ℕ, suc, ◌+◌, Bool, true, false, not, cond, if◌then◌else◌, nat_eq, Option, Some, None, List, [], ◌∷◌, ◌++◌, length, take, drop, refl, sym, ap, ◌∙◌, subst, ◌⊎◌, inl, inr, arith, append_assoc}
use mathlib.Core.Bool.{true≢false}
use Rattle.std.specs.List.{prefix_len}
use Rattle.std.proofs.Math.Seq.{take-append_seam, drop-append_seam, take-length}
use Rattle.std.proofs.lemmas.List.{take-append-drop, length-append}
use Rattle.std.proofs.lemmas.Slice.Eq.{bytes_eq-Decides}
use Rattle.std.proofs.lemmas.Bool.{ne_eqb}
use Rattle.std.proofs.lemmas.Bool.Decides.{Decides-eqb}
use Rattle.go_base.specs.Lists.{Has}
use Rattle.go_outside.specs.declared.files.Entry.{Entry}
use Rattle.go_outside.specs.declared.files.EntryKind.TheVariants as kind
use Rattle.go_outside.specs.Paths.{Path, after, after_slash, within, not_slash, entry_at, entry_of_rest, entry_of}
use Rattle.go_outside.specs.Stores.{Contents, IsTold, IsListing}
use Rattle.go_load.specs.Walk.{IsThere}
use Rattle.go_load.specs.inner.Steps.{file_entry, folder_entry}

some_some : {A : Type 0} (a b : A) → ◌≡◌ {A = Option A} (Some a) (Some b) → a ≡ b
some_some a b e = cc

none_some : {A : Type 0} (a : A) → ◌≡◌ {A = Option A} None (Some a) → ⊥
none_some a e = cc

-- what follows a prefix
chosen : (b : Bool) (w : Path) → b ≡ true → (if b then Some w else None) ≡ Some w
chosen true w e = refl
chosen false w e = absurd (true≢false (sym e))

after_append : (prefix rest : Path) → after prefix (prefix ++ rest) ≡ Some rest
after_append prefix rest =
    chosen _ (drop (length prefix) (prefix ++ rest)) ((bytes_eq-Decides (take (length prefix) (prefix ++ rest)) prefix).1 (take-append_seam prefix rest)) ∙ ap Some (drop-append_seam prefix rest)

after_by : (b : Bool) (path rest : Path) → (if b then Some path else None) ≡ Some rest → (b ≡ true) × (path ≡ rest)
after_by true path rest e = (refl, some_some path rest e)
after_by false path rest e = absurd (none_some rest e)

after_some : (prefix path rest : Path) → after prefix path ≡ Some rest → path ≡ prefix ++ rest
after_some prefix path rest e =
    let h = after_by _ (drop (length prefix) path) rest e in
    sym (take-append-drop (length prefix) path) ∙ ap (λ w. w ++ drop (length prefix) path) ((bytes_eq-Decides _ prefix).0 h.0) ∙ ap (λ w. prefix ++ w) h.1

slash_some : (prefix path : Path) (o : Option Path) (rest : Path) → after prefix path ≡ o → after_slash o ≡ Some rest → path ≡ prefix ++ 47 ∷ rest
slash_some prefix path None rest e h = absurd (none_some rest h)
slash_some prefix path (Some w) rest e h = after_some prefix path w e ∙ ap (λ v. prefix ++ v) (after_some (47 ∷ []) w rest h)

pub within_some : (folder path rest : Path) → within folder path ≡ Some rest → path ≡ folder ++ 47 ∷ rest
within_some folder path rest h = slash_some folder path (after folder path) rest refl h

pub within_of : (folder rest : Path) → within folder (folder ++ 47 ∷ rest) ≡ Some rest
within_of folder rest = ap after_slash (after_append folder (47 ∷ rest)) ∙ after_append (47 ∷ []) rest

-- the first element of a path
abbrev pub slashless : Path → Type 0
slashless name = prefix_len not_slash name ≡ length name

tail_by : (b : ℕ) (bs : Path) (s : Bool) → not_slash b ≡ s → cond s (1 + prefix_len not_slash bs) 0 ≡ suc (length bs) → (not_slash b ≡ true) × slashless bs
tail_by b bs true e h = (e, omega (arith, h))
tail_by b bs false e h = absurd (omega (arith, h))

slashless_tail : (b : ℕ) (bs : Path) → slashless (b ∷ bs) → (not_slash b ≡ true) × slashless bs
slashless_tail b bs h = tail_by b bs (not_slash b) refl h

longer : (b : ℕ) (bs : Path) (n : ℕ) → not_slash b ≡ true → prefix_len not_slash bs ≡ n → prefix_len not_slash (b ∷ bs) ≡ suc n
longer b bs n e h = ap (λ w. cond w (1 + prefix_len not_slash bs) 0) e ∙ omega (arith, h)

pub slashless-cons : (b : ℕ) (bs : Path) → not_slash b ≡ true → slashless bs → slashless (b ∷ bs)
slashless-cons b bs e h = longer b bs (length bs) e h

slashless-append : (name rest : Path) → slashless name → prefix_len not_slash (name ++ 47 ∷ rest) ≡ length name
slashless-append [] rest h = refl
slashless-append (b ∷ bs) rest h = let t = slashless_tail b bs h in longer b (bs ++ 47 ∷ rest) (length bs) t.0 (slashless-append bs rest t.1)

is_slash : (b : ℕ) → not_slash b ≡ false → b ≡ 47
is_slash b h = slash_by b (nat_eq b 47) refl h
  where
    slash_by : (b : ℕ) (s : Bool) → nat_eq b 47 ≡ s → not s ≡ false → b ≡ 47
    slash_by b true e h = (Decides-eqb b 47).0 e
    slash_by b false e h = absurd (true≢false h)

abbrev HasFirst : Path → Type 0
HasFirst rest = (name : Path) × (more : Path) × (rest ≡ name ++ 47 ∷ more) × slashless name

first_by : (b : ℕ) (bs : Path) (s : Bool) → not_slash b ≡ s → slashless bs ⊎ HasFirst bs → slashless (b ∷ bs) ⊎ HasFirst (b ∷ bs)
first_by b bs false e h = inr ([], bs, ap (λ w. w ∷ bs) (is_slash b e), refl)
first_by b bs true e (inl h) = inl (slashless-cons b bs e h)
first_by b bs true e (inr h) = inr (b ∷ h.0, h.1, ap (λ w. b ∷ w) h.2, slashless-cons b h.0 e h.3)

first_part : (rest : Path) → slashless rest ⊎ HasFirst rest
first_part [] = inl refl
first_part (b ∷ bs) = first_by b bs (not_slash b) refl (first_part bs)

entry_whole : (name : Path) → slashless name → entry_at name (prefix_len not_slash name) ≡ file_entry name
entry_whole name h =
    let same : nat_eq (length name) (length name) ≡ true = (Decides-eqb (length name) (length name)).1 refl in
    ap (entry_at name) h ∙ (λ i. record { name = take-length name i; kind = if same i then kind.File else kind.Folder })

entry_front : (name more : Path) → slashless name → entry_at (name ++ 47 ∷ more) (prefix_len not_slash (name ++ 47 ∷ more)) ≡ folder_entry name
entry_front name more h =
    let other : nat_eq (length name) (length (name ++ 47 ∷ more)) ≡ false = ne_eqb (length name) (length (name ++ 47 ∷ more)) (λ e. omega (arith, e, length-append name (47 ∷ more))) in
    ap (entry_at (name ++ 47 ∷ more)) (slashless-append name more h) ∙ (λ i. record { name = take-append_seam name (47 ∷ more) i; kind = if other i then kind.File else kind.Folder })

entry_of_file : (folder name : Path) → slashless name → entry_of folder (folder ++ 47 ∷ name) ≡ Some (file_entry name)
entry_of_file folder name h = ap entry_of_rest (within_of folder name) ∙ ap Some (entry_whole name h)

entry_of_folder : (folder name more : Path) → slashless name → entry_of folder (folder ++ 47 ∷ (name ++ 47 ∷ more)) ≡ Some (folder_entry name)
entry_of_folder folder name more h = ap entry_of_rest (within_of folder (name ++ 47 ∷ more)) ∙ ap Some (entry_front name more h)

-- where the path of an entry stands
abbrev Stands : Path → Path → Entry → Type 0
Stands folder p e = ((name : Path) × (e ≡ file_entry name) × (p ≡ folder ++ 47 ∷ name)) ⊎ ((name : Path) × (more : Path) × (e ≡ folder_entry name) × (p ≡ folder ++ 47 ∷ (name ++ 47 ∷ more)))

stands_at : (folder p rest : Path) (e : Entry) → p ≡ folder ++ 47 ∷ rest → entry_at rest (prefix_len not_slash rest) ≡ e → slashless rest ⊎ HasFirst rest → Stands folder p e
stands_at folder p rest e at is (inl h) = inl (rest, sym is ∙ entry_whole rest h, at)
stands_at folder p rest e at is (inr h) =
    let is' : entry_at (h.0 ++ 47 ∷ h.1) (prefix_len not_slash (h.0 ++ 47 ∷ h.1)) ≡ e = subst (λ (w : Path). entry_at w (prefix_len not_slash w) ≡ e) h.2 is in
    inr (h.0, h.1, sym is' ∙ entry_front h.0 h.1 h.3, at ∙ ap (λ w. folder ++ 47 ∷ w) h.2)

stands_by : (folder p : Path) (e : Entry) (o : Option Path) → within folder p ≡ o → entry_of_rest o ≡ Some e → Stands folder p e
stands_by folder p e None w h = absurd (none_some e h)
stands_by folder p e (Some rest) w h = stands_at folder p rest e (within_some folder p rest w) (some_some (entry_at rest (prefix_len not_slash rest)) e h) (first_part rest)

stands : (folder p : Path) (e : Entry) → entry_of folder p ≡ Some e → Stands folder p e
stands folder p e h = stands_by folder p e (within folder p) refl h

file_folder : kind.File ≡ kind.Folder → ⊥
file_folder e = cc

module _ (m : Contents) (at : Path) where
  not_there_by : (rest : Path) → IsTold m (at ++ 47 ∷ rest) → ((p : Path) → IsTold m p → entry_of at p ≡ None) → ⊥
  not_there_by rest told none = none_some (entry_at rest (prefix_len not_slash rest)) (sym (none (at ++ 47 ∷ rest) told) ∙ ap entry_of_rest (within_of at rest))

  -- a folder that has no entry isn't there
  pub not_there : ((p : Path) → IsTold m p → entry_of at p ≡ None) → IsThere m at → ⊥
  not_there none there = not_there_by there.0 there.1 none

  there_by : (p : Path) (e : Entry) → IsTold m p → Stands at p e → IsThere m at
  there_by p e told (inl h) = (h.0, subst (IsTold m) h.2 told)
  there_by p e told (inr h) = (h.0 ++ 47 ∷ h.1, subst (IsTold m) h.3 told)

  module _ (entries : List Entry) (listing : IsListing (IsTold m) at entries) where
    -- a folder that has an entry is there
    there_from : (e : Entry) → Has entries e → IsThere m at
    there_from e h = let k = listing.sound e h in there_by k.0 e k.1 (stands at k.0 e k.2)

    file_by : (p name : Path) → IsTold m p → Stands at p (file_entry name) → IsTold m (at ++ 47 ∷ name)
    file_by p name told (inl h) = subst (IsTold m) (h.2 ∙ ap (λ (e : Entry). at ++ 47 ∷ e.name) (sym h.1)) told
    file_by p name told (inr h) = absurd (file_folder (ap (λ (e : Entry). e.kind) h.2))

    pub told_file : (name : Path) → Has entries (file_entry name) → IsTold m (at ++ 47 ∷ name)
    told_file name h = let k = listing.sound (file_entry name) h in file_by k.0 name k.1 (stands at k.0 (file_entry name) k.2)

    folder_by : (p name : Path) → IsTold m p → Stands at p (folder_entry name) → IsThere m (at ++ 47 ∷ name)
    folder_by p name told (inl h) = absurd (file_folder (sym (ap (λ (e : Entry). e.kind) h.1)))
    folder_by p name told (inr h) = (h.1, subst (IsTold m) (h.3 ∙ ap (λ (e : Entry). at ++ 47 ∷ (e.name ++ 47 ∷ h.1)) (sym h.2) ∙ sym (append_assoc at (47 ∷ name) (47 ∷ h.1))) told)

    pub told_folder : (name : Path) → Has entries (folder_entry name) → IsThere m (at ++ 47 ∷ name)
    told_folder name h = let k = listing.sound (folder_entry name) h in folder_by k.0 name k.1 (stands at k.0 (folder_entry name) k.2)

    pub listed_file : (name : Path) → slashless name → IsTold m (at ++ 47 ∷ name) → Has entries (file_entry name)
    listed_file name s told = listing.complete (at ++ 47 ∷ name) (file_entry name) told (entry_of_file at name s)

    pub listed_folder : (name : Path) → slashless name → IsThere m (at ++ 47 ∷ name) → Has entries (folder_entry name)
    listed_folder name s there = listing.complete (at ++ 47 ∷ (name ++ 47 ∷ there.0)) (folder_entry name) (subst (IsTold m) (append_assoc at (47 ∷ name) (47 ∷ there.0)) there.1) (entry_of_folder at name there.0 s)

  pub there_listed : (entries : List Entry) → IsListing (IsTold m) at entries → entries ≢ [] → IsThere m at
  there_listed [] l h = absurd (h refl)
  there_listed (e ∷ es) l h = there_from (e ∷ es) l e (inl refl)
