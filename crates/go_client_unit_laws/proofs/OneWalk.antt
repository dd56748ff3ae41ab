-- The folders of a module with a client are read in one order: walks that can't go on end at one.
use Rattle.std.proofs.Common.{◌≡◌, ◌⊎◌, ℕ, zero, suc, ◌<◌, ◌≤◌, Bool, true, false, Some, List, [], ◌∷◌, length, slice_set, refl, sym, ap, ◌∙◌, subst, inl, inr, arith}
use mathlib.Core.Bool.{true≢false}
use Rattle.go_imports.specs.declared.package_files.SourceFile.{SourceFile}
use Rattle.go_imports.proofs.Members.{below_or}
use Rattle.go_unit_laws.proofs.OneFiles.{one_files}
use Rattle.go_units.specs.Folders.{AreOrdered}
use Rattle.go_client_walks.specs.ClientWalks.{IsNextFolder, Walked, start, next}
use Rattle.go_unit_laws.proofs.OneWalk.{same_sources}
use Rattle.go_units.specs.Reached.{AreAccepted, IsFresh, ReadFolders, is_std}
use Rattle.go_units.specs.declared.folder.Folder.{Folder}
use Rattle.go_units.specs.declared.package_uses.PackageFile.{PackageFile}
use Rattle.go_units.specs.declared.reader.Reading.{Reading}
use Rattle.go_units.specs.declared.reader.Reading.TheVariants as reading

module _ (client : List PackageFile) (module_path : List ℕ) (folders : List Folder) (ordered : AreOrdered folders) (gives : ℕ → Reading → Type 0) (one : (n : ℕ) (a b : Reading) → gives n a → gives n b → a ≡ b) where
  -- ---- one step

  first_or : (s t : Bool) (m n : ℕ) → ((s ≡ false) × (t ≡ true)) ⊎ ((s ≡ t) × (n ≤ m)) → ((t ≡ false) × (s ≡ true)) ⊎ ((t ≡ s) × (m ≤ n)) → n ≡ m
  first_or s t m n (inl a) (inl b) = absurd (true≢false (sym a.1 ∙ b.0))
  first_or s t m n (inl a) (inr b) = absurd (true≢false (sym a.1 ∙ b.0 ∙ a.0))
  first_or s t m n (inr a) (inl b) = absurd (true≢false (sym b.1 ∙ a.0 ∙ b.0))
  first_or s t m n (inr a) (inr b) = omega (arith, a.1, b.1)

  pub one_next : (slots : ReadFolders) (n m : ℕ) → IsNextFolder client module_path folders slots n → IsNextFolder client module_path folders slots m → n ≡ m
  one_next slots n m a b = first_or (is_std folders n) (is_std folders m) m n (a.first m b.wanted b.fresh) (b.first n a.wanted a.fresh)

  -- a folder that is read next, and what it gives
  pub record Step (slots : ReadFolders) (n : ℕ) (files : List PackageFile) : Type 0 where
    pub is_next : IsNextFolder client module_path folders slots n
    pub sources : List SourceFile
    pub read : gives n (reading.Files sources)
    pub accepted : AreAccepted module_path folders n sources files

  one_step : (slots : ReadFolders) (n m : ℕ) (fs gs : List PackageFile) → Step slots n fs → Step slots m gs → slice_set slots n (Some fs) ≡ slice_set slots m (Some gs)
  one_step slots n m fs gs a b =
      let number : n ≡ m = one_next slots n m a.is_next b.is_next in
      let there : gives m (reading.Files a.sources) = subst (λ (k : ℕ). gives k (reading.Files a.sources)) number a.read in
      let sources : a.sources ≡ b.sources = same_sources a.sources b.sources (one m (reading.Files a.sources) (reading.Files b.sources) there b.read) in
      let accepted : AreAccepted module_path folders m b.sources fs = subst (λ (k : ℕ). AreAccepted module_path folders k b.sources fs) number (subst (λ (ss : List SourceFile). AreAccepted module_path folders n ss fs) sources a.accepted) in
      let files : fs ≡ gs = one_files module_path folders ordered (is_std folders m) b.sources fs gs accepted.given b.accepted.given in
      (λ i. slice_set slots (number i) (Some (files i)))

  -- ---- walks of so many steps

  unfoldable pub WalkedIn : ℕ → ReadFolders → Type 0
  WalkedIn zero slots = (length slots ≡ length folders) × ((n : ℕ) → IsFresh slots n)
  WalkedIn (suc k) slots = (before : ReadFolders) × WalkedIn k before × (n : ℕ) × (files : List PackageFile) × Step before n files × (slots ≡ slice_set before n (Some files))

  pub counted : {slots : ReadFolders} → Walked client module_path folders gives slots → (k : ℕ) × WalkedIn k slots
  unfolding WalkedIn
  counted (start e f) = (0, (e, f))
  counted (next {slots = slots} {n = n} {sources = sources} {files = files} w i r a) =
      let c = counted w in
      (suc c.0, (slots, c.1, n, files, record { is_next = i; sources = sources; read = r; accepted = a }, refl))

  all_fresh : (xs ys : ReadFolders) → length xs ≡ length ys → ((n : ℕ) → IsFresh xs n) → ((n : ℕ) → IsFresh ys n) → xs ≡ ys
  all_fresh [] [] e f g = refl
  all_fresh [] (y ∷ ys) e f g = absurd (omega arith)
  all_fresh (x ∷ xs) [] e f g = absurd (omega arith)
  all_fresh (x ∷ xs) (y ∷ ys) e f g =
      let first : x ≡ y = f 0 ∙ sym (g 0) in
      let rest : xs ≡ ys = all_fresh xs ys (omega (arith, e)) (λ n. f (suc n)) (λ n. g (suc n)) in
      (λ i. first i ∷ rest i)

  pub one_walk : (k : ℕ) (a b : ReadFolders) → WalkedIn k a → WalkedIn k b → a ≡ b
  unfolding WalkedIn
  one_walk zero a b w v = all_fresh a b (w.0 ∙ sym v.0) w.1 v.1
  one_walk (suc k) a b w v =
      let before : w.0 ≡ v.0 = one_walk k w.0 v.0 w.1 v.1 in
      let there : Step v.0 w.2 w.3 = subst (λ (s : ReadFolders). Step s w.2 w.3) before w.4 in
      w.5 ∙ ap (λ (s : ReadFolders). slice_set s w.2 (Some w.3)) before ∙ one_step v.0 w.2 v.2 w.3 v.3 there v.4 ∙ sym v.5

  -- a walk that can't go on
  abbrev pub IsStuck : ReadFolders → Type 0
  IsStuck slots = (n : ℕ) (files : List PackageFile) → Step slots n files → ⊥

  -- a shorter walk is the beginning of a longer one
  goes_on : (j k : ℕ) (b : ReadFolders) → j < k → WalkedIn k b → (c : ReadFolders) × WalkedIn j c × (n : ℕ) × (files : List PackageFile) × Step c n files
  unfolding WalkedIn
  goes_on j zero b h w = absurd (omega (arith, h))
  goes_on j (suc k) b h w = elim (below_or j k) [
    | inl less ↦ goes_on j k w.0 less w.1
    | inr rest ↦ let e : k ≡ j = omega (arith, h, rest) in (w.0, subst (λ (m : ℕ). WalkedIn m w.0) e w.1, w.2, w.3, w.4)
  ]

  pub never_longer : (j k : ℕ) (a b : ReadFolders) → j < k → WalkedIn j a → IsStuck a → WalkedIn k b → ⊥
  never_longer j k a b h w stuck v =
      let g = goes_on j k b h v in
      stuck g.2 g.3 (subst (λ (s : ReadFolders). Step s g.2 g.3) (one_walk j g.0 a g.1 w) g.4)

  pub one_end : (a b : ReadFolders) → Walked client module_path folders gives a → Walked client module_path folders gives b → IsStuck a → IsStuck b → a ≡ b
  one_end a b w v s t =
      let c = counted w in
      let d = counted v in
      elim (below_or c.0 d.0) [
        | inl less ↦ absurd (never_longer c.0 d.0 a b less c.1 s d.1)
        | inr rest ↦ elim (below_or d.0 c.0) [
          | inl less ↦ absurd (never_longer d.0 c.0 b a less d.1 t c.1)
          | inr more ↦ let e : d.0 ≡ c.0 = omega (arith, rest, more) in one_walk c.0 a b c.1 (subst (λ (k : ℕ). WalkedIn k b) e d.1)
        ]
      ]
