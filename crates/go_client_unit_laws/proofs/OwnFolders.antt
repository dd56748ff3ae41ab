-- As long as a folder of the module is left, the folders are read in the same order with every client and with none.
use Rattle.std.proofs.Common.{◌≡◌, ◌≢◌, ◌⊎◌, ◌<◌, ◌≤◌, ℕ, zero, suc, Bool, true, false, List, [], length, refl, sym, ◌∙◌, subst, inl, inr, arith}
use mathlib.Core.Bool.{true≢false}
use Rattle.go_client_unit_laws.proofs.OneRefusal.{stuck_refused}
use Rattle.go_client_unit_laws.proofs.OneWalk.{WalkedIn, counted, never_longer, one_walk}
use Rattle.go_client_walks.proofs.ReachedFolders.{was_fresh}
use Rattle.go_client_walks.proofs.WalkedFiles.{walked_rows}
use Rattle.go_client_walks.specs.ClientWalks.{IsFirstRefusal, IsNextFolder, IsOwnRefusal, ModuleIsRead, Walked, start, next}
use Rattle.go_imports.proofs.Members.{below_or}
use Rattle.go_units.specs.Folders.{AreOrdered}
use Rattle.go_units.specs.Reached.{ComesFirst, IsFresh, ReadFolders, is_std}
use Rattle.go_units.specs.declared.folder.Folder.{Folder}
use Rattle.go_units.specs.declared.package_uses.PackageFile.{PackageFile}
use Rattle.go_units.specs.declared.reader.Reading.{Reading}
use Rattle.go_units.specs.declared.unit_error.UnitError.{UnitError}
use Rattle.go_units.specs.declared.unit_error.UnitError.TheVariants as error

-- what comes before a folder of the module is one
own_by : (s t : Bool) (m n : ℕ) → t ≡ false → ((s ≡ false) × (t ≡ true)) ⊎ ((s ≡ t) × (m ≤ n)) → s ≡ false
own_by s t m n own (inl a) = absurd (true≢false (sym a.1 ∙ own))
own_by s t m n own (inr b) = b.0 ∙ own

module _ (client : List PackageFile) (module_path : List ℕ) (folders : List Folder) where
  first_by : (slots : ReadFolders) (m k : ℕ) (b : Bool) → is_std folders k ≡ b → is_std folders m ≡ false → IsNextFolder [] module_path folders slots m → k < length folders → IsFresh slots k → ComesFirst module_path folders m k
  first_by slots m k true e own i within fresh = inl (own, e)
  first_by slots m k false e own i within fresh = i.first k (record { within = within; why = inl e }) fresh

  next_with : (slots : ReadFolders) (m : ℕ) → is_std folders m ≡ false → IsNextFolder [] module_path folders slots m → IsNextFolder client module_path folders slots m
  next_with slots m own i = record {
    wanted = record { within = i.wanted.within; why = inl own };
    fresh = i.fresh;
    first = λ k w f. first_by slots m k (is_std folders k) refl own i w.within f;
  }

  -- a folder that is next where one of the module is left is of the module
  own_next : (slots : ReadFolders) (m n : ℕ) → n < length folders → is_std folders n ≡ false → IsFresh slots n → IsNextFolder [] module_path folders slots m → is_std folders m ≡ false
  own_next slots m n within own fresh i = own_by (is_std folders m) (is_std folders n) m n own (i.first n (record { within = within; why = inl own }) fresh)

  module _ (gives : ℕ → Reading → Type 0) where
    walk_with : {slots : ReadFolders} → Walked [] module_path folders gives slots → (n : ℕ) → n < length folders → is_std folders n ≡ false → IsFresh slots n → Walked client module_path folders gives slots
    walk_with (start e f) n within own fresh = start e f
    walk_with (next {slots = slots} {n = m} {sources = sources} {files = files} w i r a) n within own fresh =
        let there : m < length slots = omega (arith, walked_rows [] module_path folders gives w, i.wanted.within) in
        let before : IsFresh slots n = was_fresh slots m files there n fresh in
        next (walk_with w n within own before) (next_with slots m (own_next slots m n within own before i) i) r a

    -- the first refusal among the folders of the module is the first of all
    pub own_first : (e : UnitError) → IsOwnRefusal module_path folders gives [] e → IsFirstRefusal client module_path folders gives e
    own_first e (slots, w, n, i, own, r) = (slots, walk_with w n i.wanted.within own i.fresh, n, next_with slots n own i, r)

module _ (module_path : List ℕ) (folders : List Folder) (ordered : AreOrdered folders) (gives : ℕ → Reading → Type 0) (one : (n : ℕ) (a b : Reading) → gives n a → gives n b → a ≡ b) where
  abbrev In : ℕ → ReadFolders → Type 0
  In k slots = WalkedIn [] module_path folders ordered gives one k slots

  rows_in : (k : ℕ) (slots : ReadFolders) → In k slots → Walked [] module_path folders gives slots
  unfolding WalkedIn
  rows_in zero slots w = start w.0 w.1
  rows_in (suc k) slots w = subst (Walked [] module_path folders gives) (sym w.5) (next (rows_in k w.0 w.1) w.4.is_next w.4.read w.4.accepted)

  -- what isn't read yet wasn't read before
  before : (j k : ℕ) (slots : ReadFolders) → j ≤ k → In k slots → (c : ReadFolders) × In j c × ((n : ℕ) → IsFresh slots n → IsFresh c n)
  unfolding WalkedIn
  before j zero slots h w = let e : 0 ≡ j = omega (arith, h) in (slots, subst (λ (m : ℕ). In m slots) e w, λ n f. f)
  before j (suc k) slots h w = elim (below_or j (suc k)) [
    | inl less ↦ (
        let c = before j k w.0 (omega (arith, less)) w.1 in
        let there : w.2 < length w.0 = omega (arith, walked_rows [] module_path folders gives (rows_in k w.0 w.1), w.4.is_next.wanted.within) in
        (c.0, c.1, λ n f. c.2 n (was_fresh w.0 w.2 w.3 there n (subst (λ (s : ReadFolders). IsFresh s n) w.5 f)))
        )
    | inr rest ↦ (let e : suc k ≡ j = omega (arith, h, rest) in (slots, subst (λ (m : ℕ). In m slots) e w, λ n f. f))
  ]

  -- no folder of the module is refused where all are read
  pub own_or_read : (e : UnitError) (slots : ReadFolders) → e ≢ error.NoMemory → IsOwnRefusal module_path folders gives [] e → ModuleIsRead module_path folders gives slots → ⊥
  own_or_read e slots s a m =
      let c = counted [] module_path folders ordered gives one a.1 in
      let d = counted [] module_path folders ordered gives one m.walked in
      elim (below_or c.0 d.0) [
        | inl less ↦ never_longer [] module_path folders ordered gives one c.0 d.0 a.0 slots less c.1 (stuck_refused [] module_path folders ordered gives one a.0 a.2 e s a.3 a.5) d.1
        | inr rest ↦ (
            let k = before d.0 c.0 a.0 rest c.1 in
            let same : k.0 ≡ slots = one_walk [] module_path folders ordered gives one d.0 k.0 slots k.1 d.1 in
            m.all a.2 a.3.wanted.within a.4 (subst (λ (w : ReadFolders). IsFresh w a.2) same (k.2 a.2 a.3.fresh))
            )
      ]
