-- Entries to which no further one is given, and a sieve of the declarations: which of them are lost.
-- Own.
use Rattle.std.specs.Prelude.{◌≡◌, ◌<◌, ℕ, Bool, true, false, None, Some, is_some, length}
use Rattle.go_typings.specs.Assignments.{At, Below}
use Rattle.go_typings.specs.Declarations.{declarations}
use Rattle.go_typings.specs.PackageEnvironments.{Entries, Entry}
use Rattle.go_typings.specs.References.{LeadsTo}
use Rattle.go_typings.specs.Sources.{PackageSource, Setting}
use Rattle.go_typings.specs.Typings.{given}
use Rattle.go_soundness.specs.LostDeclarations.{Depends, HasInLength, IsLost, MeetsAsks}
use Rattle.go_soundness.specs.Ranks.{ComesAfter}

-- the declaration of this number has an entry
abbrev pub is_had : Entries → ℕ → Bool
is_had a n = is_some (a n)

module _ (s : Setting) (u : PackageSource) where
  -- the entries are had from below, and no declaration without one is given one
  pub record AreAll (a : Entries) : Type 0 where
    pub had : Below (given s u) (declarations u) (is_had a) a
    pub stuck : (n : ℕ) → a n ≡ None → At (declarations u) n (λ d. (x : Entry) × given s u a d x) → ⊥

  -- those that are marked are lost, and the others have all that a typing asks
  pub record AreSifted (a : Entries) (lost : ℕ → Bool) : Type 0 where
    pub marked : (n : ℕ) → n < length (declarations u) → lost n ≡ true → IsLost s u a n
    pub entered : (n : ℕ) → n < length (declarations u) → lost n ≡ false → (x : Entry) × (a n ≡ Some x)
    pub rank : ℕ → ℕ
    pub falls : (m n : ℕ) → lost m ≡ false → ComesAfter s u a m n → rank n < rank m
    pub straight : (m n : ℕ) → lost m ≡ false → HasInLength s u a m n → LeadsTo s u a n m → ⊥
    pub meets : (n : ℕ) → n < length (declarations u) → lost n ≡ false → MeetsAsks s u a n
    pub closed : (m n : ℕ) → lost m ≡ false → Depends s u a m n → lost n ≡ false
