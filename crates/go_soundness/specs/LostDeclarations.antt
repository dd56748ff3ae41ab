-- The declarations that are lost, where these entries are had: those that fail by themselves, and those that depend on a lost one.
-- Own.
use Rattle.std.specs.Prelude.{◌≡◌, ◌<◌, ℕ, None, length}
use Rattle.go_typings.specs.Assignments.{At}
use Rattle.go_typings.specs.DeclarationAsks.{Asks}
use Rattle.go_typings.specs.DeclarationNodes.{length_references}
use Rattle.go_typings.specs.Declarations.{declarations}
use Rattle.go_typings.specs.PackageEnvironments.{Entries, environment}
use Rattle.go_typings.specs.References.{DependsOn, LeadsTo, NamesDeclaration}
use Rattle.go_typings.specs.Sources.{PackageSource, Setting}
use Rattle.go_soundness.specs.Ranks.{HasRank}

module _ (s : Setting) (u : PackageSource) (a : Entries) where
  -- a name in the length of an array is that of the second declaration
  abbrev pub HasInLength : ℕ → ℕ → Type 0
  HasInLength m n = At (declarations u) m (λ d. NamesDeclaration (environment s u a d) u d.form (length_references d.form) n)

  -- the declaration meets what it is asked
  abbrev pub MeetsAsks : ℕ → Type 0
  MeetsAsks n = At (declarations u) n (λ d. Asks (environment s u a d) u n d.form)

  abbrev pub Depends : ℕ → ℕ → Type 0
  Depends m n = At (declarations u) m (λ d. DependsOn u d.form n)

  pub data IsLost : ℕ → Type 0 where
    lost_without_entry : {n : ℕ} → n < length (declarations u) → a n ≡ None → IsLost n
    lost_without_rank : {n : ℕ} → (HasRank s u a n → ⊥) → IsLost n
    lost_by_length : {m : ℕ} (n : ℕ) → HasInLength m n → LeadsTo s u a n m → IsLost m
    lost_by_asks : {n : ℕ} → n < length (declarations u) → (MeetsAsks n → ⊥) → IsLost n
    lost_by_another : {m : ℕ} (n : ℕ) → Depends m n → IsLost n → IsLost m
