-- Which declarations have a rank: those from which no way along what they come after goes on without end.
-- Own.
use Rattle.std.specs.Prelude.{◌≡◌, ◌<◌, ℕ, Option, None, Some, length}
use Rattle.go_typings.specs.Assignments.{At}
use Rattle.go_typings.specs.DeclarationNodes.{strong_references}
use Rattle.go_typings.specs.Declarations.{declarations}
use Rattle.go_typings.specs.PackageEnvironments.{Entries, environment}
use Rattle.go_typings.specs.References.{NamesDeclaration}
use Rattle.go_typings.specs.Sources.{PackageSource, Setting}

module _ (s : Setting) (u : PackageSource) (a : Entries) where
  -- the second declaration has to be settled before the first
  abbrev pub ComesAfter : ℕ → ℕ → Type 0
  ComesAfter m n = At (declarations u) m (λ d. NamesDeclaration (environment s u a d) u d.form (strong_references d.form) n)

  -- all that the declaration comes after has a rank
  pub data HasRank : ℕ → Type 0 where
    ranked : {m : ℕ} → ((n : ℕ) → ComesAfter m n → HasRank n) → HasRank m

  -- ranks of some declarations, and what each of the others comes after that has none either
  pub record AreRanks (ranks : ℕ → Option ℕ) : Type 0 where
    pub falls : (m n r : ℕ) → ranks m ≡ Some r → ComesAfter m n → (q : ℕ) × (ranks n ≡ Some q) × (q < r)
    pub stuck : (m : ℕ) → m < length (declarations u) → ranks m ≡ None → (n : ℕ) × ComesAfter m n × (ranks n ≡ None)
