-- The name that a name is after aliases, step by step.
use Rattle.std.proofs.Common.{◌≡◌, ℕ, zero, suc, List, None, Some, refl, ap}
use Rattle.go_syntax.specs.declared.name.QualifiedName.{QualifiedName}
use Rattle.go_declarations.specs.go_typings.Declarations.{Declaration}
use Rattle.go_declarations.specs.go_typings.Receivers.{next_or, own_aliased, unaliased}

module _ (ds : List Declaration) where
  pub alias_done : (n : ℕ) (q : QualifiedName) → own_aliased ds q.qualifier q.name ≡ None → unaliased ds n q ≡ q
  unfolding unaliased
  alias_done zero q e = refl
  alias_done (suc n) q e = ap (λ o. next_or q o (unaliased ds n)) e

  pub alias_more : (n : ℕ) (q r : QualifiedName) → own_aliased ds q.qualifier q.name ≡ Some r → unaliased ds (suc n) q ≡ unaliased ds n r
  unfolding unaliased
  alias_more n q r e = ap (λ o. next_or q o (unaliased ds n)) e

  pub alias_start : (q : QualifiedName) → unaliased ds 0 q ≡ q
  unfolding unaliased
  alias_start q = refl
