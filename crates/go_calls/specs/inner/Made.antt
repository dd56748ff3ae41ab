-- The sizes of what is made.
use Rattle.std.specs.Prelude.{ℕ, Option, List}
use Rattle.go_rules.specs.Environments.{Env}
use Rattle.go_rules.specs.Expressions.{Sizes}
use Rattle.go_rules.specs.declared.operand.Operand.{Operand}
use Rattle.go_calls.specs.Builtins.{AreSizes}

-- the operands are sizes, of two constant ones the first not above the second
pub record FitSizes (E : Env) (os : List Operand) : Type 0 where
  pub numbers : List (Option ℕ)
  pub sizes : AreSizes E os numbers
  pub fit : Sizes numbers
