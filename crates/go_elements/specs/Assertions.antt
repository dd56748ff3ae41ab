-- Type assertions, over operands.
-- Public source: Go specification, "Type assertions".
use Rattle.std.specs.Prelude.{◌≡◌, List}
use Rattle.go_model.specs.declared.types.term.Method.{Method}
use Rattle.go_model.specs.declared.types.term.Term.{Term, Term-F}
use Rattle.go_model.specs.types.Underlying.{under}
use Rattle.go_rules.specs.Environments.{Env}
use Rattle.go_rules.specs.Expressions.{MayHold}
use Rattle.go_rules.specs.Operands.{IsTyped, plain}
use Rattle.go_rules.specs.declared.operand.Operand.{Operand}

-- the assertion that a value of an interface type is of a type
pub data Asserts (E : Env) : Operand → Term → Operand → Type 0 where
  asserts : {o : Operand} {t u : Term} {ms : List Method} → IsTyped o t → under E.table t ≡ Term-F.Interface ms → MayHold E t u → Asserts E o u (plain u)
