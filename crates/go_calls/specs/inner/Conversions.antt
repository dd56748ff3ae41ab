-- Calls of types, over operands.
use Rattle.std.specs.Prelude.{Bool, false, List, [], ◌∷◌}
use Rattle.go_model.specs.declared.types.term.Term.{Term}
use Rattle.go_rules.specs.Environments.{Env}
use Rattle.go_rules.specs.Expressions.{Converts}
use Rattle.go_rules.specs.declared.operand.Operand.{Operand}

-- the conversion of one operand to the type
pub data ConvertsOne (E : Env) (t : Term) : List Operand → (dots : Bool) → Operand → Type 0 where
  converts_one : {o r : Operand} → Converts E o t r → ConvertsOne E t (o ∷ []) false r
