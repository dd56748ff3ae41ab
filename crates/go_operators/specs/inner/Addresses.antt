-- What has an address.
use Rattle.std.specs.Prelude.{Bool, true}
use Rattle.go_model.specs.declared.types.term.Term.{Term}
use Rattle.go_rules.specs.Operands.{plain, variable}
use Rattle.go_rules.specs.declared.operand.Operand.{Operand}

-- a variable of the type, or a composite literal
pub data HasAddress : (composite : Bool) → Operand → Term → Type 0 where
  variable_address : {composite : Bool} {t : Term} → HasAddress composite (variable t) t
  literal_address : {t : Term} → HasAddress true (plain t) t
