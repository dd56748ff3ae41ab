-- The parts of a selector.
use Rattle.std.specs.Prelude.{Bool, true, false, if◌then◌else◌}
use Rattle.go_model.specs.declared.types.names.Sel.{Sel}
use Rattle.go_model.specs.declared.types.term.Signature.{Signature}
use Rattle.go_model.specs.declared.types.term.Term.{Term}
use Rattle.go_model.specs.types.Selectors.{field}
use Rattle.go_rules.specs.Environments.{Env, Found, HasMethod}
use Rattle.go_rules.specs.Expressions.{reached, with_receiver}
use Rattle.go_rules.specs.Operands.{function_of, plain, value_of}
use Rattle.go_rules.specs.declared.operand.Operand.{Operand}

-- a method of the type as a function
pub data SelectsFunction (E : Env) (s : Sel) (t : Term) : Operand → Type 0 where
  selects_expression : {g : Signature} → HasMethod E false t s g → SelectsFunction E s t (plain (function_of (with_receiver t g)))

-- a method of a value of the type, addressable or not
pub data SelectsMethod (E : Env) (s : Sel) (addressable : Bool) (t : Term) : Operand → Type 0 where
  selects_value : {g : Signature} → HasMethod E addressable t s g → SelectsMethod E s addressable t (plain (function_of g))

-- a field or method of a value of the type, addressable or not
pub data SelectsIn (E : Env) (s : Sel) (addressable : Bool) (t : Term) : Operand → Type 0 where
  in_field : {u : Term} {through : Bool} → Found E s t (record { through = through; target = field u }) → SelectsIn E s addressable t (value_of (reached (if through then true else addressable)) u)
  in_method : {r : Operand} → SelectsMethod E s addressable t r → SelectsIn E s addressable t r
