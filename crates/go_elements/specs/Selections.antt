-- Selectors after an operand.
-- Public source: Go specification, "Selectors" and "Method expressions".
use Rattle.std.specs.Prelude.{◌≡◌, ℕ, Bool, true, false, if◌then◌else◌, List}
use Rattle.go_model.specs.declared.types.term.Signature.{Signature}
use Rattle.go_model.specs.declared.types.term.Term.{Term}
use Rattle.go_model.specs.types.Selectors.{field}
use Rattle.go_rules.specs.Environments.{Env, Found, HasMethod, selector_of}
use Rattle.go_rules.specs.Expressions.{is_blank, reached, with_receiver}
use Rattle.go_rules.specs.Operands.{IsTyped, function_of, is_variable, plain, type_name, value_of}
use Rattle.go_rules.specs.declared.operand.Operand.{Operand}

-- a field or method of a value, or a method of a type as a function
pub data Selects (E : Env) (name : List ℕ) : Operand → Operand → Type 0 where
  selects_field : {o : Operand} {t u : Term} {through : Bool} → is_blank name ≡ false → IsTyped o t → Found E (selector_of E name) t (record { through = through; target = field u }) → Selects E name o (value_of (reached (if through then true else is_variable o.mode)) u)
  selects_method : {o : Operand} {t : Term} {g : Signature} → is_blank name ≡ false → IsTyped o t → HasMethod E (is_variable o.mode) t (selector_of E name) g → Selects E name o (plain (function_of g))
  selects_function : {t : Term} {g : Signature} → is_blank name ≡ false → HasMethod E false t (selector_of E name) g → Selects E name (type_name t) (plain (function_of (with_receiver t g)))
