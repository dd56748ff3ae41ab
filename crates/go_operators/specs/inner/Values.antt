-- Values that aren't constants, by the types underneath.
use Rattle.std.specs.Prelude.{◌≡◌, true, false}
use Rattle.go_model.specs.constants.Classes.{class_of_basic, is_integer}
use Rattle.go_model.specs.declared.constants.value.Basic.{Basic}
use Rattle.go_model.specs.declared.constants.value.Basic.TheVariants as basic
use Rattle.go_model.specs.declared.types.term.Term.{Term, Term-F}
use Rattle.go_model.specs.types.Underlying.{under}
use Rattle.go_rules.specs.Environments.{Env}
use Rattle.go_rules.specs.Expressions.{is_constant}
use Rattle.go_rules.specs.Operands.{IsTyped}
use Rattle.go_rules.specs.declared.operand.Operand.{Operand}

-- a value of an integer type
pub record IsIntegerValue (E : Env) (o : Operand) : Type 0 where
  pub variable : is_constant o.mode ≡ false
  pub term : Term
  pub typed : IsTyped o term
  pub underlying : Basic
  pub under_term : under E.table term ≡ Term-F.Plain underlying
  pub integer : is_integer (class_of_basic underlying) ≡ true

-- a value of a string type
pub record IsStringValue (E : Env) (o : Operand) : Type 0 where
  pub variable : is_constant o.mode ≡ false
  pub term : Term
  pub typed : IsTyped o term
  pub under_term : under E.table term ≡ Term-F.Plain basic.Str
