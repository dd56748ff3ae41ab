-- What predeclared names denote that aren't types.
-- Public source: Go specification, "Predeclared identifiers" and "Iota".
use Rattle.std.specs.Prelude.{ℕ, Option, Some, None, true, false}
use Rattle.go_model.specs.declared.constants.value.Untyped.TheVariants as untyped
use Rattle.go_model.specs.declared.constants.value.Value.TheVariants as value
use Rattle.go_model.specs.declared.types.package.ConstTerm.TheVariants as constant
use Rattle.go_rules.specs.Operands.{builtin, constant_of, nil}
use Rattle.go_rules.specs.Universe.{iota_operand}
use Rattle.go_rules.specs.declared.operand.Operand.{Operand}
use Rattle.go_rules.specs.declared.predeclared.Predeclared.{Predeclared}
use Rattle.go_rules.specs.declared.predeclared.Predeclared.TheVariants as p

-- a constant, nil or a builtin function, where `iota` has this value or none
abbrev pub value_operand : Option ℕ → Predeclared → Option Operand
value_operand iota p.True = Some (constant_of (constant.OfKind untyped.BoolKind) (value.Truth true))
value_operand iota p.False = Some (constant_of (constant.OfKind untyped.BoolKind) (value.Truth false))
value_operand iota p.Iota = iota_operand iota
value_operand iota p.Nil = Some nil
value_operand iota p.Append = Some (builtin p.Append)
value_operand iota p.Cap = Some (builtin p.Cap)
value_operand iota p.Close = Some (builtin p.Close)
value_operand iota p.Copy = Some (builtin p.Copy)
value_operand iota p.Delete = Some (builtin p.Delete)
value_operand iota p.Len = Some (builtin p.Len)
value_operand iota p.Make = Some (builtin p.Make)
value_operand iota p.New = Some (builtin p.New)
value_operand iota p.Panic = Some (builtin p.Panic)
value_operand iota p.Print = Some (builtin p.Print)
value_operand iota p.Println = Some (builtin p.Println)
value_operand iota p.Recover = Some (builtin p.Recover)
value_operand iota other = None
