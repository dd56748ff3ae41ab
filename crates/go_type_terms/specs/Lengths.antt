-- Lengths of arrays.
-- Public source: Go specification, "Array types".
use Rattle.std.specs.Prelude.{◌≡◌, ℕ, pos, true}
use Rattle.go_model.specs.constants.Constants.{is_representable}
use Rattle.go_model.specs.declared.constants.value.Basic.TheVariants as basic
use Rattle.go_model.specs.declared.constants.value.Value.{Value}
use Rattle.go_model.specs.declared.constants.value.Value.TheVariants as value
use Rattle.go_model.specs.declared.types.package.ConstTerm.{ConstTerm}
use Rattle.go_rules.specs.Operands.{constant_of}
use Rattle.go_rules.specs.declared.operand.Operand.{Operand}

-- the whole number, which is representable in an int of so many bits
abbrev pub IsLengthValue : ℕ → Value → ℕ → Type 0
IsLengthValue bits v n = (v ≡ value.Int (pos n)) × (is_representable (value.Int (pos n)) basic.Int bits ≡ true)

-- a constant that is the length of an array
abbrev pub IsLength : ℕ → Operand → ℕ → Type 0
IsLength bits o n = (c : ConstTerm) × (o ≡ constant_of c (value.Int (pos n))) × (is_representable (value.Int (pos n)) basic.Int bits ≡ true)
