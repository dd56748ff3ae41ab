-- The elements of what an index may stand after.
use Rattle.std.specs.Prelude.{◌≡◌, ℕ, Option, Some, None}
use Rattle.go_model.specs.declared.constants.value.Basic.TheVariants as basic
use Rattle.go_model.specs.declared.types.term.Term.{Term-F}
use Rattle.go_model.specs.types.Terms.{Layer}
use Rattle.go_model.specs.types.Underlying.{under}
use Rattle.go_rules.specs.Environments.{Env}
use Rattle.go_rules.specs.Expressions.{Below, IsIndex, reached}
use Rattle.go_rules.specs.Operands.{basic_term, is_variable, plain, value_of, variable}
use Rattle.go_rules.specs.Usability.{UsableAs}
use Rattle.go_rules.specs.declared.operand.Mode.{Mode}
use Rattle.go_rules.specs.declared.operand.Mode.TheVariants as mode
use Rattle.go_rules.specs.declared.operand.Operand.{Operand}

-- the operand is an index below the length, where that is known
pub data IsIndexBelow (E : Env) (i : Operand) (limit : Option ℕ) : Type 0 where
  index_below : {c : Option ℕ} → IsIndex E i c → Below c limit → IsIndexBelow E i limit

-- the element at an index of what a pointer to this underlying type points to
abbrev pub ElementOfBase : Env → Operand → Layer → Operand → Type 0
ElementOfBase E i (Term-F.Array n e) r = IsIndexBelow E i (Some n) × (r ≡ variable e)
ElementOfBase E i l r = ⊥

-- the element at an index of a value of this mode with this underlying type
abbrev pub ElementAt : Env → Mode → Operand → Layer → Operand → Type 0
ElementAt E m i (Term-F.Array n e) r = IsIndexBelow E i (Some n) × (r ≡ value_of (reached (is_variable m)) e)
ElementAt E m i (Term-F.Pointer base) r = ElementOfBase E i (under E.table base) r
ElementAt E m i (Term-F.Slice e) r = IsIndexBelow E i None × (r ≡ variable e)
ElementAt E m i (Term-F.Map k e) r = UsableAs E i k × (r ≡ value_of mode.MapElement e)
ElementAt E m i l r = ⊥

-- the byte of a string at an index
abbrev pub ByteAt : Env → Option ℕ → Operand → Operand → Type 0
ByteAt E limit i r = IsIndexBelow E i limit × (r ≡ plain (basic_term basic.Uint8))
