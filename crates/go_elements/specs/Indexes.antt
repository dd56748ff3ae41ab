-- Index expressions, over operands.
-- Public source: Go specification, "Index expressions".
use Rattle.std.specs.Prelude.{◌≡◌, ℕ, Option, Some}
use Rattle.go_model.specs.declared.constants.value.Basic.TheVariants as basic
use Rattle.go_model.specs.declared.types.term.Term.{Term, Term-F}
use Rattle.go_model.specs.types.Underlying.{under}
use Rattle.go_rules.specs.Environments.{Env}
use Rattle.go_rules.specs.Expressions.{Below, IsIndex, IsString, reached}
use Rattle.go_rules.specs.Operands.{IsTyped, basic_term, is_variable, plain, value_of, variable}
use Rattle.go_rules.specs.Usability.{UsableAs}
use Rattle.go_rules.specs.declared.operand.Mode.TheVariants as mode
use Rattle.go_rules.specs.declared.operand.Operand.{Operand}

-- the element of an operand at an index, or at a key
pub data Indexes (E : Env) : Operand → Operand → Operand → Type 0 where
  indexes_array : {o i : Operand} {t e : Term} {n : ℕ} {c : Option ℕ} → IsTyped o t → under E.table t ≡ Term-F.Array n e → IsIndex E i c → Below c (Some n) → Indexes E o i (value_of (reached (is_variable o.mode)) e)
  indexes_array_pointer : {o i : Operand} {t base e : Term} {n : ℕ} {c : Option ℕ} → IsTyped o t → under E.table t ≡ Term-F.Pointer base → under E.table base ≡ Term-F.Array n e → IsIndex E i c → Below c (Some n) → Indexes E o i (variable e)
  indexes_slice : {o i : Operand} {t e : Term} {c : Option ℕ} → IsTyped o t → under E.table t ≡ Term-F.Slice e → IsIndex E i c → Indexes E o i (variable e)
  indexes_string : {o i : Operand} {n c : Option ℕ} → IsString E o n → IsIndex E i c → Below c n → Indexes E o i (plain (basic_term basic.Uint8))
  indexes_map : {o i : Operand} {t k e : Term} → IsTyped o t → under E.table t ≡ Term-F.Map k e → UsableAs E i k → Indexes E o i (value_of mode.MapElement e)
