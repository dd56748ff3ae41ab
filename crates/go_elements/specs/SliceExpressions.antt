-- Slice expressions, over operands.
-- Public source: Go specification, "Slice expressions".
use Rattle.std.specs.Prelude.{ℕ, true, false, Option, Some, None, [], ◌∷◌}
use Rattle.go_rules.specs.Environments.{Env}
use Rattle.go_rules.specs.Expressions.{Ascend, Has, IsIndex, Slices}
use Rattle.go_rules.specs.declared.operand.Operand.{Operand}
use Rattle.go_syntax.specs.declared.expression.Expr.{Expr}

-- an index that may be left out, and its value where it is constant
pub data IsOptionalIndex (E : Env) : Option Operand → Option ℕ → Type 0 where
  index_left_out : IsOptionalIndex E None None
  index_given : {i : Operand} {c : Option ℕ} → IsIndex E i c → IsOptionalIndex E (Some i) c

-- the slice of an operand by two indices
pub data SlicesSimply (E : Env) : Operand → Option Operand → Option Operand → Operand → Type 0 where
  slices_simply : {o r : Operand} {low high : Option Operand} {n i j : Option ℕ} → Slices E true o n r → IsOptionalIndex E low i → IsOptionalIndex E high j → Ascend (i ∷ j ∷ []) n → SlicesSimply E o low high r

-- the slice of an operand by three indices
pub data SlicesFully (E : Env) : Operand → Option Operand → Operand → Operand → Operand → Type 0 where
  slices_fully : {o r high bound : Operand} {low : Option Operand} {n i j k : Option ℕ} → Slices E false o n r → IsOptionalIndex E low i → IsIndex E high j → IsIndex E bound k → Ascend (i ∷ j ∷ k ∷ []) n → SlicesFully E o low high bound r

-- an index that may be left out, and its operand where it stands
pub data HasWhere (E : Env) : Option Expr → Option Operand → Type 0 where
  where_left_out : HasWhere E None None
  where_given : {e : Expr} {i : Operand} → Has E e i → HasWhere E (Some e) (Some i)
