use Rattle.std.proofs.Common.{sym}
use Rattle.go_assignments.proofs.SideForms.{assigned_by_shape}
use Rattle.go_assignments.proofs.sides.assigned_type.Goals as goal

pub returns-then-is_assignable : goal.returns-then-is_assignable
returns-then-is_assignable c = assigned_by_shape c.args.operand.now _ c.in-Of.is (sym c.if-is_assignable.ensures)
