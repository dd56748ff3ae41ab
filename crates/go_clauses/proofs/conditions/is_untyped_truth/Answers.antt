use Rattle.std.proofs.Common.{◌≡◌, subst}
use Rattle.go_rules.specs.Operands.{IsUntyped}
use Rattle.go_rules.proofs.OneKind.{one_untyped}
use Rattle.go_assignments.proofs.Decided.{decided_so}
use Rattle.go_model.specs.declared.constants.value.Untyped.TheVariants as untyped
use Rattle.go_clauses.proofs.conditions.is_untyped_truth.Goals as goal

pub returns-in-Some : goal.returns-in-Some
returns-in-Some c = decided_so (c.in-Some.kind ≡ untyped.BoolKind) (IsUntyped c.args.operand.now untyped.BoolKind) c.is_truth_kind.result (λ e. subst (IsUntyped c.args.operand.now) e c.in-Some.ensures) (λ h. one_untyped c.in-Some.ensures h) c.is_truth_kind.ensures

pub returns-in-None : goal.returns-in-None
returns-in-None c = λ h. c.in-None.ensures _ h
