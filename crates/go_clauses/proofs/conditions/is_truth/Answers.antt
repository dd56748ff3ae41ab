use Rattle.go_statement_rules.specs.Statements.{IsTruth, truth_typed, truth_untyped}
use Rattle.go_type_terms.specs.Answers.{env_in}
use Rattle.go_assignments.proofs.Decided.{decided_so}
use Rattle.go_clauses.proofs.Tagging.{typed_truth, untyped_in}
use Rattle.std.proofs.Common.{◌≡◌}
use Rattle.go_model.specs.declared.constants.value.Basic.TheVariants as basic
use Rattle.go_model.specs.declared.constants.value.Untyped.TheVariants as untyped
use Rattle.go_model.specs.declared.types.term.Term.{Term-F}
use Rattle.go_model.specs.types.Underlying.{under}
use Rattle.go_rules.specs.Operands.{IsUntyped}
use Rattle.go_clauses.proofs.conditions.is_truth.Goals as goal

pub returns-in-Some : goal.returns-in-Some
returns-in-Some c =
    let E = env_in c.args.context.now in
    decided_so (under E.table c.in-Some.term.now ≡ Term-F.Plain basic.Bool) (IsTruth E c.args.operand.now) c.is_bool.result (λ i. truth_typed c.in-Some.ensures i) (typed_truth E c.in-Some.ensures) c.is_bool.ensures

pub returns-in-None : goal.returns-in-None
returns-in-None c =
    let E = env_in c.args.context.now in
    decided_so (IsUntyped c.args.operand.now untyped.BoolKind) (IsTruth E c.args.operand.now) c.is_untyped_truth.result (λ i. truth_untyped i) (untyped_in E c.in-None.ensures) c.is_untyped_truth.ensures
