use Rattle.go_type_terms.specs.Answers.{env_in}
use Rattle.go_entries.proofs.VariableSpecs.{given_default, truth_default}
use Rattle.go_assignments.proofs.values.default_kind.Goals as goal

pub returns-then-is_loose_truth : goal.returns-then-is_loose_truth
returns-then-is_loose_truth c = truth_default (env_in c.args.context.now) c.args.operand.now c.if-is_loose_truth.ensures

pub returns : goal.returns
returns c = given_default (env_in c.args.context.now) c.args.operand.now c.constant_kind.result c.if-is_loose_truth.ensures c.constant_kind.ensures
