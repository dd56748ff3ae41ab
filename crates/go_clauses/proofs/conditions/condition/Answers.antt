use Rattle.go_rules.specs.Asks.{HasOperand}
use Rattle.go_type_terms.specs.Answers.{env_in}
use Rattle.go_type_terms.proofs.Handed.{told_told}
use Rattle.go_clauses.specs.Clauses.{IsConditionOf}
use Rattle.go_clauses.proofs.Tagging.{no_condition}
use Rattle.go_clauses.proofs.conditions.condition.Goals as goal

pub returns-in_err-tested : goal.returns-in_err-tested
returns-in_err-tested c =
    let E = env_in c.args.context.now in
    told_told (HasOperand E c.args.expr.now) (λ (u : Unit {0}). IsConditionOf E c.args.expr.now) c.in_err-tested.field-0.0 c.from_residual.result c.from_residual.ensures.1 c.in_err-tested.ensures (λ u h. (h.0, h.1))

pub returns-then-not-is_truth : goal.returns-then-not-is_truth
returns-then-not-is_truth c = λ u. no_condition (env_in c.args.context.now) c.in_ok-tested.ensures c.if-not-is_truth.ensures

pub returns : goal.returns
returns c = (c.in_ok-tested.tested, c.in_ok-tested.ensures, c.if-not-is_truth.ensures)
