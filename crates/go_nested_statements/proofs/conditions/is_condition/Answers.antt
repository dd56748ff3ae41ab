use Rattle.go_clauses.specs.Clauses.{IsConditionOf}
use Rattle.go_flat_statements.proofs.go_walks_proofs.Told.{asked_holds}
use Rattle.go_nested_statements.proofs.conditions.is_condition.Goals as goal

pub returns : goal.returns
returns c = asked_holds (λ F. IsConditionOf F c.args.expr.now) c.new-context.result.env.now c.args.env.now c.new-context.ensures c.condition.result c.holds.result c.holds.ensures c.condition.ensures
