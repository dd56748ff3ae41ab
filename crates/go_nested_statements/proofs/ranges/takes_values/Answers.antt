use Rattle.go_clauses.specs.Clauses.{TakesValues}
use Rattle.go_flat_statements.proofs.go_walks_proofs.Told.{asked_so}
use Rattle.go_nested_statements.proofs.ranges.takes_values.Goals as goal

pub returns : goal.returns
returns c = asked_so (λ F. TakesValues F c.args.sides.now c.args.terms.now) c.new-context.result.env.now c.args.env.now c.new-context.ensures c.range_assigned.result c.range_assigned.ensures
