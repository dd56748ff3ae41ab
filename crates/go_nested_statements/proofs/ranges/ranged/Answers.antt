use Rattle.go_clauses.specs.Clauses.{RangesOver}
use Rattle.go_flat_statements.proofs.go_walks_proofs.Told.{asked_found}
use Rattle.go_nested_statements.proofs.ranges.ranged.Goals as goal

pub returns : goal.returns
returns c = asked_found (λ F. RangesOver F c.args.expr.now) c.new-context.result.env.now c.args.env.now c.new-context.ensures c.range.result c.found.result c.found.ensures c.range.ensures
