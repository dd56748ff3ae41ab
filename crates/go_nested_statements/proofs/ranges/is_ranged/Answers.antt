use Rattle.go_clauses.proofs.go_assignments_proofs.Decided.{gives_decides}
use Rattle.go_clauses.specs.Clauses.{RangesOver}
use Rattle.go_rules.specs.Scopes.{env_of}
use Rattle.go_nested_statements.proofs.ranges.is_ranged.Goals as goal

pub returns : goal.returns
returns c = gives_decides (RangesOver (env_of c.args.env.now) c.args.expr.now) c.in_ok-given.given c.in_ok-given.ensures c.is_some.result c.is_some.ensures
