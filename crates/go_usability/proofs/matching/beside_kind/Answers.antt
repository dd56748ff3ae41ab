use Rattle.go_rules.specs.Scopes.{env_of}
use Rattle.go_usability.proofs.Pairs.{of_right, of_kinds}
use Rattle.go_usability.proofs.matching.beside_kind.Goals as goal

pub returns-in_ok-used-in-Some : goal.returns-in_ok-used-in-Some
returns-in_ok-used-in-Some c = of_right (env_of c.args.context.now.env.now) c.args.left.now c.args.right.now c.in-Some.term.now c.args.kind c.in_ok-used-in-Some.used c.requires c.in-Some.ensures c.in_ok-used-in-Some.ensures

pub returns-in-Some-kind_of : goal.returns-in-Some-kind_of
returns-in-Some-kind_of c = of_kinds (env_of c.args.context.now.env.now) c.args.left.now c.args.right.now c.args.kind c.in-Some-kind_of.other c.of_kinds.result c.requires c.in-Some-kind_of.ensures c.of_kinds.ensures
