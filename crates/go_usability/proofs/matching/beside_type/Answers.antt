use Rattle.go_rules.specs.Scopes.{env_of}
use Rattle.go_usability.proofs.Pairs.{of_types, of_left}
use Rattle.go_usability.proofs.matching.beside_type.Goals as goal

pub returns-in_ok-both-in-Some : goal.returns-in_ok-both-in-Some
returns-in_ok-both-in-Some c = λ left i. of_types (env_of c.args.context.now.env.now) left c.args.right.now c.args.term.now c.in-Some.other.now c.in_ok-both-in-Some.both i c.in-Some.ensures c.in_ok-both-in-Some.ensures

pub returns-in_ok-used-in-Some-kind_of : goal.returns-in_ok-used-in-Some-kind_of
returns-in_ok-used-in-Some-kind_of c = λ left i. of_left (env_of c.args.context.now.env.now) left c.args.right.now c.args.term.now c.in-Some-kind_of._kind c.in_ok-used-in-Some-kind_of.used i c.in-Some-kind_of.ensures c.in_ok-used-in-Some-kind_of.ensures
