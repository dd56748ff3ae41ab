use Rattle.go_type_terms.specs.Answers.{env_in}
use Rattle.go_clauses.proofs.Guarding.{no_interface}
use Rattle.go_clauses.proofs.guards.interface_of.Goals as goal

pub returns-then-is_interface : goal.returns-then-is_interface
returns-then-is_interface c = (c.if-is_interface.ensures.0, c.in-Some.ensures, c.if-is_interface.ensures.1)

pub returns-else-is_interface : goal.returns-else-is_interface
returns-else-is_interface c = no_interface (env_in c.args.context.now) c.in-Some.ensures c.if-is_interface.ensures

pub returns-in-None : goal.returns-in-None
returns-in-None c = λ t i. c.in-None.ensures t i.1
