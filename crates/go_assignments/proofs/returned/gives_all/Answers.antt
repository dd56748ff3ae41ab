use Rattle.std.proofs.Common.{map}
use Rattle.go_operators.proofs.Answers.{decided_false, decided_true}
use Rattle.go_rules.specs.Operands.{plain}
use Rattle.go_statement_rules.specs.Assignments.{AreResults}
use Rattle.go_type_terms.specs.Answers.{env_in}
use Rattle.go_assignments.proofs.returned.gives_all.Goals as goal

pub returns-then-not-given : goal.returns-then-not-given
returns-then-not-given c = λ u. decided_false (AreResults (env_in c.args.context.now) (map plain c.args.terms.now) c.args.results.now) _ c.if-not-given.true c.in_ok-given.ensures

pub returns : goal.returns
returns c = decided_true (AreResults (env_in c.args.context.now) (map plain c.args.terms.now) c.args.results.now) _ c.if-not-given.false c.in_ok-given.ensures
