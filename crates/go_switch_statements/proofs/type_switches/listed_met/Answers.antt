use Rattle.go_base.specs.Lists.{Each}
use Rattle.go_operators.proofs.Answers.{decided_false, decided_true, found_none, found_some}
use Rattle.go_rules.specs.Asks.{Meets}
use Rattle.go_rules.specs.Scopes.{env_of}
use Rattle.go_statement_rules.specs.Statements.{AreListed, listed_nodes}
use Rattle.go_switch_statements.proofs.type_switches.listed_met.Goals as goal

pub returns-in-None : goal.returns-in-None
returns-in-None c = λ xs h. found_none (AreListed (env_of c.args.env.now) c.args.interface.now c.args.forms.now) c.in_ok-given.given c.in-None.is c.in_ok-given.ensures xs h.0

pub returns-then-not-met : goal.returns-then-not-met
returns-then-not-met c = λ xs h. decided_false (Each (Meets (env_of c.args.env.now)) (listed_nodes c.args.forms.now)) c.in_ok-met.met c.if-not-met.true c.in_ok-met.ensures h.1

pub returns : goal.returns
returns c =
    let F = env_of c.args.env.now in (
      found_some (AreListed F c.args.interface.now c.args.forms.now) c.in_ok-given.given c.in-Some.all c.in-Some.is c.in_ok-given.ensures,
      decided_true (Each (Meets F) (listed_nodes c.args.forms.now)) c.in_ok-met.met c.if-not-met.false c.in_ok-met.ensures,
    )
