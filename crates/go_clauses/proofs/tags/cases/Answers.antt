use Rattle.go_assignments.proofs.go_asks_proofs.Both.{first_fails, second_decides}
use Rattle.go_base.specs.Lists.{Each}
use Rattle.go_statement_rules.specs.Clauses.{IsCase}
use Rattle.go_type_terms.specs.Answers.{env_in}
use Rattle.go_assignments.specs.Simple.{AreMet}
use Rattle.go_clauses.proofs.tags.cases.Goals as goal

pub returns-then-not-compared : goal.returns-then-not-compared
returns-then-not-compared c =
    let E = env_in c.args.context.now in
    first_fails (Each (IsCase E c.args.term.now) c.args.exprs.now) (AreMet E c.args.exprs.now) c.in_ok-compared.compared c.if-not-compared.true c.in_ok-compared.ensures

pub returns : goal.returns
returns c =
    let E = env_in c.args.context.now in
    second_decides (Each (IsCase E c.args.term.now) c.args.exprs.now) (AreMet E c.args.exprs.now) c.in_ok-compared.compared c.if-not-compared.false c.in_ok-compared.ensures c.in_ok-met.met c.in_ok-met.ensures
