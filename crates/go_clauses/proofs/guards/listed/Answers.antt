use Rattle.go_statement_rules.specs.Clauses.{Lists, lists_nil, lists_type}
use Rattle.go_type_terms.specs.Answers.{env_in}
use Rattle.go_type_terms.proofs.Handed.{told_told}
use Rattle.go_clauses.specs.inner.Guards.{ListsType}
use Rattle.go_clauses.proofs.Guarding.{type_in}
use Rattle.go_clauses.proofs.guards.listed.Goals as goal

pub returns-then-is_nil : goal.returns-then-is_nil
returns-then-is_nil c = lists_nil c.if-is_nil.ensures

pub returns-in_err-term : goal.returns-in_err-term
returns-in_err-term c =
    let E = env_in c.args.context.now in
    let t = c.args.interface.now in
    told_told (ListsType E t c.args.form.now) (Lists E t c.args.form.now) c.in_err-term.field-0.0 c.from_residual.result c.from_residual.ensures.1 c.in_err-term.ensures (type_in E t c.if-is_nil.ensures)

pub returns : goal.returns
returns c = lists_type c.in_ok-term.ensures.0 c.in_ok-term.ensures.1
