use Rattle.go_clauses.specs.Clauses.{RangesOver, TakesValues}
use Rattle.go_model.specs.declared.types.term.Term.{Term}
use Rattle.go_nested_statements.proofs.Ranged.{assigns_decided, assigns_none}
use Rattle.go_operators.proofs.Answers.{found_none, found_some}
use Rattle.go_rules.specs.Scopes.{env_of}
use Rattle.go_selectors.specs.Answers.{Decides}
use Rattle.std.proofs.Common.{List, subst}
use Rattle.std.specs.Prelude.{IfOk}
use Rattle.go_nested_statements.proofs.ranges.is_assigned.Goals as goal

pub returns-in-None : goal.returns-in-None
returns-in-None c =
    let F = env_of c.args.env.now in
    assigns_none F c.args.sides.now c.args.expr.now (found_none (RangesOver F c.args.expr.now) c.in_ok-given.given c.in-None.is c.in_ok-given.ensures)

pub returns : goal.returns
returns c =
    let F = env_of c.args.env.now in
    let es = c.args.sides.now in
    let e = c.args.expr.now in
    let ts = c.in-Some.terms in
    assigns_decided F es e ts (found_some (RangesOver F e) c.in_ok-given.given ts c.in-Some.is c.in_ok-given.ensures) c.takes_values.result
    (subst (λ (us : List Term). IfOk c.takes_values.result (λ b. Decides b (TakesValues F es us))) c.items.ensures c.takes_values.ensures)
