use Rattle.go_operators.proofs.Answers.{decided_false, decided_true}
use Rattle.go_statement_rules.specs.Assignments.{Returns}
use Rattle.go_type_terms.specs.Answers.{env_in}
use Rattle.go_type_terms.proofs.Handed.{told_told}
use Rattle.go_assignments.specs.Simple.{AreMet, GivesResults}
use Rattle.go_assignments.proofs.returned.results.Goals as goal

pub returns-in_err-gives : goal.returns-in_err-gives
returns-in_err-gives c =
    let E = env_in c.args.context.now in
    told_told (λ (u : Unit {0}). Returns E c.args.results.now c.args.exprs.now) (λ (u : Unit {0}). GivesResults E c.args.results.now c.args.exprs.now) c.in_err-gives.field-0.0 c.from_residual.result c.from_residual.ensures.1 c.in_err-gives.ensures (λ u h. (u, h.0))

pub returns-then-not-branch : goal.returns-then-not-branch
returns-then-not-branch c = λ u h. decided_false (AreMet (env_in c.args.context.now) c.args.exprs.now) _ c.if-not-branch.true c.in_ok-are_met.ensures h.1

pub returns : goal.returns
returns c = (c.in_ok-gives.ensures, decided_true (AreMet (env_in c.args.context.now) c.args.exprs.now) _ c.if-not-branch.false c.in_ok-are_met.ensures)
