use Rattle.go_operators.proofs.Answers.{found_none, found_some}
use Rattle.go_statement_rules.specs.Assignments.{Operates}
use Rattle.go_type_terms.specs.Answers.{env_in}
use Rattle.go_assignments.proofs.Changes.{result_decided}
use Rattle.go_assignments.proofs.changed.result_fits.Goals as goal

pub returns-in-Some : goal.returns-in-Some
returns-in-Some c =
    let E = env_in c.args.context.now in
    let l = c.args.side.now in
    let o = c.args.right.now in
    let v = c.in-Some.value in
    result_decided E c.args.op l o v c.args.term.now c.is_usable.result (found_some (Operates E c.args.op l o) _ v c.in-Some.is c.in_ok-value.ensures) c.is_usable.ensures

pub returns-in-None : goal.returns-in-None
returns-in-None c =
    let none = found_none (Operates (env_in c.args.context.now) c.args.op c.args.side.now c.args.right.now) _ c.in-None.is c.in_ok-value.ensures in
    λ h. none h.0 h.1
