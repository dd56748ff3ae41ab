use Rattle.std.proofs.Common.{subst}
use Rattle.go_rules.specs.Usability.{UsableAs}
use Rattle.go_type_terms.specs.Answers.{env_in}
use Rattle.go_assignments.proofs.Decided.{decided_as}
use Rattle.go_assignments.proofs.SideValues.{one_side}
use Rattle.go_assignments.specs.inner.Sides.{IsGiven}
use Rattle.go_assignments.proofs.sides.is_given.Goals as goal

pub returns-in-Some : goal.returns-in-Some
returns-in-Some c =
    let E = env_in c.args.context.now in
    let o = c.args.value.now in
    let t = c.in-Some.term.now in
    decided_as (UsableAs E o t) (IsGiven E c.args.side.now o) c.is_usable.result (λ u. (t, c.in-Some.ensures, u)) (λ h. subst (UsableAs E o) (one_side h.1 c.in-Some.ensures) h.2) c.is_usable.ensures

pub returns-in-None : goal.returns-in-None
returns-in-None c = λ h. c.in-None.ensures h.0 h.1
