use Rattle.std.proofs.Common.{◌∙◌, List, map, subst}
use Rattle.go_assignments.proofs.go_asks_proofs.Both.{first_fails, second_decides}
use Rattle.go_rules.specs.Operands.{plain}
use Rattle.go_rules.specs.declared.operand.Operand.{Operand}
use Rattle.go_selectors.specs.Answers.{Decides}
use Rattle.go_statement_rules.specs.Assignments.{AreAssigned}
use Rattle.go_type_terms.specs.Answers.{env_in}
use Rattle.go_assignments.specs.Simple.{AreMet}
use Rattle.go_clauses.proofs.targets.take_values.Goals as goal

pub returns-then-not-assigned : goal.returns-then-not-assigned
returns-then-not-assigned c =
    let E = env_in c.args.context.now in
    let es = c.args.sides.now in
    first_fails (AreAssigned E es (map plain c.args.terms.now)) (AreMet E es) c.in_ok-assigned.assigned c.if-not-assigned.true
    (subst (λ (os : List Operand). Decides c.in_ok-assigned.assigned (AreAssigned E es os)) (c.items.ensures ∙ c.in_ok-values.ensures) c.in_ok-assigned.ensures)

pub returns : goal.returns
returns c =
    let E = env_in c.args.context.now in
    let es = c.args.sides.now in
    second_decides (AreAssigned E es (map plain c.args.terms.now)) (AreMet E es) c.in_ok-assigned.assigned c.if-not-assigned.false
    (subst (λ (os : List Operand). Decides c.in_ok-assigned.assigned (AreAssigned E es os)) (c.items.ensures ∙ c.in_ok-values.ensures) c.in_ok-assigned.ensures) c.in_ok-met.met c.in_ok-met.ensures
