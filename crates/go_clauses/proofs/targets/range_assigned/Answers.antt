use Rattle.std.proofs.Common.{◌≤◌, arith, Bool, length, List, map, subst, take}
use Rattle.std.specs.Prelude.{IfOk}
use Rattle.go_model.specs.declared.types.term.Term.{Term}
use Rattle.go_selectors.specs.Answers.{Decides}
use Rattle.go_assignments.proofs.Decided.{decided_as}
use Rattle.go_rules.specs.Operands.{plain}
use Rattle.go_statement_rules.specs.Assignments.{AreAssigned}
use Rattle.go_type_terms.specs.Answers.{env_in}
use Rattle.go_assignments.specs.Simple.{AreMet}
use Rattle.go_clauses.specs.Clauses.{TakesValues}
use Rattle.go_clauses.proofs.targets.range_assigned.Goals as goal

pub returns-then-few : goal.returns-then-few
returns-then-few c = λ h. let k : length c.args.sides.now ≤ length c.args.terms.now = h.0 in omega arith

pub returns : goal.returns
returns c =
    let E = env_in c.args.context.now in
    let es = c.args.sides.now in
    let ts = c.args.terms.now in
    let k : length es ≤ length ts = omega arith in
    decided_as (AreAssigned E es (map plain (take (length es) ts)) × AreMet E es) (TakesValues E es ts) c.take_values.result (λ h. (k, h.0, h.1)) (λ h. (h.1, h.2))
    (subst (λ (us : List Term). IfOk c.take_values.result (λ (b : Bool). Decides b (AreAssigned E es (map plain us) × AreMet E es))) c.first_of.ensures c.take_values.ensures)
