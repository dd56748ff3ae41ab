use Rattle.std.proofs.Common.{◌≡◌, Some, ◌∙◌, sym}
use Rattle.go_assignments.proofs.Decided.{decided_so}
use Rattle.go_rules.proofs.OneName.{none_some}
use Rattle.go_rules.specs.declared.predeclared.Predeclared.TheVariants as p
use Rattle.go_rules.specs.declared.seen.Seen.TheVariants as seen
use Rattle.go_type_terms.specs.Answers.{env_in}
use Rattle.go_clauses.specs.inner.Guards.{IsNilName}
use Rattle.go_clauses.proofs.guards.is_nil_name.Goals as goal

pub returns-in-Some : goal.returns-in-Some
returns-in-Some c = λ h. none_some (sym h.0 ∙ c.in-Some.is)

pub returns-in-None : goal.returns-in-None
returns-in-None c =
    let E = env_in c.args.context.now in
    let q = c.args.name.now in
    decided_so (E.meaning q.name.text ≡ Some (seen.Universe p.Nil)) (IsNilName E q) c.means_nil.result (λ m. (c.in-None.is, m)) (λ h. h.1) c.means_nil.ensures
