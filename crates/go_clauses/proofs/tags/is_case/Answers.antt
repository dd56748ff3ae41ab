use Rattle.go_assignments.proofs.go_asks_proofs.EmbeddedTypes.{none_told}
use Rattle.go_rules.specs.Expressions.{Has}
use Rattle.go_type_terms.specs.Answers.{env_in}
use Rattle.go_assignments.proofs.Decided.{decided_as}
use Rattle.go_clauses.proofs.Tagging.{case_in, case_to}
use Rattle.go_statement_rules.specs.Clauses.{IsCase}
use Rattle.go_clauses.specs.inner.Tags.{ComparesWith}
use Rattle.go_clauses.proofs.tags.is_case.Goals as goal

pub returns-in-Ok : goal.returns-in-Ok
returns-in-Ok c =
    let E = env_in c.args.context.now in
    decided_as (ComparesWith E c.args.term.now c.in-Ok.value) (IsCase E c.args.term.now c.args.expr.now) c.compares_with.result (case_to E c.in-Ok.ensures) (case_in E c.in-Ok.ensures) c.compares_with.ensures

pub returns-in-Err-Untyped : goal.returns-in-Err-Untyped
returns-in-Err-Untyped c =
    let none = none_told (Has (env_in c.args.context.now) c.args.expr.now) c.in-Err-Untyped.field-0 c.in-Err-Untyped.field-0-is c.in-Err-Untyped.ensures in
    λ h. none h.0 h.2
