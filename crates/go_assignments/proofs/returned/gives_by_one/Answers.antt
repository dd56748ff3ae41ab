use Rattle.go_rules.specs.Expressions.{Has}
use Rattle.go_statement_rules.specs.Assignments.{Returns}
use Rattle.go_type_terms.specs.Answers.{env_in}
use Rattle.go_type_terms.proofs.Handed.{told_told}
use Rattle.go_assignments.proofs.Results.{returns_first}
use Rattle.go_assignments.proofs.returned.gives_by_one.Goals as goal

pub returns-in_err-operand : goal.returns-in_err-operand
returns-in_err-operand c =
    let E = env_in c.args.context.now in
    told_told (Has E c.args.expr.now) (λ (u : Unit {0}). Returns E c.args.results.now c.args.exprs.now) c.in_err-operand.field-0.0 c.from_residual.result c.from_residual.ensures.1 c.in_err-operand.ensures (λ u h. returns_first E c.requires h)

pub gives_operand-requires : goal.gives_operand-requires
gives_operand-requires c = (c.args.expr.now, c.requires, c.in_ok-operand.ensures)
