use Rattle.go_rules.specs.Expressions.{DenotesImported}
use Rattle.go_literals.specs.go_type_terms.Answers.{env_in}
use Rattle.go_literals.proofs.go_type_terms_proofs.Handed.{told_told}
use Rattle.go_expr.specs.Imports.{ImportedWithin}
use Rattle.go_expr.proofs.primary.imported_within.Goals as goal

pub returns-in_err-operand : goal.returns-in_err-operand
returns-in_err-operand c =
    let E = env_in c.args.context.now in
    told_told (DenotesImported E c.args.package.now c.args.name.now) (ImportedWithin E c.args.package.now c.args.name.now) c.in_err-operand.field-0.0 c.from_residual.result c.from_residual.ensures.1 c.in_err-operand.ensures (λ o h. (o, h.0))
