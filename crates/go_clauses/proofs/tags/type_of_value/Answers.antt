use Rattle.go_rules.specs.Asks.{HasOperand}
use Rattle.go_type_terms.specs.Answers.{env_in}
use Rattle.go_type_terms.proofs.Handed.{told_told}
use Rattle.go_type_terms.proofs.NamedTypes.{same_tells}
use Rattle.go_typings.specs.Initializers.{TypeOfValue}
use Rattle.go_clauses.specs.inner.Tags.{HasValueType}
use Rattle.go_clauses.proofs.Tagging.{value_in}
use Rattle.go_clauses.proofs.tags.type_of_value.Goals as goal

pub returns-in_err-value : goal.returns-in_err-value
returns-in_err-value c =
    let E = env_in c.args.context.now in
    told_told (HasOperand E c.args.expr.now) (HasValueType E c.args.expr.now) c.in_err-value.field-0.0 c.from_residual.result c.from_residual.ensures.1 c.in_err-value.ensures (λ t h. (h.0, h.1))

pub returns : goal.returns
returns c =
    let E = env_in c.args.context.now in
    let o = c.in_ok-value.value in
    same_tells (TypeOfValue E o) (HasValueType E c.args.expr.now) c.value_type.result (λ t h. (o, c.in_ok-value.ensures, h)) (value_in E c.in_ok-value.ensures) c.value_type.ensures
