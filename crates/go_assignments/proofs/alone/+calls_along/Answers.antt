use Rattle.std.proofs.Common.{ap, ◌∙◌}
use Rattle.go_syntax.specs.declared.expression.Expr.{out-Expr}
use Rattle.go_syntax.specs.declared.expression.Expr.TheVariants.{outs-Paren, outs-Primary}
use Rattle.go_type_terms.specs.Answers.{env_in}
use Rattle.go_assignments.proofs.Calls.{paren_of, paren_to, primary_of, primary_to}
use Rattle.go_assignments.proofs.Decided.{decided_as}
use Rattle.go_assignments.specs.inner.Calls.{CallsAlong, EndsInCall}
use Rattle.go_assignments.proofs.alone.+calls_along.Goals as goal

pub returns-in-Primary : goal.returns-in-Primary
returns-in-Primary t c =
    let E = env_in c.args.context.now in
    let k = c.in-Primary in
    let i = ap out-Expr k.is ∙ outs-Primary k.operand k.posts in
    decided_as (EndsInCall E c.value.result.now c.items.result.now) (CallsAlong E c.args.expr.now) c.ends_in_call.result
    (primary_to E c.args.expr.now k.operand c.value.result.now k.posts c.items.result.now i c.value.ensures c.items.ensures)
    (primary_of E c.args.expr.now k.operand c.value.result.now k.posts c.items.result.now i c.value.ensures c.items.ensures) c.ends_in_call.ensures

pub returns-in-Paren : goal.returns-in-Paren
returns-in-Paren t c =
    let E = env_in c.args.context.now in
    let k = c.in-Paren in
    let i = ap out-Expr k.is ∙ outs-Paren k.inner in
    decided_as (CallsAlong E c.value-in-Paren.result.now) (CallsAlong E c.args.expr.now) c.calls_along.result (paren_to E c.args.expr.now k.inner c.value-in-Paren.result.now i c.value-in-Paren.ensures) (paren_of E c.args.expr.now k.inner c.value-in-Paren.result.now i c.value-in-Paren.ensures) c.calls_along.ensures
