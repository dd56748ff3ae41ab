use Rattle.std.proofs.Common.{◌∷◌, List, map, sym, subst}
use Rattle.go_calls.proofs.Rules.{call_arguments, call_of_rule, rule_of_call}
use Rattle.go_calls.specs.Calls.{Calls}
use Rattle.go_rules.specs.Expressions.{call, HasEach, HasPost}
use Rattle.go_rules.specs.Nodes.{expression, type as type_node}
use Rattle.go_rules.specs.declared.operand.Operand.{Operand}
use Rattle.go_syntax.specs.declared.expression.Post.{Post-F}
use Rattle.go_literals.specs.go_type_terms.Answers.{env_in}
use Rattle.go_literals.proofs.go_type_terms_proofs.Handed.{handed, handed_told}
use Rattle.go_expr.specs.Arguments.{receive_type}
use Rattle.go_expr.proofs.Parts.{told}
use Rattle.go_expr.proofs.exprs.Exprs.call.Goals as goal

pub returns-in_err-operands : goal.returns-in_err-operands
returns-in_err-operands g c =
    let E = env_in c.args.self.now.literals.operations.typing.context.now in
    handed E (HasEach E (c.args.exprs.now)) (HasPost E c.args.operand.now (Post-F.Call c.args.exprs.now c.args.dots)) (map expression c.args.exprs.now) (map expression c.args.exprs.now) c.in_err-operands.field-0.0 c.from_residual.result c.from_residual.ensures.1 c.in_err-operands.ensures (λ r h. call_arguments E call h)

pub returns-in_err-result : goal.returns-in_err-result
returns-in_err-result g c =
    let E = env_in c.args.self.now.literals.operations.typing.context.now in
    let o = c.args.operand.now in
    let os = c.items.result.now in
    let h = subst (HasEach E (c.args.exprs.now)) (sym c.items.ensures) c.in_ok-operands.ensures.0 in
    handed_told E (λ r. Calls E c.in_ok-operands.loud o os c.args.dots r) (HasPost E o (Post-F.Call c.args.exprs.now c.args.dots)) (map expression c.args.exprs.now) c.in_err-result.field-0.0 c.from_residual-in_err-result.result c.from_residual-in_err-result.ensures.1 c.in_err-result.ensures
    (λ r k. (r, call_of_rule E call h (told E o c.args.exprs.now c.in_ok-operands.loud c.in_ok-operands.ensures.1) k))

pub returns : goal.returns
returns g c =
    let E = env_in c.args.self.now.literals.operations.typing.context.now in
    let o = c.args.operand.now in
    let h = subst (HasEach E (c.args.exprs.now)) (sym c.items.ensures) c.in_ok-operands.ensures.0 in
    (rule_of_call E call h (told E o c.args.exprs.now c.in_ok-operands.loud c.in_ok-operands.ensures.1) c.in_ok-result.ensures, c.in_ok-operands.ensures.1)
