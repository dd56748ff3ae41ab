use Rattle.std.proofs.Common.{◌∷◌, [], subst}
use Rattle.go_calls.proofs.go_elements_proofs.Posts.{asserts_post, post_asserts}
use Rattle.go_calls.specs.go_elements.Assertions.{Asserts}
use Rattle.go_model.specs.declared.types.term.Term.{Term}
use Rattle.go_calls.proofs.go_operators_proofs.Answers.{found_none, found_some}
use Rattle.go_rules.specs.Expressions.{HasPost, OfType}
use Rattle.go_rules.specs.Nodes.{type as type_node}
use Rattle.go_rules.proofs.OneOperand.{type_once}
use Rattle.go_syntax.specs.declared.expression.Post.{Post-F}
use Rattle.go_literals.specs.go_type_terms.Answers.{env_in}
use Rattle.go_literals.proofs.go_type_terms_proofs.Handed.{handed}
use Rattle.go_expr.proofs.exprs.Exprs.asserted.Goals as goal

pub returns-in_err-term : goal.returns-in_err-term
returns-in_err-term g c =
    let E = env_in c.args.self.now.literals.operations.typing.context.now in
    handed E (OfType E c.args.form.now) (HasPost E c.args.operand.now (Post-F.TypeAssertion c.args.form.now)) (type_node c.args.form.now ∷ []) (type_node c.args.form.now ∷ []) c.in_err-term.field-0.0 c.from_residual.result c.from_residual.ensures.1 c.in_err-term.ensures (λ r h. let p = post_asserts h in (p.0, p.1))

pub returns-in-Some : goal.returns-in-Some
returns-in-Some g c =
    let E = env_in c.args.self.now.literals.operations.typing.context.now in
    (asserts_post c.in_ok-term.ensures.0 (found_some (Asserts E c.args.operand.now c.in_ok-term.term) c.in_ok-result.field-0 c.in-Some.result c.in-Some.is c.in_ok-result.ensures), c.in_ok-term.ensures.1)

pub returns : goal.returns
returns g c =
    let E = env_in c.args.self.now.literals.operations.typing.context.now in
    λ r h. let p = post_asserts h in found_none (Asserts E c.args.operand.now c.in_ok-term.term) c.in_ok-result.field-0 c.in-None.is c.in_ok-result.ensures r (subst (λ (u : Term). Asserts E c.args.operand.now u r) (type_once E p.1 c.in_ok-term.ensures.0) p.2)
