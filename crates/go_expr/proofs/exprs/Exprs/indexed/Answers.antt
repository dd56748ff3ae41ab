use Rattle.std.proofs.Common.{◌∷◌, [], subst}
use Rattle.go_calls.proofs.go_elements_proofs.Posts.{indexes_post, post_indexes}
use Rattle.go_calls.specs.go_elements.Indexes.{Indexes}
use Rattle.go_calls.proofs.go_operators_proofs.Answers.{found_none, found_some}
use Rattle.go_rules.specs.Expressions.{Has, HasPost}
use Rattle.go_rules.specs.Nodes.{expression}
use Rattle.go_rules.specs.declared.operand.Operand.{Operand}
use Rattle.go_rules.proofs.OneOperand.{has_once}
use Rattle.go_syntax.specs.declared.expression.Post.{Post-F}
use Rattle.go_literals.specs.go_type_terms.Answers.{env_in}
use Rattle.go_literals.proofs.go_type_terms_proofs.Handed.{handed}
use Rattle.go_expr.proofs.exprs.Exprs.indexed.Goals as goal

pub returns-in_err-at : goal.returns-in_err-at
returns-in_err-at g c =
    let E = env_in c.args.self.now.literals.operations.typing.context.now in
    handed E (Has E c.args.expr.now) (HasPost E c.args.operand.now (Post-F.Index c.args.expr.now)) (expression c.args.expr.now ∷ []) (expression c.args.expr.now ∷ []) c.in_err-at.field-0.0 c.from_residual.result c.from_residual.ensures.1 c.in_err-at.ensures (λ r h. let p = post_indexes h in (p.0, p.1))

pub returns-in-Some : goal.returns-in-Some
returns-in-Some g c =
    let E = env_in c.args.self.now.literals.operations.typing.context.now in
    (indexes_post c.in_ok-at.ensures.0 (found_some (Indexes E c.args.operand.now c.in_ok-at.at) c.in_ok-result.field-0 c.in-Some.result c.in-Some.is c.in_ok-result.ensures), c.in_ok-at.ensures.1)

pub returns : goal.returns
returns g c =
    let E = env_in c.args.self.now.literals.operations.typing.context.now in
    λ r h. let p = post_indexes h in found_none (Indexes E c.args.operand.now c.in_ok-at.at) c.in_ok-result.field-0 c.in-None.is c.in_ok-result.ensures r (subst (λ (i : Operand). Indexes E c.args.operand.now i r) (has_once E p.1 c.in_ok-at.ensures.0) p.2)
