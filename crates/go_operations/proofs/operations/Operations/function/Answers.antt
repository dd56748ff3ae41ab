use Rattle.std.proofs.Common.{[], ◌∷◌}
use Rattle.go_rules.specs.Expressions.{HasForm, OfSignature}
use Rattle.go_rules.specs.Nodes.{signature as signature_node}
use Rattle.go_syntax.specs.declared.expression.Expr.{Expr-F}
use Rattle.go_syntax.specs.declared.types.Signature.{out-Signature}
use Rattle.go_type_terms.specs.Answers.{env_in}
use Rattle.go_type_terms.proofs.Handed.{handed}
use Rattle.go_operations.proofs.TypeOperands.{in_function, to_function}
use Rattle.go_operations.proofs.operations.Operations.function.Goals as goal

pub returns-in_err-signed : goal.returns-in_err-signed
returns-in_err-signed g c =
    let E = env_in c.args.self.now.typing.context.now in
    let s = c.args.signature.now in
    λ body. handed E (OfSignature E (out-Signature s).parameters (out-Signature s).result) (HasForm E (Expr-F.FuncLit s body)) (signature_node s ∷ []) (signature_node s ∷ []) c.in_err-signed.field-0.0 c.from_residual.result c.from_residual.ensures.1 c.in_err-signed.ensures (λ o h. in_function E h)

pub returns : goal.returns
returns g c = λ body. (to_function (env_in c.args.self.now.typing.context.now) c.args.signature.now body c.in_ok-signed.signed c.plain.result c.in_ok-signed.ensures.0 c.plain.ensures, c.in_ok-signed.ensures.1)
