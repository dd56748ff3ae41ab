use Rattle.std.proofs.Common.{[], ◌∷◌}
use Rattle.go_rules.specs.Expressions.{OfForm, OfSignature}
use Rattle.go_rules.specs.Nodes.{signature as signature_node}
use Rattle.go_syntax.specs.declared.types.Signature.{out-Signature}
use Rattle.go_syntax.specs.declared.types.«Type».{«Type-F» as Typ-F}
use Rattle.go_type_terms.specs.Answers.{env_in}
use Rattle.go_type_terms.proofs.Forms.{in_function, to_function}
use Rattle.go_type_terms.proofs.Handed.{handed}
use Rattle.go_type_terms.proofs.typing.Typing.function.Goals as goal

pub returns-in_err-signed : goal.returns-in_err-signed
returns-in_err-signed g c =
    let E = env_in c.args.self.now.context.now in
    let s = c.args.signature.now in
    handed E (OfSignature E (out-Signature s).parameters (out-Signature s).result) (OfForm E (Typ-F.Func s)) (signature_node s ∷ []) (signature_node s ∷ []) c.in_err-signed.field-0.0 c.from_residual.result c.from_residual.ensures.1 c.in_err-signed.ensures (λ u h. in_function h)

pub returns : goal.returns
returns g c = (to_function c.in_ok-signed.signed c.in_ok-signed.ensures.0, c.in_ok-signed.ensures.1)
