use Rattle.std.proofs.Common.{List, [], ◌∷◌, ◌||◌, Bool, sym, subst}
use Rattle.go_rules.specs.Expressions.{OfParameters, OfSignature}
use Rattle.go_rules.specs.Nodes.{optional_result_parts, parameter_parts, signature as signature_node}
use Rattle.go_syntax.specs.declared.types.ParameterDecl.{ParameterDecl}
use Rattle.go_syntax.specs.declared.types.Signature.{out-Signature}
use Rattle.go_type_terms.specs.Answers.{env_in}
use Rattle.go_type_terms.specs.Loudness.{AreLoud}
use Rattle.go_type_terms.specs.Results.{OfResults}
use Rattle.go_type_terms.specs.declared.signatures.Parameters.{Parameters}
use Rattle.go_type_terms.proofs.Handed.{handed}
use Rattle.go_type_terms.proofs.LoudTrees.{join_loud, parts_loud}
use Rattle.go_type_terms.proofs.Parameters.{parameters_in, results_in, to_signature_at}
use Rattle.go_type_terms.proofs.typing.Typing.signature.Goals as goal

pub returns-in_err-parameters : goal.returns-in_err-parameters
returns-in_err-parameters g c =
    let E = env_in c.args.self.now.context.now in
    let s = out-Signature c.args.signature.now in
    handed E (λ (p : Parameters). OfParameters E c.items.result.now p.terms p.variadic) (OfSignature E s.parameters s.result) (parameter_parts c.items.result.now) (signature_node c.args.signature.now ∷ []) c.in_err-parameters.field-0.0 c.from_residual.result c.from_residual.ensures.1 c.in_err-parameters.ensures
    (λ h o. let p = parameters_in s.result (subst (λ (xs : List ParameterDecl). OfSignature E xs s.result h) (sym c.items.ensures) o) in (record { terms = p.0; variadic = p.1 }, p.2))

pub returns-in_err-results : goal.returns-in_err-results
returns-in_err-results g c =
    let E = env_in c.args.self.now.context.now in
    let s = out-Signature c.args.signature.now in
    handed E (OfResults E s.result) (OfSignature E s.parameters s.result) (optional_result_parts s.result) (signature_node c.args.signature.now ∷ []) c.in_err-results.field-0.0 c.from_residual-in_err-results.result c.from_residual-in_err-results.ensures.1 c.in_err-results.ensures (λ h o. results_in s.result o)

pub returns : goal.returns
returns g c =
    let E = env_in c.args.self.now.context.now in
    let s = out-Signature c.args.signature.now in (
      subst (OfSignature E s.parameters s.result) (sym c.in_ok-signed.ensures) (to_signature_at s.result c.items.ensures c.in_ok-parameters.ensures.0 c.in_ok-results.ensures.0),
      subst (λ (b : Bool). AreLoud E (signature_node c.args.signature.now ∷ []) b) (sym c.either.ensures)
          (parts_loud E (signature_node c.args.signature.now) (λ x e. absurd (cc)) (c.in_ok-parameters.loud || c.in_ok-results.louder) (join_loud E (parameter_parts s.parameters) (optional_result_parts s.result) c.in_ok-parameters.loud c.in_ok-results.louder
          (subst (λ (xs : List ParameterDecl). AreLoud E (parameter_parts xs) c.in_ok-parameters.loud) c.items.ensures c.in_ok-parameters.ensures.1) c.in_ok-results.ensures.1)),
    )
