use Rattle.std.proofs.Common.{◌≡◌, [], ◌∷◌, List, ◌∙◌}
use Rattle.go_model.specs.declared.types.term.Method.{Method}
use Rattle.go_rules.specs.Nodes.{signature as signature_node}
use Rattle.go_syntax.specs.declared.types.InterfaceElem.{InterfaceElem-F}
use Rattle.go_type_terms.specs.Answers.{env_in}
use Rattle.go_type_terms.specs.Members.{OfElement}
use Rattle.go_type_terms.proofs.InterfaceTypes.{gathers_of, of_signature}
use Rattle.go_type_terms.proofs.typing.Typing.gather_method.Goals as goal

pub returns-in_err-gather : goal.returns-in_err-gather
returns-in_err-gather g c =
    let E = env_in c.args.self.now.context.now in
    let n = c.args.name.now in
    let s = c.args.signature.now in
    gathers_of E (λ (ms : List Method). ms ≡ c.items.result.now) (OfElement E (InterfaceElem-F.Method n s)) (signature_node s ∷ []) c.args.noted.now.entries c.gather.new.noted.entries c.in_err-gather.field-0.0 c.from_residual-in_err-gather.result c.from_residual-in_err-gather.ensures.1 c.in_err-gather.ensures
    (of_signature E n s c.in_ok-signed.signed c.items.result.now c.in_ok-signed.ensures.0 (c.items.ensures ∙ c.in_ok-methods.ensures))
