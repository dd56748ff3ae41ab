use Rattle.std.proofs.Common.{ap, ◌∙◌}
use Rattle.go_syntax.specs.declared.types.InterfaceElem.{InterfaceElem-F, out-InterfaceElem}
use Rattle.go_syntax.specs.declared.types.InterfaceElem.TheVariants.{outs-Method}
use Rattle.go_type_terms.specs.Answers.{env_in}
use Rattle.go_type_terms.proofs.InterfaceTypes.{by_element}
use Rattle.go_type_terms.proofs.typing.Typing.gather_element.Goals as goal

pub returns-in-Method-clause-gathers : goal.returns-in-Method-clause-gathers
returns-in-Method-clause-gathers g c =
    let E = env_in c.args.self.now.context.now in
    let n = c.in-Method.name in
    let s = c.in-Method.signature in
    by_element E (out-InterfaceElem c.args.element.now) (InterfaceElem-F.Method n s) c.args.noted.now.entries c.gather_method.new.noted.entries c.gather_method.result (ap out-InterfaceElem c.in-Method.is ∙ outs-Method n s) c.gather_method.ensures
