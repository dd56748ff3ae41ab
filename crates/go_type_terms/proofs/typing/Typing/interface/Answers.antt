use Rattle.std.proofs.Common.{subst, sym}
use Rattle.go_rules.specs.Expressions.{OfForm}
use Rattle.go_rules.specs.Nodes.{elems_parts}
use Rattle.go_syntax.specs.declared.types.«Type».{«Type-F» as Typ-F}
use Rattle.go_type_terms.specs.Answers.{env_in}
use Rattle.go_type_terms.specs.inner.Gathered.{AreMethods}
use Rattle.go_type_terms.proofs.InterfaceTypes.{in_interface, to_interface}
use Rattle.go_type_terms.proofs.Handed.{handed}
use Rattle.go_type_terms.proofs.typing.Typing.interface.Goals as goal

pub returns-in_err-methods : goal.returns-in_err-methods
returns-in_err-methods g c =
    let E = env_in c.args.self.now.context.now in
    let xs = c.args.elements.now in
    handed E (AreMethods E xs) (OfForm E (Typ-F.Interface xs)) (elems_parts xs) (elems_parts xs) c.in_err-methods.field-0.0 c.from_residual.result c.from_residual.ensures.1 c.in_err-methods.ensures (in_interface E xs)

pub returns : goal.returns
returns g c =
    let E = env_in c.args.self.now.context.now in
    (to_interface E c.args.elements.now c.in_ok-new.field-0 (subst (AreMethods E c.args.elements.now) (sym c.in_ok-new.ensures) c.in_ok-methods.ensures.0), c.in_ok-methods.ensures.1)
