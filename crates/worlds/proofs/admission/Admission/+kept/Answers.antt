use Rattle.std.proofs.Common.{◌∙◌, ap, sym, subst, List, map}
use Rattle.go_base.specs.Lists.{Each}
use Rattle.go_model.specs.declared.types.term.Field.{Field}
use Rattle.go_model.specs.declared.types.term.Method.{Method}
use Rattle.go_model.specs.declared.types.term.Term.{Term-F, out-Term}
use Rattle.go_model.specs.declared.types.term.Term.TheVariants.{outs-Interface, outs-Struct}
use Rattle.worlds.proofs.KeptTypes.{kept_interface, kept_signature, kept_struct}
use Rattle.worlds.specs.inner.Admission.{FieldKept, MethodKept}
use Rattle.worlds.proofs.admission.Admission.+kept.Goals as goal

pub signature-returns : goal.signature-returns
signature-returns t c = λ h. kept_signature c.args.self.now.world.now c.args.self.now.added.now c.args.signature.now c.items.result.now c.items-2.result.now c.items.ensures c.items-2.ensures (c.terms.ensures c.if-not-terms.false) (c.terms-2.ensures h)

pub term-returns-else-not-are_distinct : goal.term-returns-else-not-are_distinct
term-returns-else-not-are_distinct t c = λ h.
    kept_struct c.args.self.now.world.now c.args.self.now.added.now c.args.term.now c.items.result.now
    (ap out-Term c.in-Struct.is ∙ outs-Struct c.in-Struct.fields ∙ ap Term-F.Struct (sym c.items.ensures))
    (c.are_distinct.ensures c.if-not-are_distinct.false)
    (subst (Each (FieldKept c.args.self.now.world.now c.args.self.now.added.now)) (c.items-in-Struct.ensures ∙ sym c.items.ensures) (c.fields.ensures h))

pub term-returns-else-not-are_ordered : goal.term-returns-else-not-are_ordered
term-returns-else-not-are_ordered t c = λ h.
    kept_interface c.args.self.now.world.now c.args.self.now.added.now c.args.term.now c.items-in-Interface.result.now
    (ap out-Term c.in-Interface.is ∙ outs-Interface c.in-Interface.methods ∙ ap Term-F.Interface (sym c.items-in-Interface.ensures))
    (c.are_ordered.ensures c.if-not-are_ordered.false)
    (subst (Each (MethodKept c.args.self.now.world.now c.args.self.now.added.now)) (c.items-in-Interface-2.ensures ∙ sym c.items-in-Interface.ensures) (c.methods.ensures h))
