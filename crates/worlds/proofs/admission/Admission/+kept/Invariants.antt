use Rattle.std.proofs.Common.{take}
use Rattle.go_base.specs.Lists.{Each}
use Rattle.worlds.specs.inner.Admission.{FieldKept, MethodKept, TermKept}
use Rattle.worlds.proofs.admission.Admission.+kept.Given as goal

abbrev pub invariant-terms-loop-term : goal.invariant-terms-loop-term
invariant-terms-loop-term l = Each (TermKept l.self.world.now l.self.added.now) (take l.term-index l.terms)

abbrev pub invariant-fields-loop-field : goal.invariant-fields-loop-field
invariant-fields-loop-field l = Each (FieldKept l.self.world.now l.self.added.now) (take l.field-index l.fields)

abbrev pub invariant-methods-loop-method : goal.invariant-methods-loop-method
invariant-methods-loop-method l = Each (MethodKept l.self.world.now l.self.added.now) (take l.method-index l.methods)
