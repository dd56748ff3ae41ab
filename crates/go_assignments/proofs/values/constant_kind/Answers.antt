use Rattle.go_model.specs.declared.types.package.ConstTerm.TheVariants as constant
use Rattle.go_assignments.proofs.values.constant_kind.Goals as goal

pub returns-in-None : goal.returns-in-None
returns-in-None c = λ k h. c.in-None.ensures (constant.OfKind k) h.0 h.1
