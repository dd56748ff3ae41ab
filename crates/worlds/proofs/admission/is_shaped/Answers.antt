use Rattle.worlds.proofs.Shapes.{shaped}
use Rattle.worlds.proofs.admission.is_shaped.Goals as goal

pub returns : goal.returns
returns c = λ h. shaped c.args.defined.now c.items-methods.result.now c.fields.result.now c.items-methods.ensures c.fields.ensures (c.is_structured.ensures c.if-not-is_structured.false) (c.are_ordered.ensures c.if-not-are_ordered.false) (c.is_bare.ensures c.if-not-is_bare.false) (c.are_apart.ensures h)
