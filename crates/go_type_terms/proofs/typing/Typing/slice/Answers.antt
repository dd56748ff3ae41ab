use Rattle.go_type_terms.proofs.Forms.{to_slice}
use Rattle.go_type_terms.proofs.typing.Typing.slice.Goals as goal

pub returns : goal.returns
returns g c = (to_slice c.in_ok-element.element c.in_ok-element.ensures.0, c.in_ok-element.ensures.1)
