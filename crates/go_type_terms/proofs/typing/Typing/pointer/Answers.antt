use Rattle.go_type_terms.proofs.Forms.{to_pointer}
use Rattle.go_type_terms.proofs.typing.Typing.pointer.Goals as goal

pub returns : goal.returns
returns g c = (to_pointer c.in_ok-base.base c.in_ok-base.ensures.0, c.in_ok-base.ensures.1)
