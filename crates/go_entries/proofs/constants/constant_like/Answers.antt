use Rattle.go_entries.proofs.constants.constant_like.Goals as goal

pub returns-in-None : goal.returns-in-None
returns-in-None c = λ x h. c.in-None.ensures h.0 h.1 h.2
