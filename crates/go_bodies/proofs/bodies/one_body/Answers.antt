use Rattle.go_bodies.proofs.Outcomes.{same_body}
use Rattle.go_bodies.proofs.bodies.one_body.Goals as goal

pub returns : goal.returns
returns c = record { same = λ tokens p q d e. same_body tokens p q d e }
