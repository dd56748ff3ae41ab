use Rattle.worlds.proofs.Paths.{other_there}
use Rattle.worlds.proofs.admission.Admission.is_of_world.Goals as goal

pub returns-in-Some : goal.returns-in-Some
returns-in-Some c = λ _. other_there c.args.self.now.world.now c.args.self.now.added.now c.args.name.now c.requires _ c.in-Some.ensures
