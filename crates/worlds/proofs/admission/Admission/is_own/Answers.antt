use Rattle.worlds.proofs.Paths.{own_there}
use Rattle.worlds.proofs.admission.Admission.is_own.Goals as goal

pub returns-in-Some : goal.returns-in-Some
returns-in-Some c = λ _. own_there c.args.self.now.world.now c.args.self.now.added.now c.args.self.now.absent c.args.name.now c.requires c.items.result.now c.bytes.result.now _ c.items.ensures c.bytes.ensures c.in-Some.ensures
