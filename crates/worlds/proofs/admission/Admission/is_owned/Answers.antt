use Rattle.worlds.proofs.Paths.{other_owned}
use Rattle.worlds.proofs.admission.Admission.is_owned.Goals as goal

pub returns-in-Some : goal.returns-in-Some
returns-in-Some c = λ _. other_owned c.args.self.now.world.now c.args.self.now.added.now c.args.sel.now c.bytes-2.result.now _ c.bytes-2.ensures c.in-Some.ensures.package
