use Rattle.worlds.proofs.Paths.{none_has}
use Rattle.go_model.specs.worlds.Worlds.{path_of}
use Rattle.worlds.proofs.admission.is_new.Goals as goal

pub returns-in-None : goal.returns-in-None
returns-in-None c = λ _. none_has path_of c.args.world.now.packages c.bytes.result.now c.args.added.now.path c.bytes.ensures c.in-None.ensures.package
