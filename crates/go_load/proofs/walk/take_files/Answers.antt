use Rattle.go_load.proofs.StoreSteps.{told_same, taking_refused_told}
use Rattle.go_load.proofs.walk.take_files.Goals as goal

pub returns-in-Err-clause-told : goal.returns-in-Err-clause-told
returns-in-Err-clause-told g c = told_same _ c.loop.invariant.same
    (taking_refused_told (g.F.Files.told c.loop.files) c.args.at.now c.args.folder.now c.args.names.now.keys c.loop.names.keys c.pop_first.new.self.keys c.in-Some.name c.args.taken.now c.loop.taken c.take_file.new.taken c.in-Err.error
    c.in-Some.ensures.removal c.loop.invariant.taking c.in-Err.ensures.told)
