use Rattle.go_units.proofs.ReachedFolders.{reaching_first}
use Rattle.go_units.proofs.reached.reached.Goals as goal

pub read_module-requires-clause-reaching : goal.read_module-requires-clause-reaching
read_module-requires-clause-reaching g c =
    reaching_first c.args.module_path.now c.args.folders.now (g.R.FolderReader.gives c.args.reader.now) c.in_ok-slots.slots.items c.new-pending.result.keys c.in_ok-slots.ensures.length c.in_ok-slots.ensures.empty c.new-pending.ensures.empty
