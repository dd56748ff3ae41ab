use Rattle.std.proofs.Common.{false, [], subst}
use Rattle.go_base.specs.Growing.{Grows}
use Rattle.go_client_walks.proofs.ReachedFolders.{reaching_first}
use Rattle.go_units.specs.Reached.{ReadFolders}
use Rattle.go_units.specs.inner.Reaching.{FilesAskNew}
use Rattle.go_client_walks.proofs.reached.reached_module.Goals as goal

pub read_module-requires-clause-reaching : goal.read_module-requires-clause-reaching
read_module-requires-clause-reaching g c =
    reaching_first [] c.args.module_path.now c.args.folders.now (g.R.FolderReader.gives c.args.reader.now) c.in_ok-slots.slots.items c.in_ok-pending.pending.keys c.in_ok-slots.ensures.length c.in_ok-slots.ensures.empty
    (subst (λ (slots : ReadFolders). Grows (FilesAskNew c.args.module_path.now c.args.folders.now slots false []) [] c.in_ok-pending.pending.keys) c.deref.ensures.value c.in_ok-pending.ensures)
