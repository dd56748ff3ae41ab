use Rattle.go_client_walks.proofs.WalkedFiles.{walked_rows, readable}
use Rattle.go_client_walks.proofs.units.client_walk.Goals as goal

pub finished-requires-clause-rows : goal.finished-requires-clause-rows
finished-requires-clause-rows g c = walked_rows c.items.result.now c.args.module_path.now c.args.folders.now (g.R.FolderReader.gives c.args.reader.now) c.in-Ok.ensures.ok.walked

pub finished-requires-clause-readable : goal.finished-requires-clause-readable
finished-requires-clause-readable g c =
    readable c.items.result.now c.args.module_path.now c.args.folders.now (g.R.FolderReader.gives c.args.reader.now) (λ n sources k. g.met.R.FolderReader.few c.args.reader.now n sources k) c.in-Ok.ensures.ok.walked
