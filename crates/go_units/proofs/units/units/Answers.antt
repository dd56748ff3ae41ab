use Rattle.go_units.proofs.WalkedFiles.{walked_rows, readable}
use Rattle.go_units.proofs.units.units.Goals as goal

pub ordered-requires-clause-rows : goal.ordered-requires-clause-rows
ordered-requires-clause-rows g c = walked_rows c.args.module_path.now c.args.folders.now (g.R.FolderReader.gives c.args.reader.now) c.in-Ok.ensures.ok.walked

pub ordered-requires-clause-readable : goal.ordered-requires-clause-readable
ordered-requires-clause-readable g c =
    readable c.args.module_path.now c.args.folders.now (g.R.FolderReader.gives c.args.reader.now) (λ n sources k. g.met.R.FolderReader.few c.args.reader.now n sources k) c.in-Ok.ensures.ok.walked
