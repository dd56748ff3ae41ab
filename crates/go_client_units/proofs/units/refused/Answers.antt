use Rattle.go_client_units.proofs.JoinedClients.{other_refused, own_refused}
use Rattle.go_client_units.proofs.units.refused.Goals as goal

pub returns-in-Err : goal.returns-in-Err
returns-in-Err g c = own_refused c.args.module_path.now c.args.folders.now (g.R.FolderReader.gives c.args.reader.now) c.args.error c.in-Err.own c.in-Err.ensures

pub returns-in-Ok : goal.returns-in-Ok
returns-in-Ok g c = other_refused c.args.module_path.now c.args.folders.now (g.R.FolderReader.gives c.args.reader.now) c.args.error c.in-Ok.ensures
