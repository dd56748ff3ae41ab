use Rattle.go_client_units.proofs.JoinedClients.{given_alike, given_few}
use Rattle.go_units.specs.UnitsOfModules.{packages_in}
use Rattle.go_client_units.proofs.units.walked.Goals as goal

pub client_of-requires-clause-few : goal.client_of-requires-clause-few
client_of-requires-clause-few g c = given_few c.args.module_path.now c.args.folders.now (packages_in c.in-Ok.ensures.0) c.args.list.files c.in-Ok.field-0.files c.requires.few_files c.in-Ok.ensures.3

pub client_of-requires-clause-alike : goal.client_of-requires-clause-alike
client_of-requires-clause-alike g c = given_alike c.args.module_path.now c.args.folders.now (packages_in c.in-Ok.ensures.0) c.args.list.files c.in-Ok.field-0.files c.requires.alike c.in-Ok.ensures.3

pub returns-in_ok-client-in-Ok : goal.returns-in_ok-client-in-Ok
returns-in_ok-client-in-Ok g c = record {
  slots = c.in-Ok.ensures.0;
  read = c.in-Ok.ensures.1;
  packages = c.in-Ok.ensures.2;
  files = c.in-Ok.field-0.files;
  given = c.in-Ok.ensures.3;
  client = c.in_ok-client-in-Ok.ensures;
}
