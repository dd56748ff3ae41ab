use Rattle.go_client_typings.specs.Clients.{IsVetted}
use Rattle.go_clients.proofs.VettedClients.{error_told}
use Rattle.go_clients.specs.inner.Told.{TellsError}
use Rattle.go_sources.specs.UnitSources.{source_of}
use Rattle.go_units.proofs.Results.{if_ok_as}
use Rattle.go_clients.proofs.vet.outside.Goals as goal

pub returns-in-Err : goal.returns-in-Err
returns-in-Err c =
    let u = source_of c.args.client.now.«unit» in
    if_ok_as (TellsError c.in-Err.error) (IsVetted c.args.world.now c.args.bits u c.args.client.now.blocks)
    (λ v h. error_told c.args.world.now c.args.bits u c.args.client.now.blocks c.in-Err.error v h c.in-Err.ensures) c.told_error.result c.told_error.ensures

pub bodies_outside-requires-clause-typed : goal.bodies_outside-requires-clause-typed
bodies_outside-requires-clause-typed c = (_, c.in-Ok.ensures)
