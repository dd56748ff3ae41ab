use Rattle.std.proofs.Common.{false, Option, subst}
use Rattle.go_client_typings.specs.Clients.{setting}
use Rattle.go_clients.proofs.VettedClients.{typed_client, untyped_client}
use Rattle.go_clients.specs.inner.Told.{Finds}
use Rattle.go_sources.specs.UnitSources.{source_of}
use Rattle.go_syntax.specs.declared.name.Place.{Place}
use Rattle.go_clients.proofs.vet.bodies_outside.Goals as goal

pub returns-in-None : goal.returns-in-None
returns-in-None c =
    let s = setting c.args.world.now c.args.bits false in
    let u = source_of c.args.client.now.«unit» in
    let bs = c.args.client.now.blocks in
    (typed_client s u bs c.requires.typed.0 c.requires.typed.1 (subst (λ (o : Option Place). Finds s u bs o) c.in-None.is c.in_ok-found.ensures), c.requires.outside)

pub returns-in-Some : goal.returns-in-Some
returns-in-Some c =
    let s = setting c.args.world.now c.args.bits false in
    let u = source_of c.args.client.now.«unit» in
    let bs = c.args.client.now.blocks in
    untyped_client s u bs c.requires.typed.0 c.in-Some.place c.requires.typed.1 (subst (λ (o : Option Place). Finds s u bs o) c.in-Some.is c.in_ok-found.ensures)
