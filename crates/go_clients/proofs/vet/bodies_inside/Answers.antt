use Rattle.std.proofs.Common.{true, Option, subst}
use Rattle.go_client_typings.specs.Clients.{setting}
use Rattle.go_clients.proofs.VettedClients.{not_untyped, typed_client}
use Rattle.go_clients.specs.inner.Told.{Finds}
use Rattle.go_sources.specs.UnitSources.{source_of}
use Rattle.go_syntax.specs.declared.name.Place.{Place}
use Rattle.go_clients.proofs.vet.bodies_inside.Goals as goal

pub returns-in-None : goal.returns-in-None
returns-in-None c =
    let s = setting c.args.world.now c.args.bits true in
    let u = source_of c.args.client.now.«unit» in
    let bs = c.args.client.now.blocks in
    typed_client s u bs c.requires.typed.0 c.requires.typed.1 (subst (λ (o : Option Place). Finds s u bs o) c.in-None.is c.in_ok-found.ensures)

pub outside-requires-clause-outside : goal.outside-requires-clause-outside
outside-requires-clause-outside c =
    let s = setting c.args.world.now c.args.bits true in
    let u = source_of c.args.client.now.«unit» in
    let bs = c.args.client.now.blocks in
    not_untyped s u bs c.requires.typed.0 _ c.requires.typed.1 (subst (λ (o : Option Place). Finds s u bs o) c.in-Some.is c.in_ok-found.ensures)
