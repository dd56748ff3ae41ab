use Rattle.std.proofs.Common.{false, true, ap, refl, subst}
use Rattle.go_check.specs.Answers.{IsWhollyRefusedAs, refusal_of}
use Rattle.go_check.specs.declared.error.CheckError.{CheckError}
use Rattle.go_client_typings.specs.Clients.{setting}
use Rattle.go_clients.proofs.VettedClients.{is_starved, refused_apart, refused_client}
use Rattle.go_sources.specs.UnitSources.{source_of}
use Rattle.go_typings.specs.Refusals.{missing_import, redeclared}
use Rattle.go_clients.proofs.vet.refused.Goals as goal

pub returns-in-Redeclared : goal.returns-in-Redeclared
returns-in-Redeclared c =
    let s = setting c.args.world.now c.args.bits true in
    let u = source_of c.args.client.now.«unit» in
    refused_client (setting c.args.world.now c.args.bits false) u c.args.client.now.blocks (redeclared c.in-Redeclared.place) c.in-Redeclared.place (subst (λ (e : CheckError). IsWhollyRefusedAs s u (refusal_of e)) c.in-Redeclared.is c.requires.refused) refl

pub returns-in-MissingImport : goal.returns-in-MissingImport
returns-in-MissingImport c =
    let s = setting c.args.world.now c.args.bits true in
    let u = source_of c.args.client.now.«unit» in
    refused_client (setting c.args.world.now c.args.bits false) u c.args.client.now.blocks (missing_import c.in-MissingImport.place) c.in-MissingImport.place (subst (λ (e : CheckError). IsWhollyRefusedAs s u (refusal_of e)) c.in-MissingImport.is c.requires.refused) refl

pub outside-requires-clause-outside : goal.outside-requires-clause-outside
outside-requires-clause-outside c =
    refused_apart (setting c.args.world.now c.args.bits true) (source_of c.args.client.now.«unit») c.args.client.now.blocks c.args.error (ap is_starved c.in-Unsound.is) c.requires.refused
