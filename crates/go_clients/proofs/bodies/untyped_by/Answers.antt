use Rattle.std.proofs.Common.{List, ap, subst, ◌∙◌}
use Rattle.go_client_typings.specs.Clients.{Blocks, setting}
use Rattle.go_clients.proofs.FoundBodies.{found_under}
use Rattle.go_clients.specs.inner.Told.{Finds, FindsIn, lists_of}
use Rattle.go_declarations.specs.Listings.{declarations_of}
use Rattle.go_sources.specs.UnitSources.{source_of}
use Rattle.go_typings.specs.Declarations.{Declaration}
use Rattle.go_units.proofs.Results.{if_ok_as}
use Rattle.go_clients.proofs.bodies.untyped_by.Goals as goal

pub returns : goal.returns
returns c =
    let s = setting c.args.imports.now c.args.bits c.args.profile in
    let u = source_of c.args.client.now.«unit» in
    let env = c.in_ok-env.env in
    if_ok_as (FindsIn env (lists_of c.items-all.result.now) (declarations_of c.args.tables.now.declarations.now)) (Finds s u c.args.client.now.blocks)
    (λ r k. found_under s u c.args.client.now.blocks env (λ a d i. c.same_environment.ensures.grows s u a env d i c.requires.pathed) (λ a d i. c.same_environment.ensures.back s u a env d i c.requires.pathed) c.in_ok-env.ensures.keeps r
    (subst (λ (w : Blocks × List Declaration). FindsIn env w.0 w.1 r) (λ i. ((ap lists_of c.items-all.ensures ∙ c.in_ok-blocks.ensures ∙ c.items-lists.ensures) i, c.requires.listed i)) k))
    c.first_in.result c.first_in.ensures
