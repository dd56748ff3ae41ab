use Rattle.std.proofs.Common.{ap, ◌∙◌, refl}
use Rattle.go_model.specs.types.Selectors.{start}
use Rattle.go_model.specs.types.Underlying.{under, fields_of}
use Rattle.go_model.specs.worlds.Worlds.{Packages}
use Rattle.api_correspond.specs.Publics.{types_of}
use Rattle.api_correspond.proofs.Spreading.{spread, spreads_more}
use Rattle.api_correspond.proofs.embedded.deep_fields.Goals as goal

pub returns-in-None : goal.returns-in-None
returns-in-None c = spread (types_of c.args.world.now) c.args.term.now (start (types_of c.args.world.now) c.args.term.now).term c.loop-at.at c.loop-at.all.items c.loop-at.seen.keys c.loop-at.sels.items refl c.loop-at.invariant c.in-None.ensures

pub loop-at-preserved : goal.loop-at-preserved
loop-at-preserved c = spreads_more (types_of c.args.world.now) (start (types_of c.args.world.now) c.args.term.now).term c.loop-at.at c.loop-at.all.items c.push_embedded-in-Some.new.all.items c.loop-at.seen.keys c.push_embedded-in-Some.new.seen.keys c.loop-at.sels.items c.push_sels.new.sels.items c.in-Some.reached.now c.fields_of-fields.result.now (c.fields_of-fields.ensures ∙ ap fields_of (c.under-in-Some.ensures ∙ ap (λ (w : Packages). under (types_of w) c.in-Some.reached.now) c.new-types.ensures)) c.loop-at.invariant c.in-Some.ensures.0 c.in-Some.ensures.1 c.in_ok-push_sels-in-Some.ensures c.in_ok-push_embedded-in-Some.ensures
