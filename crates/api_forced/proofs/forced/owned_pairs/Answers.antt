use Rattle.std.proofs.Common.{subst, sym, List}
use Rattle.go_type_images.specs.declared.pair.TypePair.{TypePair}
use Rattle.api_forced.specs.Ownerships.{IsOwnership}
use Rattle.api_forced.proofs.Forcing.{ownership_exact}
use Rattle.api_forced.proofs.forced.owned_pairs.Goals as goal

pub returns : goal.returns
returns c = subst (λ (w : List TypePair). IsOwnership c.args.old.now c.args.new.now c.own_names.new.texts.keys w c.in_ok-claims.claims.keys) (sym c.pairs_of-pairs.ensures) (ownership_exact c.args.old.now c.args.new.now c.in_ok-found.found.items c.new-owners.result.keys c.enter.new.texts.keys c.own_names.new.texts.keys c.enter.new.table.pairs.items c.in_ok-graph.graph.table.pairs.items c.in_ok-roots.roots.items c.in_ok-own.own.items c.in_ok-graph.graph.next.items c.in_ok-claims.claims.keys c.in_ok-found.ensures.sound c.in_ok-found.ensures.complete c.new-owners.ensures.empty c.in_ok-roots.ensures.texts c.in_ok-roots.ensures.roots c.in_ok-roots.ensures.only c.in_ok-graph.ensures.extends c.in_ok-graph.ensures.in_step.once c.in_ok-graph.ensures.closed c.in_ok-graph.ensures.reached c.in_ok-own.ensures.keeps c.in_ok-own.ensures.own c.in_ok-claims.ensures)
