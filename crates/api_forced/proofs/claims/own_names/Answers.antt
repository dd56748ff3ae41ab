use Rattle.std.proofs.Common.{take, ◌+◌}
use Rattle.go_selectors.proofs.Lists.{taken_next}
use Rattle.api_correspond.proofs.Tabling.{keeps_none, keeps_more}
use Rattle.api_forced.proofs.Naming.{names_begun, names_more, names_all}
use Rattle.api_forced.proofs.claims.own_names.Goals as goal

pub loop-pair-init : goal.loop-pair-init
loop-pair-init c = record { keeps = keeps_none c.args.texts.now.keys; names = names_begun c.args.world.now c.args.texts.now.keys c.new-own.result.items c.new-own.ensures.items }

pub loop-pair-preserved : goal.loop-pair-preserved
loop-pair-preserved c = record {
  keeps = keeps_more c.args.texts.now.keys c.loop-pair.texts.keys c.own_name.new.texts.keys c.loop-pair.invariant.keeps c.in_ok-name.ensures.keeps;
  names = names_more c.args.world.now c.loop-pair.texts.keys c.own_name.new.texts.keys (take c.loop-pair.pair-index c.deref-pair-items.result.now) (take (c.loop-pair.pair-index + 1) c.deref-pair-items.result.now) c.loop-pair.own.items c.push.new.self.items c.pair-item.result c.in_ok-name.name (taken_next c.deref-pair-items.result.now c.loop-pair.pair-index c.pair-item.result c.loop-pair-test.true c.pair-item.is) c.in_ok-push.ensures.items c.in_ok-name.ensures.keeps c.loop-pair.invariant.names c.in_ok-name.ensures.own;
}

pub returns-clause-own : goal.returns-clause-own
returns-clause-own c = names_all c.args.world.now c.loop-pair.texts.keys c.args.pairs.now.items c.deref-pair-items.result.now c.loop-pair.own.items c.loop-pair.pair-index c.deref-pair-items.ensures.value c.loop-pair-test.false c.loop-pair.invariant.names
