use Rattle.std.proofs.Common.{ap, arith}
use Rattle.api_correspond.proofs.Tabling.{keeps_none, keeps_more, keeps_at}
use Rattle.api_forced.proofs.Entering.{entering_begun, entering_next, entering_last}
use Rattle.api_forced.proofs.forced.enter.Goals as goal

pub loop-one-init : goal.loop-one-init
loop-one-init c = record { step = c.requires.in_step; keeps = keeps_none c.args.texts.now.keys; entering = entering_begun c.args.found.now.items c.args.texts.now.keys c.args.table.now.pairs.items c.new-roots.result.items c.requires.none c.new-roots.ensures.items }

pub loop-one-preserved : goal.loop-one-preserved
loop-one-preserved c = record {
  step = c.in_ok-pair.ensures.in_step;
  keeps = keeps_more c.args.texts.now.keys c.loop-one.texts.keys c.add_text.new.texts.keys c.loop-one.invariant.keeps (keeps_at c.loop-one.texts.keys c.add_text.new.texts.keys c.into_parts-name.result.0 c.in_ok-owner.owner c.in_ok-owner._fresh c.in_ok-owner.ensures);
  entering = entering_next c.args.found.now.items c.loop-one.found.items c.pop.new.self.items c.loop-one.texts.keys c.add_text.new.texts.keys c.loop-one.table.pairs.items c.add.new.self.pairs.items c.loop-one.roots.items c.push.new.self.items c.in-Some.one c.into_parts-name.result.0 c.into_parts-name.result.1 c.in_ok-owner.owner c.in_ok-owner._fresh c.in_ok-pair.pair c.in-Some.ensures.items c.loop-one.invariant.entering (ap (λ x. x.0) c.into_parts-name.ensures) (ap (λ x. x.1) c.into_parts-name.ensures) c.in_ok-owner.ensures c.in_ok-pair.ensures.adds c.in_ok-push.ensures.items;
}

pub returns-clause-roots : goal.returns-clause-roots
returns-clause-roots c = entering_last c.args.found.now.items c.loop-one.found.items c.loop-one.texts.keys c.loop-one.table.pairs.items c.loop-one.roots.items (let k = c.loop-one.found.ok in let z = c.in_default.ensures.cases.0 in omega (arith, k, z)) c.loop-one.invariant.entering

pub returns-clause-only : goal.returns-clause-only
returns-clause-only c = c.loop-one.invariant.entering.only
