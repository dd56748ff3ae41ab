use Rattle.std.proofs.Common.{subst}
use Rattle.std.specs.Prelude.{option_map}
use Rattle.api_forced.specs.inner.Graphs.{FollowedBy}
use Rattle.api_forced.proofs.Following.{following_begun, following_more, following_all}
use Rattle.api_forced.proofs.graph.close.Goals as goal

pub loop-at-init : goal.loop-at-init
loop-at-init c = record { step = c.requires.in_step; following = following_begun c.args.old.now c.args.new.now c.args.table.pairs.items c.new-next.result.items c.new-next.ensures.items }

pub loop-at-preserved : goal.loop-at-preserved
loop-at-preserved c = record {
  step = c.in_ok-numbers-in-Some.ensures.in_step;
  following = following_more c.args.old.now c.args.new.now c.args.table.pairs.items c.loop-at.at c.loop-at.table.pairs.items c.add_all.new.table.pairs.items c.loop-at.next.items c.push.new.self.items c.in-Some.pairs.items c.in_ok-numbers-in-Some.numbers c.loop-at.invariant.following (subst (λ f. FollowedBy c.args.old.now c.args.new.now c.loop-at.table.pairs.items c.loop-at.at (option_map (λ v. v.items) f)) c.in-Some.is c.in_ok-found.ensures) c.in_ok-numbers-in-Some.ensures.adds c.in_ok-push-in-Some.ensures.items;
}

pub returns-in-None-clause-in_step : goal.returns-in-None-clause-in_step
returns-in-None-clause-in_step c = c.loop-at.invariant.step

pub returns-in-None-clause-extends : goal.returns-in-None-clause-extends
returns-in-None-clause-extends c = c.loop-at.invariant.following.extends

pub returns-in-None-clause-closed : goal.returns-in-None-clause-closed
returns-in-None-clause-closed c = following_all c.args.old.now c.args.new.now c.args.table.pairs.items c.loop-at.at c.loop-at.table.pairs.items c.loop-at.next.items c.loop-at.invariant.following (subst (λ f. FollowedBy c.args.old.now c.args.new.now c.loop-at.table.pairs.items c.loop-at.at (option_map (λ v. v.items) f)) c.in-None.is c.in_ok-found.ensures)

pub returns-in-None-clause-reached : goal.returns-in-None-clause-reached
returns-in-None-clause-reached c = c.loop-at.invariant.following.reached
