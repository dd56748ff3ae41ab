use Rattle.api_correspond.proofs.Tabling.{adding_more}
use Rattle.api_forced.proofs.Following.{adding_begun}
use Rattle.api_forced.proofs.graph.add_all.Goals as goal

pub loop-pair-init : goal.loop-pair-init
loop-pair-init c = record { step = c.requires; adding = adding_begun c.args.pairs.now.items c.args.table.now.pairs.items c.new-numbers.result c.new-numbers.ensures }

pub loop-pair-preserved : goal.loop-pair-preserved
loop-pair-preserved c = record {
  step = c.in_ok-at.ensures.in_step;
  adding = adding_more c.args.pairs.now.items c.loop-pair.pairs.items c.pop.new.self.items c.args.table.now.pairs.items c.loop-pair.table.pairs.items c.add.new.self.pairs.items c.loop-pair.numbers c.push.new.self c.in-Some.pair c.in_ok-at.at c.in-Some.ensures.items c.loop-pair.invariant.adding c.in_ok-at.ensures.adds c.in_ok-push.ensures.ok;
}
