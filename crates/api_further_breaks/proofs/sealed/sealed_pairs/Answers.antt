use Rattle.std.proofs.Common.{ap, get_or, subst}
use Rattle.go_type_images.specs.declared.pair.TypePair.{TypePair}
use Rattle.api_correspond.proofs.Places.{at_get}
use Rattle.api_further_breaks.specs.inner.Sealed.{AddsSealed}
use Rattle.api_further_breaks.proofs.Indexing.{sealed_more, sealed_all}
use Rattle.api_further_breaks.proofs.sealed.sealed_pairs.Goals as goal

pub loop-at-preserved : goal.loop-at-preserved
loop-at-preserved c = sealed_more c.args.old.now c.args.new.now c.args.pairs.now c.loop-at.at (get_or c.args.pairs.now c.loop-at.at c.index-pairs-at.result) c.loop-at.sealed c.add.new.self (at_get c.args.pairs.now c.loop-at.at (get_or c.args.pairs.now c.loop-at.at c.index-pairs-at.result) c.loop-at-test.true (ap (get_or c.args.pairs.now c.loop-at.at) c.index-pairs-at.is)) c.loop-at.invariant (subst (λ (p : TypePair). AddsSealed c.args.old.now c.args.new.now p c.loop-at.sealed c.add.new.self) c.index-pairs-at.is c.in_ok-add.ensures)

pub returns : goal.returns
returns c = sealed_all c.args.old.now c.args.new.now c.args.pairs.now c.loop-at.at c.loop-at.sealed c.loop-at-test.false c.loop-at.invariant
