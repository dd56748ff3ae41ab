use Rattle.std.proofs.Common.{sym, ◌∙◌, arith}
use Rattle.api_worlds.proofs.KeptPackages.{behind_more, behind_none, placed_here, placed_last}
use Rattle.api_worlds.proofs.left_out.place_for.Goals as goal

pub loop-at-init : goal.loop-at-init
loop-at-init c = behind_none c.args.packages.now c.args.path.now

pub returns-then-goes_before : goal.returns-then-goes_before
returns-then-goes_before c = (
  omega (arith, c.loop-at-test.true),
  placed_here c.args.packages.now c.args.path.now c.loop-at.at c.index-packages-at.result c.loop-at-test.true c.index-packages-at.is (sym c.goes_before.ensures ∙ c.if-goes_before.true) c.loop-at.invariant,
)

pub loop-at-preserved : goal.loop-at-preserved
loop-at-preserved c =
    behind_more c.args.packages.now c.args.path.now c.loop-at.at c.index-packages-at.result c.loop-at-test.true c.index-packages-at.is (sym c.goes_before.ensures ∙ c.if-goes_before.false) c.loop-at.invariant

pub returns : goal.returns
returns c = (omega arith, placed_last c.args.packages.now c.args.path.now c.loop-at.at c.loop-at-test.false c.loop-at.invariant)
