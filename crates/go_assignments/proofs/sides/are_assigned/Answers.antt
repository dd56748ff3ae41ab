use Rattle.go_type_terms.specs.Answers.{env_in}
use Rattle.go_assignments.specs.inner.Sides.{Takes}
use Rattle.go_assignments.proofs.Pairs.{pairs_lack, pairs_lengths, pairs_next, pairs_whole}
use Rattle.go_assignments.proofs.SideValues.{in_assigned, to_assigned}
use Rattle.go_assignments.proofs.sides.are_assigned.Goals as goal

pub returns-then-not-same : goal.returns-then-not-same
returns-then-not-same c =
    let E = env_in c.args.context.now in
    λ u. c.if-not-same.true (pairs_lengths (Takes E) c.args.sides.now c.args.values.now (in_assigned E c.args.sides.now c.args.values.now u))

pub returns-then-not-fits : goal.returns-then-not-fits
returns-then-not-fits c =
    let E = env_in c.args.context.now in
    λ u. pairs_lack (Takes E) c.args.sides.now c.args.values.now c.loop-at.at _ _ c.in_ok-fits.fits c.loop-at-test.true c.if-not-same.false c.index-sides-at.is c.index-values-at.is c.if-not-fits.true c.in_ok-fits.ensures
    (in_assigned E c.args.sides.now c.args.values.now u)

pub loop-at-preserved : goal.loop-at-preserved
loop-at-preserved c =
    pairs_next (Takes (env_in c.args.context.now)) c.args.sides.now c.args.values.now c.loop-at.at _ _ c.in_ok-fits.fits c.loop-at-test.true c.if-not-same.false c.index-sides-at.is c.index-values-at.is c.if-not-fits.false c.in_ok-fits.ensures
    c.loop-at.invariant

pub returns : goal.returns
returns c =
    let E = env_in c.args.context.now in
    to_assigned E c.args.sides.now c.args.values.now (pairs_whole (Takes E) c.args.sides.now c.args.values.now c.loop-at.at c.loop-at-test.false c.if-not-same.false c.loop-at.invariant)
