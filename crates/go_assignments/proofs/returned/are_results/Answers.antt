use Rattle.go_type_terms.specs.Answers.{env_in}
use Rattle.go_rules.specs.Usability.{UsableAs}
use Rattle.go_assignments.proofs.Pairs.{pairs_lack, pairs_lengths, pairs_next, pairs_whole}
use Rattle.go_assignments.proofs.Results.{in_results, to_results}
use Rattle.go_assignments.proofs.returned.are_results.Goals as goal

pub returns-then-not-same : goal.returns-then-not-same
returns-then-not-same c =
    let E = env_in c.args.context.now in
    λ u. c.if-not-same.true (pairs_lengths (UsableAs E) c.args.operands.now c.args.results.now (in_results E c.args.operands.now c.args.results.now u))

pub returns-then-not-fits : goal.returns-then-not-fits
returns-then-not-fits c =
    let E = env_in c.args.context.now in
    λ u. pairs_lack (UsableAs E) c.args.operands.now c.args.results.now c.loop-at.at _ _ c.in_ok-fits.fits c.loop-at-test.true c.if-not-same.false c.index-operands-at.is c.index-results-at.is c.if-not-fits.true c.in_ok-fits.ensures
    (in_results E c.args.operands.now c.args.results.now u)

pub loop-at-preserved : goal.loop-at-preserved
loop-at-preserved c =
    pairs_next (UsableAs (env_in c.args.context.now)) c.args.operands.now c.args.results.now c.loop-at.at _ _ c.in_ok-fits.fits c.loop-at-test.true c.if-not-same.false c.index-operands-at.is c.index-results-at.is c.if-not-fits.false c.in_ok-fits.ensures
    c.loop-at.invariant

pub returns : goal.returns
returns c =
    let E = env_in c.args.context.now in
    to_results E c.args.operands.now c.args.results.now (pairs_whole (UsableAs E) c.args.operands.now c.args.results.now c.loop-at.at c.loop-at-test.false c.if-not-same.false c.loop-at.invariant)
