use Rattle.go_type_terms.specs.Answers.{env_in}
use Rattle.go_assignments.proofs.Offering.{offers_begin, offers_next, offers_whole}
use Rattle.go_assignments.proofs.defined.offers.Goals as goal

pub returns-then-not-same : goal.returns-then-not-same
returns-then-not-same c = c.if-not-same.true

pub loop-at-init : goal.loop-at-init
loop-at-init c = offers_begin (env_in c.args.context.now) c.args.names.now c.args.values.now c.new-all.result c.new-all.ensures

pub loop-at-preserved : goal.loop-at-preserved
loop-at-preserved c =
    offers_next (env_in c.args.context.now) c.args.names.now c.args.values.now c.loop-at.at _ _ c.loop-at-test.true c.if-not-same.false c.index-names-at.is c.index-values-at.is c.loop-at.all c.push.new.self c.in_ok-one.one c.in_ok-one.ensures
    c.in_ok-push.ensures.ok c.loop-at.invariant

pub returns : goal.returns
returns c = offers_whole (env_in c.args.context.now) c.args.names.now c.args.values.now c.loop-at.all c.loop-at.at c.loop-at-test.false c.if-not-same.false c.loop-at.invariant
