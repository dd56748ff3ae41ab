use Rattle.go_operators.proofs.Answers.{decided_false, decided_true}
use Rattle.go_rules.specs.Asks.{AreDistinctNames, texts}
use Rattle.go_type_terms.specs.Answers.{env_in}
use Rattle.go_assignments.specs.Simple.{AreMet}
use Rattle.go_assignments.proofs.Offering.{given_offers, given_values, given_whole}
use Rattle.go_assignments.proofs.defined.offered_in.Goals as goal

pub returns-then-not-distinct : goal.returns-then-not-distinct
returns-then-not-distinct c = λ os g. decided_false (AreDistinctNames (texts c.args.names.now)) _ c.if-not-distinct.true c.in_ok-distinct.ensures g.0

pub returns-in_err-values : goal.returns-in_err-values
returns-in_err-values c = given_values (env_in c.args.context.now) c.args.names.now c.args.exprs.now c.in_err-values.field-0.0 c.from_residual-in_err-values.result c.from_residual-in_err-values.ensures.1 c.in_err-values.ensures

pub returns-then-not-met : goal.returns-then-not-met
returns-then-not-met c = λ os g. decided_false (AreMet (env_in c.args.context.now) c.args.exprs.now) _ c.if-not-met.true c.in_ok-met.ensures g.2

pub returns-in_err-all : goal.returns-in_err-all
returns-in_err-all c =
    given_offers (env_in c.args.context.now) c.args.names.now c.args.exprs.now c.in_ok-values.values c.items.result.now c.in_ok-values.ensures c.items.ensures c.in_err-all.field-0.0 c.from_residual-in_err-all.result c.from_residual-in_err-all.ensures.1 c.in_err-all.ensures

pub returns : goal.returns
returns c =
    let E = env_in c.args.context.now in
    given_whole E c.args.names.now c.args.exprs.now c.in_ok-values.values c.items.result.now c.in_ok-values.ensures c.items.ensures c.in_ok-all.all
    (decided_true (AreDistinctNames (texts c.args.names.now)) _ c.if-not-distinct.false c.in_ok-distinct.ensures) (decided_true (AreMet E c.args.exprs.now) _ c.if-not-met.false c.in_ok-met.ensures) c.in_ok-all.ensures
