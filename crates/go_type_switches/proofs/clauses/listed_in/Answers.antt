use Rattle.go_type_terms.specs.Answers.{env_in}
use Rattle.go_type_switches.proofs.Listing.{lists_begins, lists_next, lists_none, lists_whole}
use Rattle.go_type_switches.proofs.clauses.listed_in.Goals as goal

pub loop-clause-init : goal.loop-clause-init
loop-clause-init c = lists_begins (env_in c.args.context.now) c.args.interface.now c.args.clauses.now c.new-all.result c.new-all.ensures

pub loop-clause-preserved : goal.loop-clause-preserved
loop-clause-preserved c =
    let k = c.in_ok-push_clause.ensures in
    lists_next (env_in c.args.context.now) c.args.interface.now c.args.clauses.now c.loop-clause.clause-index c.loop-clause.all c.loop-clause.invariant c.clause-item.result c.loop-clause-test.true c.clause-item.is c.push_clause.new.all k.0 k.1 k.2

pub returns-in_err-push_clause : goal.returns-in_err-push_clause
returns-in_err-push_clause c =
    lists_none (env_in c.args.context.now) c.args.interface.now c.args.clauses.now c.loop-clause.clause-index c.loop-clause.all c.loop-clause.invariant c.clause-item.result c.loop-clause-test.true c.clause-item.is
    c.loop-clause.all c.push_clause.new.all c.in_err-push_clause.field-0.0 c.from_residual.result c.from_residual.ensures.1 c.in_err-push_clause.ensures

pub returns : goal.returns
returns c = lists_whole (env_in c.args.context.now) c.args.interface.now c.args.clauses.now c.loop-clause.clause-index c.loop-clause.all c.loop-clause.invariant c.loop-clause-test.false
