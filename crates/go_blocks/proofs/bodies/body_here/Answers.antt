use Rattle.std.proofs.Common.{[], List, subst, sym}
use Rattle.go_blocks.proofs.EnteredBodies.{no_receiver_type}
use Rattle.go_local_scopes.proofs.Standing.{back_at}
use Rattle.go_model.specs.declared.types.term.Term.{Term}
use Rattle.go_operators.proofs.Answers.{found_none, found_some}
use Rattle.go_rules.specs.Scopes.{env_of}
use Rattle.go_statement_rules.specs.Functions.{OfReceiver}
use Rattle.go_switch_statements.specs.go_walks.Below.{blocks_of}
use Rattle.go_blocks.proofs.bodies.body_here.Goals as goal

pub returns-in-None-clause-judged : goal.returns-in-None-clause-judged
returns-in-None-clause-judged c = λ has E at.
    let f = c.args.func.now in
    let e = c.args.env.now in
    no_receiver_type E (blocks_of c.args.frame.now) f c.args.body.now has
    (λ ts o. found_none (λ (us : List Term). OfReceiver (env_of e) f.receiver us) c.in_ok-given.given c.in-None.is c.in_ok-given.ensures ts (back_at E [] e at (λ F. OfReceiver F f.receiver ts) o))
    c.tested.result c.tested.ensures

pub returns-clause-judged : goal.returns-clause-judged
returns-clause-judged c = λ has.
    let f = c.args.func.now in
    let e = c.args.env.now in
    c.signed_body.ensures.judged has
    (subst (OfReceiver (env_of e) f.receiver) (sym c.items.ensures) (found_some (λ (us : List Term). OfReceiver (env_of e) f.receiver us) c.in_ok-given.given c.in-Some.received c.in-Some.is c.in_ok-given.ensures))
