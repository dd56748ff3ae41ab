use Rattle.std.proofs.Common.{[]}
use Rattle.go_blocks.proofs.EnteredBodies.{no_signature}
use Rattle.go_local_scopes.proofs.Standing.{back_at}
use Rattle.go_model.specs.declared.types.term.Signature.{Signature}
use Rattle.go_operators.proofs.Answers.{found_none, found_some}
use Rattle.go_rules.specs.Expressions.{OfSignature}
use Rattle.go_rules.specs.Scopes.{env_of}
use Rattle.go_syntax.specs.declared.types.Signature.{out-Signature}
use Rattle.go_switch_statements.specs.go_walks.Below.{blocks_of}
use Rattle.go_blocks.proofs.bodies.signed_body.Goals as goal

pub returns-in-None-clause-judged : goal.returns-in-None-clause-judged
returns-in-None-clause-judged c = λ has received E at.
    let f = c.args.func.now in
    let g = out-Signature f.signature in
    let e = c.args.env.now in
    no_signature E (blocks_of c.args.frame.now) f c.args.body.now has
    (λ h o. found_none (λ (k : Signature). OfSignature (env_of e) g.parameters g.result k) c.in_ok-given.given c.in-None.is c.in_ok-given.ensures h (back_at E [] e at (λ F. OfSignature F g.parameters g.result h) o))
    c.tested.result c.tested.ensures

pub returns-clause-judged : goal.returns-clause-judged
returns-clause-judged c = λ has received.
    let g = out-Signature c.args.func.now.signature in
    let e = c.args.env.now in
    c.listed_body.ensures.judged has received (found_some (λ (k : Signature). OfSignature (env_of e) g.parameters g.result k) c.in_ok-given.given c.in-Some.signed c.in-Some.is c.in_ok-given.ensures)
