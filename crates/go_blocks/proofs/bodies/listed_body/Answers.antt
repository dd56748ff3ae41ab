use Rattle.std.proofs.Common.{[], subst, sym}
use Rattle.std.proofs.lemmas.Result.{IfOk-weaker}
use Rattle.go_blocks.proofs.EnteredBodies.{body_entered, no_block}
use Rattle.go_blocks.specs.Bodies.{EntersWith, IsTypedWith}
use Rattle.go_judged.specs.Judging.{Judges}
use Rattle.go_judged.specs.declared.judged.Judged.{Judged}
use Rattle.go_literal_blocks.specs.Blocks.{FindsBlock}
use Rattle.go_local_scopes.proofs.Standing.{holds_at}
use Rattle.go_local_scopes.specs.States.{IsAt}
use Rattle.go_rules.specs.Environments.{Env}
use Rattle.go_rules.specs.Expressions.{OfSignature}
use Rattle.go_statement_rules.specs.Bodies.{IsTypedBody}
use Rattle.go_statement_rules.specs.Functions.{EntersBody, IsBlockAt, OfReceiver}
use Rattle.go_statement_rules.specs.Scopes.{Scopes, opened}
use Rattle.go_syntax.specs.declared.types.Signature.{out-Signature}
use Rattle.go_switch_statements.specs.go_walks.Below.{blocks_of}
use Rattle.go_blocks.proofs.bodies.listed_body.Goals as goal

pub returns-in-None-clause-judged : goal.returns-in-None-clause-judged
returns-in-None-clause-judged c = λ has received signed E at.
    let B = blocks_of c.args.frame.now in
    let b = c.args.body.now in
    no_block E B c.args.func.now b has (subst (FindsBlock B b.start) c.in-None.is c.find-place.ensures) c.tested.result c.tested.ensures

pub statements-list-requires : goal.statements-list-requires
statements-list-requires c = let k = subst (FindsBlock (blocks_of c.args.frame.now) c.args.body.now.start) c.in-Some.is c.find-place.ensures in k.1

pub returns-clause-judged : goal.returns-clause-judged
returns-clause-judged c = λ has received signed.
    let B = blocks_of c.args.frame.now in
    let f = c.args.func.now in
    let b = c.args.body.now in
    let g = out-Signature f.signature in
    let e = c.args.env.now in
    let ts = c.args.received.now in
    let h = c.args.signed.now in
    let ss = c.statements-list.result.now in
    let there = subst (FindsBlock B b.start) c.in-Some.is c.find-place.ensures in
    let is : IsBlockAt B b.start ss = subst (IsBlockAt B b.start) (sym (c.statements-list.ensures there.0 there.2)) there.3 in
    IfOk-weaker c.opened_body.result (λ (j : Judged). (E : Env) (s : Scopes) → IsAt E s e → Judges E B (IsTypedWith E B (opened s) f ts h b.start ss) (EntersWith (opened s) f ts h b.start ss) j)
    (λ (j : Judged). (E : Env) → IsAt E [] e → Judges E B (IsTypedBody E B f) (EntersBody E B f) j)
    (λ j k E at. body_entered E B f b has ts h ss (holds_at E [] e at (λ F. OfReceiver F f.receiver ts) received) (holds_at E [] e at (λ F. OfSignature F g.parameters g.result h) signed) is j (k E [] at))
    c.opened_body.ensures.judged
