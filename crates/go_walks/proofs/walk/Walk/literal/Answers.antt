use Rattle.go_judged.proofs.Joining.{judged_same}
use Rattle.go_judged.specs.Judging.{Judges, tested}
use Rattle.go_judged.specs.declared.judged.Judged.{Judged}
use Rattle.go_literal_blocks.specs.Blocks.{FindsBlock}
use Rattle.go_local_scopes.proofs.Standing.{back_at, holds_at}
use Rattle.go_local_scopes.specs.States.{IsAt}
use Rattle.go_model.specs.declared.types.term.Signature.{Signature}
use Rattle.go_expr.proofs.go_operators_proofs.Answers.{found_none, found_some}
use Rattle.go_rules.specs.Environments.{Env}
use Rattle.go_rules.specs.Expressions.{OfSignature}
use Rattle.go_rules.specs.Scopes.{env_of}
use Rattle.go_statement_rules.specs.Functions.{EntersFunction, IsBlockAt}
use Rattle.go_statement_rules.specs.Scopes.{Scopes, opened}
use Rattle.go_statement_rules.specs.Statements.{IsTypedFunction}
use Rattle.go_syntax.specs.declared.types.Signature.{out-Signature as out-Sig}
use Rattle.go_walks.proofs.Entered.{before_first, literal_entered, no_block, no_signature}
use Rattle.go_walks.specs.Below.{blocks_of, enclosing_of}
use Rattle.go_walks.specs.Entering.{Enters, IsTypedIn}
use Rattle.std.proofs.Common.{arith, subst, sym}
use Rattle.std.proofs.lemmas.Result.{IfOk-weaker}
use Rattle.std.specs.Prelude.{false}
use Rattle.go_walks.proofs.walk.Walk.literal.Goals as goal

pub returns-then-early-clause-judged : goal.returns-then-early-clause-judged
returns-then-early-clause-judged g c = λ E s at.
    let w = c.args.self.now.frame.now in
    let B = blocks_of w in
    let r = enclosing_of w in
    let f = c.args.literal.signature.now in
    let b = c.args.literal.body.now in
    judged_same E B (IsTypedFunction E B r s f b) (EntersFunction E B r s f b) (tested false) c.tested-none.result c.tested-none.ensures (before_first E B r s f b (λ h. omega (arith, h)))

pub returns-in-None-clause-judged : goal.returns-in-None-clause-judged
returns-in-None-clause-judged g c = λ E s at.
    let w = c.args.self.now.frame.now in
    let B = blocks_of w in
    let r = enclosing_of w in
    let f = c.args.literal.signature.now in
    let b = c.args.literal.body.now in
    judged_same E B (IsTypedFunction E B r s f b) (EntersFunction E B r s f b) (tested false) c.tested-none.result c.tested-none.ensures
    (no_signature E B r s f b (λ h o. found_none (λ (k : Signature). OfSignature (env_of c.args.env.now) (out-Sig f).parameters (out-Sig f).result k) c.in_ok-given.given c.in-None.is c.in_ok-given.ensures h (back_at E s c.args.env.now at (λ F. OfSignature F (out-Sig f).parameters (out-Sig f).result h) o)))

pub returns-in-None-place-clause-judged : goal.returns-in-None-place-clause-judged
returns-in-None-place-clause-judged g c = λ E s at.
    let w = c.args.self.now.frame.now in
    let B = blocks_of w in
    let r = enclosing_of w in
    let f = c.args.literal.signature.now in
    let b = c.args.literal.body.now in
    judged_same E B (IsTypedFunction E B r s f b) (EntersFunction E B r s f b) (tested false) c.tested-none.result c.tested-none.ensures
    (no_block E B r s f b (subst (FindsBlock B b.start) c.in-None-place.is c.find-place.ensures))

pub returns-clause-judged : goal.returns-clause-judged
returns-clause-judged g c =
    let w = c.args.self.now.frame.now in
    let B = blocks_of w in
    let r = enclosing_of w in
    let f = c.args.literal.signature.now in
    let b = c.args.literal.body.now in
    let e = c.args.env.now in
    let h = c.in-Some.signed in
    let ss = c.block_at-statements.result.now in
    let there = subst (FindsBlock B b.start) c.in-Some-place.is c.find-place.ensures in
    let is : IsBlockAt B b.start ss = subst (IsBlockAt B b.start) (sym (c.block_at-statements.ensures there.0 there.2)) there.3 in
    IfOk-weaker c.function.result (λ (j : Judged). (E : Env) (s : Scopes) → IsAt E s e → Judges E B (IsTypedIn E B (opened s) f h b.start ss) (Enters (opened s) f h b.start ss) j)
    (λ (j : Judged). (E : Env) (s : Scopes) → IsAt E s e → Judges E B (IsTypedFunction E B r s f b) (EntersFunction E B r s f b) j)
    (λ j k E s at. literal_entered E B r s f b h ss (omega (arith, c.if-early.false)) (holds_at E s e at (λ F. OfSignature F (out-Sig f).parameters (out-Sig f).result h) (found_some (λ (k : Signature). OfSignature (env_of e) (out-Sig f).parameters (out-Sig f).result k) c.in_ok-given.given h c.in-Some.is c.in_ok-given.ensures)) is j (k E s at))
    c.function.ensures.judged
