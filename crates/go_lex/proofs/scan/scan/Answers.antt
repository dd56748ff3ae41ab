use Rattle.std.proofs.Common.{List, ℕ, ap, subst, take}
use Rattle.go_syntax.specs.lexical.Lexemes.{BeginsNone}
use Rattle.go_lex.specs.inner.LongestLexemes.{IsLongestAt}
use Rattle.go_lex.proofs.ScanState.{scanned_more, scanned_all, scanned_bad}
use Rattle.go_lex.proofs.scan.scan.Goals as goal

pub returns-in_default-clause-cause : goal.returns-in_default-clause-cause
returns-in_default-clause-cause c =
    scanned_bad c.args.bytes.now c.mark_len-at.result c.loop-at.emitter.tokens c.loop-at.at c.loop-at.emitter.pending c.mark_len-at.ensures.value c.loop-at.invariant c.loop-at-test.true
    (subst BeginsNone c.past-rest.ensures c.in_default.ensures.none)

pub loop-at-preserved : goal.loop-at-preserved
loop-at-preserved c =
    let said = c.in_ok-emit.ensures.tokens in
    scanned_more c.args.bytes.now c.mark_len-at.result c.loop-at.emitter.tokens c.loop-at.at c.loop-at.emitter.pending c.in-Some.lexeme.kind said.0 c.in-Some.lexeme.len (take c.in-Some.lexeme.len c.past-rest.result.now) _ _
    c.loop-at.invariant
    (subst (λ (xs : List ℕ). IsLongestAt xs c.in-Some.lexeme.kind c.in-Some.lexeme.len) c.past-rest.ensures c.in-Some.ensures.some)
    (ap (λ (xs : List ℕ). take c.in-Some.lexeme.len xs) c.past-rest.ensures)
    said.1
    said.2
    c.in_ok-emit.ensures.pending

pub returns-clause-tokens : goal.returns-clause-tokens
returns-clause-tokens c =
    scanned_all c.args.bytes.now c.mark_len-at.result c.loop-at.emitter.tokens _ c.loop-at.at c.loop-at.emitter.pending c.mark_len-at.ensures.within c.mark_len-at.ensures.value c.loop-at.invariant c.loop-at-test.false
    c.in_ok-end_line.ensures.tokens
