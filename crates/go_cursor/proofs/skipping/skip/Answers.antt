use Rattle.std.proofs.Common.{◌≡◌, ℕ, ◌-◌, ◌<◌, ◌==◌, ◌∙◌, List, length, reverse, Bool, if◌then◌else◌, Some, None, ap, sym, arith}
use Rattle.std.proofs.lemmas.List.{length-drop}
use Rattle.go_syntax.specs.declared.token.TokenKind.{TokenKind}
use Rattle.go_syntax.specs.grammar.Terminals.{Terminal, terminals}
use Rattle.go_cursor.specs.Skipping.{skip}
use Rattle.go_cursor.proofs.Skips.{skip_fails, skip_none, skip_ends, skip_goes_on}
use Rattle.go_cursor.proofs.skipping.skip.Goals as goal

pub loop-turn-init : goal.loop-turn-init
loop-turn-init c = (ap (λ (ws : List TokenKind). skip (terminals c.args.tokens.now) (reverse ws)) (sym c.in_ok-wanted.ensures), omega arith)

pub returns-then-not-fits : goal.returns-then-not-fits
returns-then-not-fits c =
    let ts : List Terminal = terminals c.loop-turn.tokens in
    c.loop-turn.invariant.0
    ∙ skip_fails ts (reverse c.loop-turn.wanted.items)
    (c.in_ok-fits.ensures ∙ ap (λ (b : Bool). if b then Some (reverse c.after_next.new.wanted.items) else None) c.if-not-fits.true)

pub returns-then-is_empty : goal.returns-then-is_empty
returns-then-is_empty c =
    let ts : List Terminal = terminals c.loop-turn.tokens in
    let us : List Terminal = terminals c.advance.new.self in
    let ws : List TokenKind = c.after_next.new.wanted.items in
    let some : 0 < length ts = omega (arith, c.loop-turn.invariant.1) in
    c.loop-turn.invariant.0
    ∙ skip_ends ts us (reverse c.loop-turn.wanted.items) ws some c.advance.ensures
    (c.in_ok-fits.ensures ∙ ap (λ (b : Bool). if b then Some (reverse ws) else None) c.if-not-fits.false)
    (ap (λ (n : ℕ). n == 0) (sym c.after_next.new.wanted.ok.0) ∙ sym c.is_empty.ensures ∙ c.if-is_empty.true)
    ∙ ap (λ (n : ℕ). Some (n, us)) (sym c.end-end.ensures)

pub loop-turn-preserved : goal.loop-turn-preserved
loop-turn-preserved c =
    let ts : List Terminal = terminals c.loop-turn.tokens in
    let us : List Terminal = terminals c.advance-in-loop-turn.new.self in
    let ws : List TokenKind = c.after_next.new.wanted.items in
    let some : 0 < length ts = omega (arith, c.loop-turn.invariant.1) in
    let left : length us ≡ length ts - 1 = ap length c.advance-in-loop-turn.ensures ∙ length-drop 1 ts in (
      c.loop-turn.invariant.0
          ∙ skip_goes_on ts us (reverse c.loop-turn.wanted.items) ws some c.advance-in-loop-turn.ensures
          (c.in_ok-fits.ensures ∙ ap (λ (b : Bool). if b then Some (reverse ws) else None) c.if-not-fits.false)
          (ap (λ (n : ℕ). n == 0) (sym c.after_next.new.wanted.ok.0) ∙ sym c.is_empty.ensures ∙ c.if-is_empty.false),
      omega (arith, c.loop-turn.invariant.1, left),
    )

pub returns : goal.returns
returns c = c.loop-turn.invariant.0 ∙ skip_none (terminals c.loop-turn.tokens) (reverse c.loop-turn.wanted.items) (omega (arith, c.loop-turn.invariant.1))
