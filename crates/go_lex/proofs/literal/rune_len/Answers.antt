use Rattle.std.proofs.Common.{◌≡◌, List, ℕ, true, false, sym, ◌∙◌, subst}
use Rattle.go_lex.specs.inner.Starts.{begins_byte}
use Rattle.go_lex.proofs.Literals.{rune_only, rune_open, rune_none}
use Rattle.go_lex.proofs.literal.rune_len.Goals as goal

pub returns-in_default-clause-none : goal.returns-in_default-clause-none
returns-in_default-clause-none c = rune_none c.args.behind.now c.in_default.ensures.none

pub returns-then-begins_byte-clause-some : goal.returns-then-begins_byte-clause-some
returns-then-begins_byte-clause-some c =
    rune_only c.args.behind.now c.in-Some.c c.in-Some.ensures.some (subst (λ (xs : List ℕ). begins_byte 39 xs ≡ true) c.past.ensures (sym c.begins_byte.ensures ∙ c.if-begins_byte.true))

pub returns-else-begins_byte-clause-none : goal.returns-else-begins_byte-clause-none
returns-else-begins_byte-clause-none c =
    rune_open c.args.behind.now c.in-Some.c c.in-Some.ensures.some (subst (λ (xs : List ℕ). begins_byte 39 xs ≡ false) c.past.ensures (sym c.begins_byte.ensures ∙ c.if-begins_byte.false))
