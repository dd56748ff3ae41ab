use Rattle.std.proofs.Common.{◌≡◌, List, ℕ, true, false, sym, ◌∙◌, subst}
use Rattle.go_lex.specs.inner.Starts.{begins_byte}
use Rattle.go_lex.specs.inner.CharacterPrefixes.{BeginsCharacter, BeginsNoCharacter}
use Rattle.go_lex.proofs.Literals.{string_start, string_step, string_only, string_open}
use Rattle.go_lex.proofs.literal.string_len.Goals as goal

pub loop-c-init : goal.loop-c-init
loop-c-init c = string_start c.args.behind.now

pub loop-c-preserved : goal.loop-c-preserved
loop-c-preserved c = string_step c.args.behind.now c.loop-c.at c.in-Some.c c.loop-c.invariant (subst (λ (xs : List ℕ). BeginsCharacter 34 xs c.in-Some.c) c.past.ensures c.in-Some.ensures.some)

pub returns-then-begins_byte-clause-some : goal.returns-then-begins_byte-clause-some
returns-then-begins_byte-clause-some c =
    string_only c.args.behind.now c.loop-c.at c.loop-c.invariant (subst (BeginsNoCharacter 34) c.past.ensures c.in_default.ensures.none)
    (subst (λ (xs : List ℕ). begins_byte 34 xs ≡ true) c.past-2.ensures (sym c.begins_byte.ensures ∙ c.if-begins_byte.true))

pub returns-else-begins_byte-clause-none : goal.returns-else-begins_byte-clause-none
returns-else-begins_byte-clause-none c =
    string_open c.args.behind.now c.loop-c.at c.loop-c.invariant (subst (BeginsNoCharacter 34) c.past.ensures c.in_default.ensures.none)
    (subst (λ (xs : List ℕ). begins_byte 34 xs ≡ false) c.past-2.ensures (sym c.begins_byte.ensures ∙ c.if-begins_byte.false))
