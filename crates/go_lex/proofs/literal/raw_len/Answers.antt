use Rattle.std.proofs.Common.{◌≡◌, ℕ, length, sym, ◌∙◌, subst, arith, ◌∷◌, ◌+◌, ◌≤◌, ◌<◌}
use Rattle.go_lex.specs.inner.OnlyTexts.{IsOnly, IsRaw}
use Rattle.go_lex.proofs.Literals.{raw_only, raw_open, raw_bad}
use Rattle.go_lex.proofs.literal.raw_len.Goals as goal

pub returns-then-len-behind-clause-none : goal.returns-then-len-behind-clause-none
returns-then-len-behind-clause-none c = raw_open c.args.behind.now (sym c.before_backquote-len.ensures.value ∙ c.if-len-behind.true)

smaller : (a b : ℕ) → a ≤ b → (a ≡ b → ⊥) → a < b
smaller a b h other = omega (arith, other)

pub returns-in-Some-clause-some : goal.returns-in-Some-clause-some
returns-in-Some-clause-some c =
    subst (λ (n : ℕ). IsOnly IsRaw (96 ∷ c.args.behind.now) (n + 2)) (sym c.in-Some.ensures.same)
    (raw_only c.args.behind.now c.before_backquote-len.result c.in-Some.len c.before_backquote-len.ensures.value (smaller c.before_backquote-len.result (length c.args.behind.now) c.before_backquote-len.ensures.within c.if-len-behind.false)
    (sym c.text_len.ensures.value ∙ c.in-Some.is))

pub returns-in-None-clause-none : goal.returns-in-None-clause-none
returns-in-None-clause-none c = raw_bad c.args.behind.now c.before_backquote-len.result c.before_backquote-len.ensures.value (sym c.text_len.ensures.value ∙ c.in-None.is)
