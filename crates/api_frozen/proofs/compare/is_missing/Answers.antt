use Rattle.std.proofs.Common.{◌∙◌, List, ℕ, Option, sym, subst}
use mathlib.Core.Bool.{true≢false}
use Rattle.api_frozen.specs.inner.SignedLines.{Drops}
use Rattle.api_frozen.proofs.Compared.{decides_plain, decides_narrow}
use Rattle.api_frozen.proofs.compare.is_missing.Goals as goal

pub returns-in-None : goal.returns-in-None
returns-in-None c =
    decides_plain c.args.held.now c.args.exceptions.now c.args.text.now (λ h. true≢false (sym (c.has.ensures.1 h) ∙ c.if-has.false)) (λ h. true≢false (sym (c.has-2.ensures.1 h) ∙ c.if-has-2.false))
    (subst (λ (p : List ℕ × Option (List ℕ)). Drops p.0 p.1) (λ i. (c.bytes.ensures i, c.in-None.is i)) c.in_ok-without_context.ensures)

pub returns-in-Some : goal.returns-in-Some
returns-in-Some c =
    decides_narrow c.args.held.now c.args.exceptions.now c.args.text.now c.in-Some.plain c.has-in-Some.result (λ h. true≢false (sym (c.has.ensures.1 h) ∙ c.if-has.false)) (λ h. true≢false (sym (c.has-2.ensures.1 h) ∙ c.if-has-2.false))
    (subst (λ (p : List ℕ × Option (List ℕ)). Drops p.0 p.1) (λ i. (c.bytes.ensures i, c.in-Some.is i)) c.in_ok-without_context.ensures) c.has-in-Some.ensures
