use Rattle.std.proofs.Common.{◌≡◌, ℕ, ◌-◌, ◌==◌, subst, arith, drop, suc, false, zero}
use Rattle.std.specs.List.{All}
use Rattle.go_tags.proofs.NameParts.{cut_here, no_cut}
use Rattle.go_tags.proofs.choice.cut_at_last.Goals as goal

pub returns-then-parts-at-eq95 : goal.returns-then-parts-at-eq95
returns-then-parts-at-eq95 c =
    let next : c.loop-at.at ≡ suc (c.loop-at.at - 1) = omega arith in
    cut_here c.args.parts.now (c.loop-at.at - 1) (omega arith) c.if-parts-at-eq95.true
    (subst (λ (n : ℕ). All (λ b. (b == 95) ≡ false) (drop n c.args.parts.now)) next c.loop-at.invariant.apart)

pub returns : goal.returns
returns c = no_cut c.args.parts.now (let none : c.loop-at.at ≡ zero = omega arith in subst (λ (n : ℕ). All (λ b. (b == 95) ≡ false) (drop n c.args.parts.now)) none c.loop-at.invariant.apart)
