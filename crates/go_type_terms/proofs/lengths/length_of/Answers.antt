use Rattle.std.proofs.Common.{rules, ◌≡◌, ◌<◌, ◌^◌, ℕ, ℤ, pos, FitsSigned, MatchOption, sym, ◌∙◌, subst, to_z-of_z}
use Rattle.std.specs.Int.{w128}
use Rattle.go_type_terms.proofs.ArrayLengths.{int_length}
use Rattle.go_type_terms.proofs.lengths.length_of.Goals as goal

pub returns-in-Int : goal.returns-in-Int
returns-in-Int c =
    let fits : FitsSigned w128 c.in-Int.number = search rules in
    int_length c.args.bits c.in-Int.number c.args.value.now c.natural.result c.requires c.in-Int.is (sym c.representable.ensures ∙ c.if-not-representable.false)
    (subst (λ (x : ℤ). MatchOption c.natural.result ((n : ℕ) → n < 2 ^ 64 → x ≡ pos n → ⊥) (λ n. x ≡ pos n)) (to_z-of_z fits) c.natural.ensures)
