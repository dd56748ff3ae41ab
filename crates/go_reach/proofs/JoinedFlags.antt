-- Flags of what is flagged in one of three, number by number.
use Rattle.std.proofs.Common.{◌≡◌, ◌<◌, ◌+◌, ℕ, Bool, true, false, ◌||◌, List, [], ◌∷◌, ◌++◌, arith, length, length-append, refl, sym, ap, ◌∙◌, ◌⊎◌, inl, inr}
use Rattle.go_graphs.specs.Flags.{is_flagged}
use Rattle.go_graphs.proofs.Pushed.{get_pushed}
use Rattle.go_reach.specs.AnyFlags.{AreAny}

pub any_none : (a b c : List Bool) → AreAny a b c 0 []
any_none a b c = record { size = refl; exact = λ n l. absurd (omega (arith, l)) }

pub any_next : (a b c : List Bool) (k : ℕ) (flags : List Bool) (x : Bool) → AreAny a b c k flags → x ≡ (is_flagged a k || (is_flagged b k || is_flagged c k)) → AreAny a b c (k + 1) (flags ++ x ∷ [])
any_next a b c k flags x are e = record {
  size = (let s = are.size in let l = length-append flags (x ∷ []) in omega (arith, s, l));
  exact = λ n l. elim (get_pushed flags x false n) [
    | inl p ↦ (let s = are.size in let m = p.0 in p.1 ∙ are.exact n (omega (arith, l, s, m)))
    | inr p ↦ p.1 ∙ e ∙ ap (λ (m : ℕ). is_flagged a m || (is_flagged b m || is_flagged c m)) (sym (p.0 ∙ are.size))
  ];
}

-- which of the three
pub which : (a b c : Bool) → (a || (b || c)) ≡ true → (a ≡ true) ⊎ ((b ≡ true) ⊎ (c ≡ true))
which true b c e = inl refl
which false true c e = inr (inl refl)
which false false c e = inr (inr e)

pub of_first : (a b c : Bool) → a ≡ true → (a || (b || c)) ≡ true
of_first a b c e = ap (λ z. z || (b || c)) e

pub of_second : (a b c : Bool) → b ≡ true → (a || (b || c)) ≡ true
of_second true b c e = refl
of_second false b c e = ap (λ z. z || c) e

pub of_third : (a b c : Bool) → c ≡ true → (a || (b || c)) ≡ true
of_third true b c e = refl
of_third false true c e = refl
of_third false false c e = e
