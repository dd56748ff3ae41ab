-- Lengths of arrays are representable in int.
use Rattle.std.proofs.Common.{◌≡◌, ◌⊎◌, ◌<◌, ◌-◌, ◌^◌, ◌&&◌, ℕ, ℤ, pos, neg_ℤ, inl, inr, Bool, true, false, Option, Some, None, sym, ap, ◌∙◌, subst, arith}
use Rattle.std.specs.Prelude.{int_le}
use mathlib.Core.Bool.{true≢false}
use Rattle.std.specs.Prelude.{MatchOption}
use Rattle.std.proofs.lemmas.Bool.Decides.{nat_tests}
use Rattle.go_model.specs.constants.Constants.{is_representable}
use Rattle.go_model.specs.declared.constants.value.Basic.TheVariants as basic
use Rattle.go_model.specs.declared.constants.value.Value.{Value}
use Rattle.go_model.specs.declared.constants.value.Value.TheVariants as value
use Rattle.go_usability.specs.Answers.{Gives}
use Rattle.go_type_terms.specs.Lengths.{IsLengthValue}

and_right : (a b : Bool) → (a && b) ≡ true → b ≡ true
and_right true b e = e
and_right false b e = absurd (true≢false (sym e))

below_32 : (n : ℕ) → is_representable (value.Int (pos n)) basic.Int 32 ≡ true → n < 2 ^ 64
unfolding is_representable
below_32 n h = let k = and_right (int_le (neg_ℤ (pos (2 ^ (32 - 1)))) (pos n)) (int_le (pos n) (pos (2 ^ (32 - 1) - 1))) h in grind (arith, nat_tests)

below_64 : (n : ℕ) → is_representable (value.Int (pos n)) basic.Int 64 ≡ true → n < 2 ^ 64
unfolding is_representable
below_64 n h = let k = and_right (int_le (neg_ℤ (pos (2 ^ (64 - 1)))) (pos n)) (int_le (pos n) (pos (2 ^ (64 - 1) - 1))) h in grind (arith, nat_tests)

-- a number that is representable in int fits into 64 bits
pub in_word : (bits n : ℕ) → (bits ≡ 32) ⊎ (bits ≡ 64) → is_representable (value.Int (pos n)) basic.Int bits ≡ true → n < 2 ^ 64
in_word bits n (inl e) h = below_32 n (subst (λ (b : ℕ). is_representable (value.Int (pos n)) basic.Int b ≡ true) e h)
in_word bits n (inr e) h = below_64 n (subst (λ (b : ℕ). is_representable (value.Int (pos n)) basic.Int b ≡ true) e h)

same_int : {x y : ℤ} → value.Int x ≡ value.Int y → x ≡ y
same_int e = cc

pub not_representable : (bits : ℕ) (v : Value) (t : Bool) → t ≡ is_representable v basic.Int bits → t ≡ false → (n : ℕ) → IsLengthValue bits v n → ⊥
not_representable bits v t e f n h = true≢false (sym h.1 ∙ ap (λ w. is_representable w basic.Int bits) (sym h.0) ∙ sym e ∙ f)

pub int_length : (bits : ℕ) (x : ℤ) (v : Value) (r : Option ℕ) → (bits ≡ 32) ⊎ (bits ≡ 64) → v ≡ value.Int x → is_representable v basic.Int bits ≡ true
    → MatchOption r ((n : ℕ) → n < 2 ^ 64 → x ≡ pos n → ⊥) (λ n. x ≡ pos n) → Gives (IsLengthValue bits v) r
int_length bits x v (Some n) word is h m =
    let same : v ≡ value.Int (pos n) = is ∙ ap value.Int m in
    (same, subst (λ (w : Value). is_representable w basic.Int bits ≡ true) same h)
int_length bits x v None word is h m = λ n l. m n (in_word bits n word l.1) (same_int (sym is ∙ l.0))
