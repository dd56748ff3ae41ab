-- A fixed count of digits.
use Rattle.std.proofs.Common.{◌≡◌, ℕ, zero, suc, ◌+◌, ◌*◌, ◌^◌, ◌<◌, ◌≤◌, Bool, true, false, ◌==◌, List, [], ◌∷◌, ◌++◌, length, get_or, take, drop, refl, sym, ap, ◌∙◌, subst, arith, nat_lt, length-append}
use Rattle.std.specs.Char.{digit_value}
use Rattle.std.proofs.Math.Nat.{pow-suc, mul-le-mul_right, mul-le-mul_left, suc-mul}
use Rattle.std.proofs.lemmas.Bool.Decides.{nat_tests}
use Rattle.std.proofs.lemmas.List.{take_at}
use Rattle.go_base.specs.Lists.{Passes}
use Rattle.go_syntax.specs.lexical.Numbers.{is_digit_of, value_from}
use Rattle.go_syntax.specs.lexical.Quotes.{AreCounted}

lt_from : (a b : ℕ) → nat_lt a b ≡ true → a < b
lt_from a b h = grind (arith, nat_tests)

line : (base d : ℕ) → base ≤ 16 → is_digit_of base d ≡ true → (d == 95) ≡ false
line base d h e = grind (arith, nat_tests)

value : (base d : ℕ) → is_digit_of base d ≡ true → digit_value d < base
value base d e = lt_from (digit_value d) base e

product : (base n p d : ℕ) → base ≤ 16 → n < p → d < base → n * base + d < p * 16
product base n p d b h k =
    let a : suc n * base ≤ p * base = mul-le-mul_right base h in
    let c : p * base ≤ p * 16 = mul-le-mul_left p b in
    omega (arith, suc-mul n base)

digit_no_line : (base d : ℕ) → base ≤ 16 → is_digit_of base d ≡ true → ((d == 95) ≡ false) × (digit_value d < base)
digit_no_line base d h e = (line base d h e, value base d e)

-- one more digit
pub value_more : (base n i : ℕ) (ds : List ℕ) → base ≤ 16 → i < length ds → is_digit_of base (get_or ds i 0) ≡ true → value_from base n (drop i ds) ≡ value_from base (n * base + digit_value (get_or ds i 0)) (drop (i + 1) ds)
value_more base n i [] b h d = absurd (omega arith)
value_more base n zero (x ∷ xs) b h d = rw (digit_no_line base x b d).0 refl
value_more base n (suc i) (x ∷ xs) b h d =
    let next : suc i + 1 ≡ suc (i + 1) = omega arith in
    value_more base n i xs b (omega arith) d ∙ ap (λ (m : ℕ). value_from base (n * base + digit_value (get_or xs i 0)) (drop m (x ∷ xs))) (sym next)

pub digit_below : (base d : ℕ) → is_digit_of base d ≡ true → digit_value d < base
digit_below base d e = value base d e

pub passes_more : (test : ℕ → Bool) (i : ℕ) (ds : List ℕ) → i < length ds → Passes test (take i ds) → test (get_or ds i 0) ≡ true → Passes test (take (i + 1) ds)
passes_more test i [] h p e = absurd (omega arith)
passes_more test zero (x ∷ xs) h p e = (e, tt)
passes_more test (suc i) (x ∷ xs) h p e =
    let next : suc i + 1 ≡ suc (i + 1) = omega arith in
    subst (λ (m : ℕ). Passes test (take m (x ∷ xs))) (sym next) (p.0, passes_more test i xs (omega arith) p.1 e)

-- the value stays small
pub small_more : (base n i d : ℕ) → base ≤ 16 → n < 16 ^ i → d < base → n * base + d < 16 ^ (i + 1)
small_more base n i d b h k =
    let next : i + 1 ≡ suc i = omega arith in
    subst (λ (m : ℕ). n * base + d < 16 ^ m) (sym next) (subst (λ (m : ℕ). n * base + d < m) (sym (pow-suc 16 i)) (product base n (16 ^ i) d b h k))

-- so many digits at the start
pub passes_at : (test : ℕ → Bool) (i : ℕ) (ds : List ℕ) → i < length ds → Passes test ds → test (get_or ds i 0) ≡ true
passes_at test i [] h p = absurd (omega arith)
passes_at test zero (x ∷ xs) h p = p.0
passes_at test (suc i) (x ∷ xs) h p = passes_at test i xs (omega arith) p.1

pub front_counted : (base count : ℕ) (bytes ds more : List ℕ) → AreCounted base count ds → bytes ≡ ds ++ more → (take count bytes ≡ ds) × (count ≤ length bytes)
front_counted base count bytes ds more c e =
    (ap (take count) e ∙ take_at ds more count c.count_is, omega (arith, ap length e, length-append ds more, c.count_is))

-- a byte that is no digit
pub wrong_digit : (base count : ℕ) (bytes ds more : List ℕ) (i : ℕ) → AreCounted base count ds → bytes ≡ ds ++ more → i < length (take count bytes) → is_digit_of base (get_or (take count bytes) i 0) ≡ false → ⊥
wrong_digit base count bytes ds more i a e h f =
    let prefix = (front_counted base count bytes ds more a e).0 in
    let below : i < length ds = omega (arith, ap length prefix) in
    let yes' : is_digit_of base (get_or (take count bytes) i 0) ≡ true = subst (λ (xs : List ℕ). is_digit_of base (get_or xs i 0) ≡ true) (sym prefix) (passes_at (is_digit_of base) i ds below a.digits) in
    absurd (cc)

few : (i : ℕ) → i ≤ 8 → 16 ^ i ≤ 4294967296
few zero h = omega arith
few (suc zero) h = omega arith
few (suc (suc zero)) h = omega arith
few (suc (suc (suc zero))) h = omega arith
few (suc (suc (suc (suc zero)))) h = omega arith
few (suc (suc (suc (suc (suc zero))))) h = omega arith
few (suc (suc (suc (suc (suc (suc zero)))))) h = omega arith
few (suc (suc (suc (suc (suc (suc (suc zero))))))) h = omega arith
few (suc (suc (suc (suc (suc (suc (suc (suc zero)))))))) h = omega arith
few (suc (suc (suc (suc (suc (suc (suc (suc (suc i))))))))) h = absurd (omega arith)

pub small_enough : (base n i d : ℕ) → base ≤ 16 → i < 8 → n < 16 ^ i → d < base → n * base + d < 4294967296
small_enough base n i d b short h k = let a = small_more base n i d b h k in omega (arith, few (i + 1) (omega arith))
