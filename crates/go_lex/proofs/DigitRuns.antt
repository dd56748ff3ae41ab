-- Digits at the start of some bytes.
use Rattle.std.proofs.Common.{◌≡◌, ℕ, zero, suc, ◌+◌, ◌<◌, ◌≤◌, Bool, true, false, ◌||◌, ◌&&◌, ◌==◌, List, [], ◌∷◌, ◌++◌, length, take, drop, refl, sym, ap, ◌∙◌, subst, arith}
use Rattle.std.proofs.lemmas.Bool.Decides.{nat_tests}
use Rattle.go_syntax.specs.lexical.Numbers.{is_digit_of, AreDigits, one_digit, digit_more, digit_apart, AreBehind, directly, apart}
use Rattle.go_lex.specs.inner.DigitLengths.{begins_digit, goes_on, more_len, digits_len}

or_right : (a b : Bool) → b ≡ true → (a || b) ≡ true
or_right true b h = refl
or_right false b h = h

no_line : (a : Bool) → (a && false) ≡ false
no_line true = refl
no_line false = refl

and_parts : (a b : Bool) → (a && b) ≡ true → (a ≡ true) × (b ≡ true)
and_parts true b h = (refl, h)
and_parts false b h = absurd (cc)

pub digit_goes : (base d : ℕ) (bs : List ℕ) → is_digit_of base d ≡ true → goes_on base (d ∷ bs) ≡ true
digit_goes base d bs h = rw h refl

pub line_goes : (base : ℕ) (bs : List ℕ) → begins_digit base bs ≡ true → goes_on base (95 ∷ bs) ≡ true
line_goes base bs h = or_right (is_digit_of base 95) (begins_digit base bs) h

pub more_step : (base b : ℕ) (bs : List ℕ) → goes_on base (b ∷ bs) ≡ true → more_len base (b ∷ bs) ≡ suc (more_len base bs)
unfolding more_len
more_step base b bs h = rw h refl

pub more_stop : (base : ℕ) (bytes : List ℕ) → goes_on base bytes ≡ false → more_len base bytes ≡ 0
unfolding more_len
more_stop base [] h = refl
more_stop base (b ∷ bs) h = rw h refl

pub digits_first : (base : ℕ) (ds more : List ℕ) → AreDigits base ds → begins_digit base (ds ++ more) ≡ true
digits_first base ds more (one_digit h) = h
digits_first base ds more (digit_more h r) = h
digits_first base ds more (digit_apart h r) = h

-- digits are part of those at the start of the bytes that they begin
pub digits_bound : (base : ℕ) (ds more : List ℕ) → AreDigits base ds → length ds ≤ more_len base (ds ++ more)
digits_bound base ds more (one_digit {d = d} h) = omega (arith, more_step base d more (digit_goes base d more h))
digits_bound base ds more (digit_more {d = d} {ds = es} h r) =
    omega (arith, more_step base d (es ++ more) (digit_goes base d (es ++ more) h), digits_bound base es more r)
digits_bound base ds more (digit_apart {d = d} {ds = es} h r) =
    omega (
      arith,
      more_step base d (95 ∷ (es ++ more)) (digit_goes base d (95 ∷ (es ++ more)) h),
      more_step base 95 (es ++ more) (line_goes base (es ++ more) (digits_first base es more r)),
      digits_bound base es more r,
    )

-- digits behind which nothing goes on are those at the start of the bytes
pub digits_exact : (base : ℕ) (ds more : List ℕ) → AreDigits base ds → goes_on base more ≡ false → more_len base (ds ++ more) ≡ length ds
digits_exact base ds more (one_digit {d = d} h) stop = omega (arith, more_step base d more (digit_goes base d more h), more_stop base more stop)
digits_exact base ds more (digit_more {d = d} {ds = es} h r) stop =
    omega (arith, more_step base d (es ++ more) (digit_goes base d (es ++ more) h), digits_exact base es more r stop)
digits_exact base ds more (digit_apart {d = d} {ds = es} h r) stop =
    omega (
      arith,
      more_step base d (95 ∷ (es ++ more)) (digit_goes base d (95 ∷ (es ++ more)) h),
      more_step base 95 (es ++ more) (line_goes base (es ++ more) (digits_first base es more r)),
      digits_exact base es more r stop,
    )

pub digits_are_more : (base : ℕ) (bytes : List ℕ) → begins_digit base bytes ≡ true → digits_len base bytes ≡ more_len base bytes
digits_are_more base bytes h = rw h refl

pub no_digits : (base : ℕ) (bytes : List ℕ) → begins_digit base bytes ≡ false → digits_len base bytes ≡ 0
no_digits base bytes h = rw h refl

pub stops_no_digit : (base : ℕ) (bytes : List ℕ) → goes_on base bytes ≡ false → begins_digit base bytes ≡ false
stops_no_digit base [] h = refl
stops_no_digit base (b ∷ bs) h =
    elim (is_digit_of base b) as (λ t. (t || (b == 95 && begins_digit base bs)) ≡ false → t ≡ false) [ true ↦ (λ e. e) | false ↦ (λ e. refl) ] h

-- digits behind a prefix
pub behind_bound : (base : ℕ) (ds more : List ℕ) → AreBehind base ds → length ds ≤ more_len base (ds ++ more)
behind_bound base ds more (directly r) = digits_bound base ds more r
behind_bound base ds more (apart {ds = es} r) = omega (arith, more_step base 95 (es ++ more) (line_goes base (es ++ more) (digits_first base es more r)), digits_bound base es more r)

pub behind_exact : (base : ℕ) (ds more : List ℕ) → AreBehind base ds → goes_on base more ≡ false → more_len base (ds ++ more) ≡ length ds
behind_exact base ds more (directly r) stop = digits_exact base ds more r stop
behind_exact base ds more (apart {ds = es} r) stop =
    omega (arith, more_step base 95 (es ++ more) (line_goes base (es ++ more) (digits_first base es more r)), digits_exact base es more r stop)

pub digits_some : (base : ℕ) (ds : List ℕ) → AreDigits base ds → 0 < length ds
digits_some base ds (one_digit h) = omega arith
digits_some base ds (digit_more h r) = omega arith
digits_some base ds (digit_apart h r) = omega arith

pub behind_some : (base : ℕ) (ds : List ℕ) → AreBehind base ds → 0 < length ds
behind_some base ds (directly r) = digits_some base ds r
behind_some base ds (apart r) = omega arith

pub is_line : (b : ℕ) → (b == 95) ≡ true → b ≡ 95
is_line b h = grind (arith, nat_tests)

pub more_within : (base : ℕ) (bytes : List ℕ) → more_len base bytes ≤ length bytes
more_within base [] = omega (arith, more_stop base [] refl)
more_within base (b ∷ bs) =
    elim (goes_on base (b ∷ bs)) as (λ t. goes_on base (b ∷ bs) ≡ t → more_len base (b ∷ bs) ≤ suc (length bs)) [
      | true ↦ (λ e. omega (arith, more_step base b bs e, more_within base bs))
      | false ↦ (λ e. omega (arith, more_stop base (b ∷ bs) e))
    ]
    refl

pub digits_within : (base : ℕ) (bytes : List ℕ) → digits_len base bytes ≤ length bytes
digits_within base bytes =
    elim (begins_digit base bytes) as (λ t. begins_digit base bytes ≡ t → digits_len base bytes ≤ length bytes) [
      | true ↦ (λ e. omega (arith, digits_are_more base bytes e, more_within base bytes))
      | false ↦ (λ e. omega (arith, no_digits base bytes e))
    ]
    refl

-- the digits of a text are what `more_len` says
abbrev Taken : ℕ → ℕ → List ℕ → Type 0
Taken base d bs = is_digit_of base d ≡ true → AreDigits base (d ∷ take (more_len base bs) bs)

taken_stop : (base d : ℕ) (bs : List ℕ) → goes_on base bs ≡ false → Taken base d bs
taken_stop base d bs stop h = subst (λ (n : ℕ). AreDigits base (d ∷ take n bs)) (sym (more_stop base bs stop)) (one_digit h)

taken_digit : (base d b : ℕ) (bs : List ℕ) → is_digit_of base b ≡ true → Taken base b bs → Taken base d (b ∷ bs)
taken_digit base d b bs digit more h = subst (λ (n : ℕ). AreDigits base (d ∷ take n (b ∷ bs))) (sym (more_step base b bs (digit_goes base b bs digit))) (digit_more h (more digit))

taken_line : (base d e : ℕ) (es : List ℕ) → is_digit_of base e ≡ true → Taken base e es → Taken base d (95 ∷ (e ∷ es))
taken_line base d e es digit more h =
    let a = more_step base 95 (e ∷ es) (line_goes base (e ∷ es) digit) in
    let b = more_step base e es (digit_goes base e es digit) in
    subst (λ (n : ℕ). AreDigits base (d ∷ take n (95 ∷ (e ∷ es)))) (sym (a ∙ ap suc b)) (digit_apart h (more digit))

taken_other : (base d b : ℕ) (bs : List ℕ) → is_digit_of base b ≡ false → ((e : ℕ) (es : List ℕ) → bs ≡ e ∷ es → Taken base e es) → Taken base d (b ∷ bs)
taken_other base d b [] other more = taken_stop base d (b ∷ []) (rw other (no_line (b == 95)))
taken_other base d b (e ∷ es) other more =
    elim (b == 95 && is_digit_of base e) as (λ t. (b == 95 && is_digit_of base e) ≡ t → Taken base d (b ∷ (e ∷ es))) [
      | true ↦ (λ h. let both = and_parts (b == 95) (is_digit_of base e) h in subst (λ (c : ℕ). Taken base d (c ∷ (e ∷ es))) (sym (is_line b both.0)) (taken_line base d e es both.1 (more e es refl)))
      | false ↦ (λ h. taken_stop base d (b ∷ (e ∷ es)) (rw other h))
    ]
    refl

pub taken : (base d : ℕ) (bs : List ℕ) → Taken base d bs
taken base d [] = taken_stop base d [] refl
taken base d (b ∷ []) =
    elim (is_digit_of base b) as (λ t. is_digit_of base b ≡ t → Taken base d (b ∷ [])) [
      | true ↦ (λ h. taken_digit base d b [] h (taken base b []))
      | false ↦ (λ h. taken_other base d b [] h (λ e es no. absurd (cc)))
    ]
    refl
taken base d (b ∷ (e ∷ es)) =
    let here : Taken base b (e ∷ es) = taken base b (e ∷ es) in
    let later : Taken base e es = taken base e es in
    elim (is_digit_of base b) as (λ t. is_digit_of base b ≡ t → Taken base d (b ∷ (e ∷ es))) [
      | true ↦ (λ h. taken_digit base d b (e ∷ es) h here)
      | false ↦ (λ h. taken_other base d b (e ∷ es) h (λ x xs same. let first : e ≡ x = cc in let rest : es ≡ xs = cc in subst (λ (p : ℕ × List ℕ). Taken base p.0 p.1) (λ i. (first i, rest i)) later))
    ]
    refl

-- the digits at the start
pub digits_stand : (base : ℕ) (bytes : List ℕ) → begins_digit base bytes ≡ true → AreDigits base (take (more_len base bytes) bytes)
digits_stand base [] h = absurd (cc)
digits_stand base (b ∷ bs) h = subst (λ (n : ℕ). AreDigits base (take n (b ∷ bs))) (sym (more_step base b bs (digit_goes base b bs h))) (taken base b bs h)

-- the digits behind a prefix
pub behind_stand : (base : ℕ) (bytes : List ℕ) → goes_on base bytes ≡ true → AreBehind base (take (more_len base bytes) bytes)
behind_stand base [] h = absurd (cc)
behind_stand base (b ∷ bs) h =
    elim (is_digit_of base b) as (λ t. is_digit_of base b ≡ t → AreBehind base (take (more_len base (b ∷ bs)) (b ∷ bs))) [
      | true ↦ (λ e. directly (digits_stand base (b ∷ bs) e))
      | false ↦ (λ e.
          let both = and_parts (b == 95) (begins_digit base bs) (rw e at h) in
          subst (λ (n : ℕ). AreBehind base (take n (b ∷ bs))) (sym (more_step base b bs h))
          (subst (λ (c : ℕ). AreBehind base (c ∷ take (more_len base bs) bs)) (sym (is_line b both.0)) (apart (digits_stand base bs both.1))))
    ]
    refl

-- one more index at which digits go on
pub more_at : (base at : ℕ) (bytes : List ℕ) → goes_on base (drop at bytes) ≡ true → (at < length bytes) × (more_len base (drop at bytes) ≡ suc (more_len base (drop (at + 1) bytes)))
more_at base zero [] h = absurd (cc)
more_at base zero (b ∷ bs) h = (omega arith, more_step base b bs h)
more_at base (suc at) [] h = absurd (cc)
more_at base (suc at) (b ∷ bs) h =
    let later = more_at base at bs h in
    let next : suc at + 1 ≡ suc (at + 1) = omega arith in
    (omega (arith, later.0), later.1 ∙ ap (λ (n : ℕ). suc (more_len base (drop n (b ∷ bs)))) (sym next))
