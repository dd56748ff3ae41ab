-- The number of an issue at the end of a line.
use Rattle.std.proofs.Common.{◌≡◌, ◌≢◌, ℕ, zero, suc, ◌+◌, ◌-◌, ◌<◌, ◌≤◌, true, List, [], ◌∷◌, ◌++◌, length, take, drop, get_or, refl, sym, ap, ◌∙◌, subst, inl, inr, arith, drop-cons, length-append}
use mathlib.Core.Bool.{true≢false}
use Rattle.std.specs.Prelude.{◌==◌}
use Rattle.std.specs.Char.{is_ascii_digit}
use Rattle.std.proofs.lemmas.List.{take-append-drop}
use Rattle.go_base.specs.Lists.{Each}
use Rattle.api_frozen.specs.FrozenFiles.{EndsInIssue, IsCut}
use Rattle.api_frozen.specs.inner.Readings.{IsDigitsStart}

abbrev AreDigits : List ℕ → Type 0
AreDigits bytes = Each (λ b. is_ascii_digit b ≡ true) bytes

-- what follows a front
past_front : (front rest : List ℕ) (k n : ℕ) → n ≡ length front + k → get_or (front ++ rest) n 0 ≡ get_or rest k 0
past_front [] rest k n e = let q : n ≡ k = omega arith in ap (λ m. get_or rest m 0) q
past_front (x ∷ front) rest k zero e = absurd (omega arith)
past_front (x ∷ front) rest k (suc n) e = past_front front rest k n (omega arith)

drop_front : (front rest : List ℕ) (k n : ℕ) → n ≡ length front + k → drop n (front ++ rest) ≡ drop k rest
drop_front [] rest k n e = let q : n ≡ k = omega arith in ap (λ m. drop m rest) q
drop_front (x ∷ front) rest k zero e = absurd (omega arith)
drop_front (x ∷ front) rest k (suc n) e = drop_front front rest k n (omega arith)

digit_at : (bytes : List ℕ) (i k : ℕ) → AreDigits (drop i bytes) → i ≤ k → k < length bytes → is_ascii_digit (get_or bytes k 0) ≡ true
digit_at [] i k d within short = absurd (omega arith)
digit_at (b ∷ bytes) zero zero d within short = d.0
digit_at (b ∷ bytes) zero (suc k) d within short = digit_at bytes zero k d.1 (omega arith) (omega arith)
digit_at (b ∷ bytes) (suc i) zero d within short = absurd (omega arith)
digit_at (b ∷ bytes) (suc i) (suc k) d within short = digit_at bytes i k d (omega arith) (omega arith)

some_length : (bytes : List ℕ) → bytes ≢ [] → 0 < length bytes
some_length [] some = absurd (some refl)
some_length (b ∷ bytes) some = omega arith

-- where the digits of an issue begin, and what stands before them
pub record IsIssue (line : List ℕ) (at : ℕ) : Type 0 where
  pub more : at < length line
  pub room : 2 ≤ at
  pub hash : get_or line (at - 1) 0 ≡ 35
  pub space : get_or line (at - 2) 0 ≡ 32

module _ (line : List ℕ) (at : ℕ) (s : IsDigitsStart line at) (front : List ℕ) (e : EndsInIssue line front) where
  size : length line ≡ length front + (2 + length e.0)
  size = ap length e.3 ∙ length-append front (32 ∷ 35 ∷ e.0) ∙ (let q : length front + suc (suc (length e.0)) ≡ length front + (2 + length e.0) = omega arith in q)

  hash_at : get_or line (length front + 1) 0 ≡ 35
  hash_at = ap (λ (w : List ℕ). get_or w (length front + 1) 0) e.3 ∙ past_front front (32 ∷ 35 ∷ e.0) 1 (length front + 1) refl

  space_at : get_or line (length front) 0 ≡ 32
  space_at = ap (λ (w : List ℕ). get_or w (length front) 0) e.3 ∙ past_front front (32 ∷ 35 ∷ e.0) 0 (length front) (omega arith)

  digits_behind : AreDigits (drop (length front + 2) line)
  digits_behind = subst AreDigits (sym (ap (drop (length front + 2)) e.3 ∙ drop_front front (32 ∷ 35 ∷ e.0) 2 (length front + 2) refl)) e.2

  some : 0 < length e.0
  some = some_length e.0 e.1

  not_before : at ≤ length front + 1 → ⊥
  not_before h = true≢false (sym (digit_at line at (length front + 1) s.digits h (omega (arith, size))) ∙ ap is_ascii_digit hash_at)

  not_after : length front + 3 ≤ at → ⊥
  not_after h = true≢false (sym (digit_at line (length front + 2) (at - 1) digits_behind (omega arith) (omega (arith, s.within))) ∙ s.before (omega arith))

  begins : at ≡ length front + 2
  begins = omega (arith, not_before, not_after)

  pub issue_at : IsIssue line at
  issue_at =
      let one : at - 1 ≡ length front + 1 = omega (arith, begins) in
      let two : at - 2 ≡ length front = omega (arith, begins) in
      record {
        more = omega (arith, begins, size, some);
        room = omega (arith, begins);
        hash = ap (λ n. get_or line n 0) one ∙ hash_at;
        space = ap (λ n. get_or line n 0) two ∙ space_at;
      }

-- a line that doesn't end so stays
pub not_cut : (line : List ℕ) (at : ℕ) → IsDigitsStart line at → (IsIssue line at → ⊥) → IsCut line line
not_cut line at s none = inr ((λ front e. none (issue_at line at s front e)), refl)

drop_some : (line : List ℕ) (at : ℕ) → at < length line → drop at line ≢ []
drop_some [] at h e = absurd (omega arith)
drop_some (b ∷ line) zero h e = cc
drop_some (b ∷ line) (suc at) h e = drop_some line at (omega arith) e

pub is_cut : (line : List ℕ) (at : ℕ) → IsDigitsStart line at → IsIssue line at → IsCut line (take (at - 2) line)
is_cut line at s i =
    let one : suc (at - 2) ≡ at - 1 = omega (arith, i.room) in
    let two : suc (at - 1) ≡ at = omega (arith, i.room) in
    let first : drop (at - 2) line ≡ get_or line (at - 2) 0 ∷ drop (suc (at - 2)) line = drop-cons line (at - 2) 0 (omega (arith, i.more)) in
    let next : drop (at - 1) line ≡ get_or line (at - 1) 0 ∷ drop (suc (at - 1)) line = drop-cons line (at - 1) 0 (omega (arith, i.more)) in
    let behind : drop (at - 2) line ≡ 32 ∷ 35 ∷ drop at line =
    first ∙ (λ j. i.space j ∷ drop (one j) line) ∙ ap (λ (w : List ℕ). 32 ∷ w) (next ∙ (λ j. i.hash j ∷ drop (two j) line)) in
    inl (drop at line, drop_some line at i.more, s.digits, sym (take-append-drop (at - 2) line) ∙ ap (λ (w : List ℕ). take (at - 2) line ++ w) behind)

-- one digit more before the digits
pub digits_more : (line : List ℕ) (at : ℕ) → 0 < at → at ≤ length line → is_ascii_digit (get_or line (at - 1) 0) ≡ true → AreDigits (drop at line) → AreDigits (drop (at - 1) line)
digits_more line at some within d rest =
    let two : suc (at - 1) ≡ at = omega arith in
    let next : drop (at - 1) line ≡ get_or line (at - 1) 0 ∷ drop (suc (at - 1)) line = drop-cons line (at - 1) 0 (omega arith) in
    subst AreDigits (sym (next ∙ (λ j. get_or line (at - 1) 0 ∷ drop (two j) line))) (d, rest)

-- ---- a line is cut once

no_space : (front d rest : List ℕ) → AreDigits d → d ≡ front ++ 32 ∷ rest → ⊥
no_space front d rest p e = within front rest (subst AreDigits e p)
  where
    within : (front rest : List ℕ) → AreDigits (front ++ 32 ∷ rest) → ⊥
    within [] rest q = true≢false (sym q.0)
    within (x ∷ front) rest q = within front rest q.1

not_digits : (b d e : List ℕ) → AreDigits d → 35 ∷ d ≡ b ++ (32 ∷ 35 ∷ e) → ⊥
not_digits [] d e p h = true≢false (ap (λ (w : List ℕ). get_or w 0 0 == 35) h)
not_digits (x ∷ b) d e p h = no_space b d (35 ∷ e) p (ap (drop 1) h)

issue_once : (a b d e : List ℕ) → AreDigits d → AreDigits e → a ++ (32 ∷ 35 ∷ d) ≡ b ++ (32 ∷ 35 ∷ e) → a ≡ b
issue_once [] [] d e p q h = refl
issue_once [] (y ∷ b) d e p q h = absurd (not_digits b d e p (ap (drop 1) h))
issue_once (x ∷ a) [] d e p q h = absurd (not_digits a e d q (ap (drop 1) (sym h)))
issue_once (x ∷ a) (y ∷ b) d e p q h =
    let first : x ≡ y = ap (λ (w : List ℕ). get_or w 0 0) h in
    let rest = issue_once a b d e p q (ap (drop 1) h) in
    (λ i. first i ∷ rest i)

pub cut_once : (line a b : List ℕ) → IsCut line a → IsCut line b → a ≡ b
cut_once line a b (inl x) (inl y) = issue_once a b x.0 y.0 x.2 y.2 (sym x.3 ∙ y.3)
cut_once line a b (inl x) (inr y) = absurd (y.0 a x)
cut_once line a b (inr x) (inl y) = absurd (x.0 b y)
cut_once line a b (inr x) (inr y) = x.1 ∙ sym y.1
