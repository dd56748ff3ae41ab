-- Entries that are had from below of two sets of declarations are had of both together.
use Rattle.std.proofs.Common.{◌≡◌, ℕ, zero, suc, ◌+◌, ◌<◌, ◌≤◌, Bool, true, false, ◌||◌, List, length, Some, None, refl, sym, ap, ◌∙◌, subst, ◌⊎◌, inl, inr, arith}
use Rattle.std.specs.Prelude.{if◌then◌else◌, nat_lt}
use Rattle.std.specs.Option.{option_or}
use Rattle.std.proofs.lemmas.Bool.Decides.{nat_tests}
use Rattle.std.proofs.lemmas.Option.{slice_get_within}
use Rattle.go_typings.specs.Assignments.{Assignment, Below, Within, before, joined}
use Rattle.go_typings.specs.Declarations.{declarations}
use Rattle.go_typings.specs.PackageEnvironments.{Entries}
use Rattle.go_typings.specs.Sources.{PackageSource, Setting}
use Rattle.go_typings.specs.Typings.{given}
use Rattle.go_typings.proofs.Agree.{GivesOne, Grows, agree, held}
use Rattle.go_typings.proofs.Cells.{before_has, either, if_false, if_true, maybe, or_false, some_once}
use Rattle.go_typings.proofs.OneTyping.{grows, one}

pub or_cases : (b c : Bool) → (b || c) ≡ true → (b ≡ true) ⊎ ((b ≡ false) × (c ≡ true))
or_cases true c e = inl refl
or_cases false c e = inr (refl, e)

-- ---- a bound on the orders of what is declared

pub top : (ℕ → ℕ) → ℕ → ℕ
top f zero = zero
top f (suc n) = f n + top f n

pub is_last : (k n : ℕ) → k < suc n → (k ≡ n) ⊎ (k < n)
is_last k n h = grind (arith, h)

pub top_at : (f : ℕ → ℕ) (n k : ℕ) → k < n → f k ≤ top f n
unfolding top
top_at f zero k h = absurd (omega (arith, h))
top_at f (suc n) k h = elim (is_last k n h) [ inl e ↦ subst (λ (j : ℕ). f j ≤ f n + top f n) (sym e) (omega arith) | inr l ↦ (let r = top_at f n k l in omega (arith, r)) ]

module _ {Entry : Type 0} where
  before_at : (order : ℕ → ℕ) (k : ℕ) (a : Assignment Entry) (n : ℕ) (x : Entry) → order n < k → a n ≡ Some x → before order k a n ≡ Some x
  before_at order k a n x l e = if_true (nat_lt (order n) k) (a n) None (grind (arith, nat_tests, l)) ∙ e

  joined_left : (a b : Assignment Entry) → Within a (joined a b)
  joined_left a b n x e = ap (λ c. option_or c (b n)) e

  joined_none : (a b : Assignment Entry) (n : ℕ) → a n ≡ None → joined a b n ≡ b n
  joined_none a b n e = ap (λ c. option_or c (b n)) e

  joined_right : (a b : Assignment Entry) → ((n : ℕ) (x y : Entry) → a n ≡ Some x → b n ≡ Some y → x ≡ y) → Within b (joined a b)
  joined_right a b h n y e = elim (maybe (a n)) [ inl p ↦ joined_left a b n p.0 p.1 ∙ ap Some (h n p.0 y p.1 e) | inr q ↦ joined_none a b n q ∙ e ]

module _ {Declaration Entry : Type 0} (gives : Assignment Entry → Declaration → Entry → Type 0) (more : Grows gives) (once : GivesOne gives) (ds : List Declaration)
    (S T : ℕ → Bool) (a b : Assignment Entry) (A : Below gives ds S a) (B : Below gives ds T b) where
  abbrev both : Assignment Entry
  both = joined a b

  abbrev high : ℕ
  high = suc (top A.order (length ds))

  -- the first set before the rest of the second
  abbrev later : ℕ → ℕ
  later n = if S n then A.order n else high + B.order n

  meet : (n : ℕ) (x y : Entry) → a n ≡ Some x → b n ≡ Some y → x ≡ y
  meet n x y e f = some_once x y (sym e ∙ agree gives more once ds S a A T b B n (held gives more once ds S a A n x e) (held gives more once ds T b B n y f) ∙ f)

  low : (n : ℕ) → S n ≡ true → A.order n < high
  low n i = let k = A.below n i in let h = top_at A.order (length ds) n (slice_get_within ds n k.0 k.1) in omega (arith, h)

  old : (n : ℕ) → S n ≡ true → later n ≡ A.order n
  old n i = if_true (S n) (A.order n) (high + B.order n) i

  new : (n : ℕ) → S n ≡ false → later n ≡ high + B.order n
  new n i = if_false (S n) (A.order n) (high + B.order n) i

  keeps : (n : ℕ) → S n ≡ true → Within (before A.order (A.order n) a) (before later (later n) both)
  keeps n i m x e =
      let p = before_has A.order (A.order n) a m x e in let f = old m (held gives more once ds S a A m x p.1) in let g = old n i in let o = p.0 in
      before_at later (later n) both m x (omega (arith, f, g, o)) (joined_left a b m x p.1)

  adds : (n : ℕ) → S n ≡ false → Within (before B.order (B.order n) b) (before later (later n) both)
  adds n j m x e =
      let p = before_has B.order (B.order n) b m x e in let g = new n j in let o = p.0 in
      elim (either (S m)) [
        | inl i ↦ (let f = old m i in let l = low m i in before_at later (later n) both m x (omega (arith, f, g, l)) (joined_right a b meet m x p.1))
        | inr i ↦ (let f = new m i in before_at later (later n) both m x (omega (arith, f, g, o)) (joined_right a b meet m x p.1))
      ]

  pub join : Below gives ds (λ n. S n || T n) (joined a b)
  join = record {
    only = λ n e. let f = or_false (S n) (T n) e in joined_none a b n (A.only n f.0) ∙ B.only n f.1;
    order = later;
    below = λ n e. elim (or_cases (S n) (T n) e) [
      | inl i ↦ (let k = A.below n i in (k.0, k.1, (k.2.0, joined_left a b n k.2.0 k.2.1, more (before A.order (A.order n) a) (before later (later n) both) (keeps n i) k.0 k.2.0 k.2.2)))
      | inr i ↦ (let k = B.below n i.1 in (k.0, k.1, (k.2.0, joined_right a b meet n k.2.0 k.2.1, more (before B.order (B.order n) b) (before later (later n) both) (adds n i.0) k.0 k.2.0 k.2.2)))
    ];
  }

pub entries_join : (s : Setting) (u : PackageSource) (S T : ℕ → Bool) (a b : Entries) → Below (given s u) (declarations u) S a → Below (given s u) (declarations u) T b → Below (given s u) (declarations u) (λ n. S n || T n) (joined a b)
entries_join s u S T a b A B = join (given s u) (grows s u) (one s u) (declarations u) S T a b A B
