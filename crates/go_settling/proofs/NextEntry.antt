-- Entries that are had from below, and one more that is given under them, are had from below.
use Rattle.std.proofs.Common.{◌≡◌, ◌≢◌, ℕ, zero, suc, ◌+◌, ◌<◌, ◌≤◌, true, false, List, length, Some, None, refl, sym, ap, ◌∙◌, subst, ◌⊎◌, inl, inr, Option, arith}
use Rattle.std.specs.Prelude.{if◌then◌else◌, is_some, nat_eq, nat_lt, slice_get}
use Rattle.std.proofs.lemmas.Bool.Decides.{nat_tests}
use Rattle.std.proofs.lemmas.Option.{slice_get_within}
use Rattle.go_typings.specs.Assignments.{Assignment, At, Below, Within, before}
use Rattle.go_typings.proofs.Agree.{Grows}
use Rattle.go_typings.proofs.Cells.{before_has, either, if_false, if_true, none_some}

-- ---- a bound on the orders of what is declared

top : (ℕ → ℕ) → ℕ → ℕ
top f zero = zero
top f (suc n) = f n + top f n

is_last : (k n : ℕ) → k < suc n → (k ≡ n) ⊎ (k < n)
is_last k n h = grind (arith, h)

top_at : (f : ℕ → ℕ) (n k : ℕ) → k < n → f k ≤ top f n
unfolding top
top_at f zero k h = absurd (omega (arith, h))
top_at f (suc n) k h = elim (is_last k n h) [ inl e ↦ subst (λ (j : ℕ). f j ≤ f n + top f n) (sym e) (omega arith) | inr l ↦ (let r = top_at f n k l in omega (arith, r)) ]

same_number : (m n : ℕ) → nat_eq m n ≡ true → m ≡ n
same_number m n e = grind (arith, nat_tests, e)

other_number : (m n : ℕ) → nat_eq m n ≡ false → m ≢ n
other_number m n e q = absurd (grind (arith, nat_tests, e, q))

before_at : {Entry : Type 0} (order : ℕ → ℕ) (k : ℕ) (a : Assignment Entry) (n : ℕ) (x : Entry) → order n < k → a n ≡ Some x → before order k a n ≡ Some x
before_at order k a n x l e = if_true (nat_lt (order n) k) (a n) None (grind (arith, nat_tests, l)) ∙ e

none_of : {A : Type 0} (c : Option A) → is_some c ≡ false → c ≡ None
none_of None e = refl
none_of (Some x) e = let f : true ≡ false = e in absurd (cc)

module _ {Declaration Entry : Type 0} (gives : Assignment Entry → Declaration → Entry → Type 0) (more : Grows gives) (ds : List Declaration) (a b : Assignment Entry) (n : ℕ)
    (A : Below gives ds (λ m. is_some (a m)) a) (empty : a n ≡ None) (others : (m : ℕ) → m ≢ n → b m ≡ a m) where
  abbrev high : ℕ
  high = suc (top A.order (length ds))

  -- the new entry after all old ones
  abbrev later : ℕ → ℕ
  later m = if nat_eq m n then high else A.order m

  not_new : (m : ℕ) (x : Entry) → a m ≡ Some x → m ≢ n
  not_new m x e q = none_some (a m) x (ap a q ∙ empty) e

  old_order : (m : ℕ) → m ≢ n → later m ≡ A.order m
  old_order m h = elim (either (nat_eq m n)) [ inl e ↦ absurd (h (same_number m n e)) | inr e ↦ if_false (nat_eq m n) high (A.order m) e ]

  new_order : (m : ℕ) → nat_eq m n ≡ true → later m ≡ high
  new_order m e = if_true (nat_eq m n) high (A.order m) e

  low : (m : ℕ) (x : Entry) → a m ≡ Some x → A.order m < high
  low m x e = let k = A.below m (ap is_some e) in let h = top_at A.order (length ds) m (slice_get_within ds m k.0 k.1) in omega (arith, h)

  kept : (m : ℕ) (x : Entry) → a m ≡ Some x → b m ≡ Some x
  kept m x e = others m (not_new m x e) ∙ e

  -- what stands before an old entry still does
  old_before : (m : ℕ) → m ≢ n → Within (before A.order (A.order m) a) (before later (later m) b)
  old_before m h k x e =
      let p = before_has A.order (A.order m) a k x e in let l = p.0 in
      let f = old_order k (not_new k x p.1) in let g = old_order m h in
      before_at later (later m) b k x (omega (arith, f, g, l)) (kept k x p.1)

  -- all old entries stand before the new one
  all_before : (m : ℕ) → nat_eq m n ≡ true → Within a (before later (later m) b)
  all_before m h k x e =
      let f = old_order k (not_new k x e) in let g = new_order m h in let l = low k x e in
      before_at later (later m) b k x (omega (arith, f, g, l)) (kept k x e)

  was_had : (m : ℕ) → nat_eq m n ≡ false → is_some (b m) ≡ true → is_some (a m) ≡ true
  was_had m e h = sym (ap is_some (others m (other_number m n e))) ∙ h

  pub one_more : At ds n (λ d. (x : Entry) × (b n ≡ Some x) × gives a d x) → Below gives ds (λ m. is_some (b m)) b
  one_more t = record {
    only = λ m e. none_of (b m) e;
    order = later;
    below = λ m h. elim (either (nat_eq m n)) [
      | inl e ↦ (let q = same_number m n e in (t.0, ap (slice_get ds) q ∙ t.1, (t.2.0, ap b q ∙ t.2.1, more a (before later (later m) b) (all_before m e) t.0 t.2.0 t.2.2)))
      | inr e ↦ (let k = A.below m (was_had m e h) in
          (k.0, k.1, (k.2.0, kept m k.2.0 k.2.1, more (before A.order (A.order m) a) (before later (later m) b) (old_before m (other_number m n e)) k.0 k.2.0 k.2.2)))
    ];
  }
