-- What becomes of packages over those of lower levels is what becomes of them in turn.
use Rattle.std.proofs.Common.{◌≡◌, ◌<◌, ℕ, zero, suc, false, List, [], ◌∷◌, Some, None, length, slice_get, refl, sym, ap, ◌∙◌, subst, if◌then◌else◌, arith}
use Rattle.std.specs.Prelude.{nat_lt}
use lib.Dec.{leb-suc-suc, leb-suc-zero, leb-zero}
use Rattle.go_exposed.specs.OfferedWorlds.{Become, become_more, become_none, Becomes, IsRefusedAt, refused_here, refused_later}
use Rattle.go_exposed.specs.SkippedDeclarations.{Skipped}
use Rattle.go_exposed.specs.SkippedWorlds.{IsSkippedAs, Skip, skip_more, skip_none}
use Rattle.go_model.specs.worlds.Worlds.{Packages}
use Rattle.go_typings.proofs.Cells.{if_false, if_true, none_some, some_once}
use Rattle.go_typings.specs.Assignments.{At, before}
use Rattle.go_typings.specs.PackageWorlds.{Outcome, refused, is_refused, over, with_outcome}
use Rattle.go_typings.specs.Refusals.{Refusal}
use Rattle.go_typings.specs.Sources.{PackageSource}
use Rattle.go_level_laws.specs.ByLevels.{Outcomes, with_known, world_from}
use Rattle.go_level_laws.proofs.KnownWorlds.{behind, same_world}

-- in canonical order each package is on the level of its number
abbrev pub number : ℕ → ℕ
number n = n

-- ---- the worlds before a number

none_before : (a : Outcomes) (m : ℕ) → before number 0 a m ≡ None
none_before a m = if_false (nat_lt m 0) (a m) None (leb-suc-zero m)

first_before : (k : ℕ) (a : Outcomes) → before number (suc k) a 0 ≡ a 0
first_before k a = if_true (nat_lt 0 (suc k)) (a 0) None (leb-suc-suc 0 k ∙ leb-zero k)

more_before : (k : ℕ) (a : Outcomes) (m : ℕ) → before number (suc k) a (suc m) ≡ before number k (behind a) m
more_before k a m = ap (λ b. if b then a (suc m) else None) (leb-suc-suc (suc m) k)

world_none : (w : Packages) (us : List PackageSource) (a : Outcomes) → ((n : ℕ) → a n ≡ None) → world_from w us a ≡ w
world_none w [] a h = refl
world_none w (u ∷ us) a h = ap (λ c. world_from (with_known w u c) us (behind a)) (h 0) ∙ world_none w us (behind a) (λ n. h (suc n))

nothing_before : (w : Packages) (us : List PackageSource) (a : Outcomes) → world_from w us (before number 0 a) ≡ w
nothing_before w us a = world_none w us (before number 0 a) (none_before a)

before_more : (w : Packages) (u : PackageSource) (us : List PackageSource) (a : Outcomes) (k : ℕ) → world_from w (u ∷ us) (before number (suc k) a) ≡ world_from (with_known w u (a 0)) us (before number k (behind a))
before_more w u us a k =
    ap (λ c. world_from (with_known w u c) us (behind (before number (suc k) a))) (first_before k a)
    ∙ same_world (with_known w u (a 0)) us (behind (before number (suc k) a)) (before number k (behind a)) (more_before k a)

no_length : (n : ℕ) {A : Type 0} → suc n ≡ 0 → A
no_length n e = absurd (omega (arith, e))

module _ (bits : ℕ) where
  -- what is known became of each of the packages over the first ones and those of lower numbers
  abbrev pub InTurn : Packages → List PackageSource → Outcomes → Type 0
  InTurn w us a = (n : ℕ) (x : Outcome) → a n ≡ Some x → At us n (λ u. Becomes (over bits (world_from w us (before number n a))) u x)

  module _ (w : Packages) (u : PackageSource) (us : List PackageSource) (a : Outcomes) (x : Outcome) (h : InTurn w (u ∷ us) a) (e : a 0 ≡ Some x) where
    turn_first : Becomes (over bits w) u x
    turn_first = let b = h 0 x e in subst (λ z. Becomes (over bits z) u x) (nothing_before w (u ∷ us) a) (subst (λ z. Becomes (over bits (world_from w (u ∷ us) (before number 0 a))) z x) (some_once b.0 u (sym b.1)) b.2)

    known_first : (n : ℕ) → world_from w (u ∷ us) (before number (suc n) a) ≡ world_from (with_outcome w u x) us (before number n (behind a))
    known_first n = before_more w u us a n ∙ ap (λ c. world_from (with_known w u c) us (before number n (behind a))) e

    turn_rest : InTurn (with_outcome w u x) us (behind a)
    turn_rest n y f = let b = h (suc n) y f in (b.0, b.1, subst (λ z. Becomes (over bits z) b.0 y) (known_first n) b.2)

  -- ---- all of them

  pub become_in_turn : (w : Packages) (us : List PackageSource) (ys : List Outcome) → length ys ≡ length us → InTurn w us (slice_get ys) → Become bits w us ys (world_from w us (slice_get ys))
  become_in_turn w [] [] l h = become_none
  become_in_turn w [] (y ∷ ys) l h = no_length (length ys) l
  become_in_turn w (u ∷ us) [] l h = no_length (length us) (sym l)
  become_in_turn w (u ∷ us) (y ∷ ys) l h = become_more (turn_first w u us (slice_get (y ∷ ys)) y h refl) (become_in_turn (with_outcome w u y) us ys (omega (arith, l)) (turn_rest w u us (slice_get (y ∷ ys)) y h refl))

  pub turn_of : {w v : Packages} {us : List PackageSource} {ys : List Outcome} → Become bits w us ys v → InTurn w us (slice_get ys)
  turn_of become_none n x e = none_some (slice_get [] n) x refl e
  turn_of (become_more {w = w} {u = u} {us = us} {x = y} {xs = ys} b r) zero x e = (u, refl, subst (λ z. Becomes (over bits z) u x) (sym (nothing_before w (u ∷ us) (slice_get (y ∷ ys)))) (subst (Becomes (over bits w) u) (some_once y x e) b))
  turn_of (become_more {w = w} {u = u} {us = us} {x = y} {xs = ys} b r) (suc n) x e = let t = turn_of r n x e in (t.0, t.1, subst (λ z. Becomes (over bits z) t.0 x) (sym (before_more w u us (slice_get (y ∷ ys)) n)) t.2)

  -- ---- the first that is refused

  pub refused_in_turn : (w : Packages) (us : List PackageSource) (a : Outcomes) (n : ℕ) (r : Refusal) → InTurn w us a → a n ≡ Some (refused r) → ((m : ℕ) → m < n → (x : Outcome) × (a m ≡ Some x) × (is_refused x ≡ false)) → IsRefusedAt bits w us n r
  refused_in_turn w [] a n r h e k = let b = h n (refused r) e in none_some (slice_get [] n) b.0 refl b.1
  refused_in_turn w (u ∷ us) a zero r h e k = refused_here (turn_first w u us a (refused r) h e)
  refused_in_turn w (u ∷ us) a (suc n) r h e k =
      let f = k 0 (omega arith) in
      refused_later f.0 (turn_first w u us a f.0 h f.1) f.2 (refused_in_turn (with_outcome w u f.0) us (behind a) n r (turn_rest w u us a f.0 h f.1) e (λ m l. k (suc m) (omega (arith, l))))

  -- what became of those up to the refused one
  pub record UpTo (w : Packages) (us : List PackageSource) (n : ℕ) (r : Refusal) : Type 0 where
    pub outcomes : List Outcome
    pub turn : InTurn w us (slice_get outcomes)
    pub last : slice_get outcomes n ≡ Some (refused r)
    pub before : (m : ℕ) (x : Outcome) → m < n → slice_get outcomes m ≡ Some x → is_refused x ≡ false

  turn_more : (w : Packages) (u : PackageSource) (us : List PackageSource) (x : Outcome) (ys : List Outcome) → Becomes (over bits w) u x → InTurn (with_outcome w u x) us (slice_get ys) → InTurn w (u ∷ us) (slice_get (x ∷ ys))
  turn_more w u us x ys b h zero y e = (u, refl, subst (λ z. Becomes (over bits z) u y) (sym (nothing_before w (u ∷ us) (slice_get (x ∷ ys)))) (subst (Becomes (over bits w) u) (some_once x y e) b))
  turn_more w u us x ys b h (suc n) y e = let t = h n y e in (t.0, t.1, subst (λ z. Becomes (over bits z) t.0 y) (sym (before_more w u us (slice_get (x ∷ ys)) n)) t.2)

  pub up_to : {w : Packages} {us : List PackageSource} {n : ℕ} {r : Refusal} → IsRefusedAt bits w us n r → UpTo w us n r
  up_to (refused_here {w = w} {u = u} {us = us} {r = r} b) = record {
    outcomes = refused r ∷ [];
    turn = turn_more w u us (refused r) [] b (λ n x e. none_some (slice_get [] n) x refl e);
    last = refl;
    before = λ m x l e. absurd (omega (arith, l));
  }
  up_to (refused_later {w = w} {u = u} {us = us} {n = n} {r = r} x b h k) = let t = up_to k in record {
    outcomes = x ∷ t.outcomes;
    turn = turn_more w u us x t.outcomes b t.turn;
    last = t.last;
    before = λ m y l e. by x t.outcomes n h m l y e t.before;
  }
    where
      by : (x : Outcome) (ys : List Outcome) (n : ℕ) → is_refused x ≡ false → (m : ℕ) → m < suc n → (y : Outcome) → slice_get (x ∷ ys) m ≡ Some y → ((m : ℕ) (y : Outcome) → m < n → slice_get ys m ≡ Some y → is_refused y ≡ false) → is_refused y ≡ false
      by x ys n h zero l y e k = ap is_refused (sym (some_once x y e)) ∙ h
      by x ys n h (suc m) l y e k = k m y (omega (arith, l)) e

  -- ---- what is left out

  abbrev pub SkippedInTurn : Packages → List PackageSource → Outcomes → List (List Skipped) → Type 0
  SkippedInTurn w us a xss = (n : ℕ) (x : Outcome) (xs : List Skipped) → a n ≡ Some x → slice_get xss n ≡ Some xs → At us n (λ u. IsSkippedAs (over bits (world_from w us (before number n a))) u x xs)

  pub skip_in_turn : (w : Packages) (us : List PackageSource) (a : Outcomes) (xss : List (List Skipped)) → length xss ≡ length us → ((n : ℕ) → n < length us → (x : Outcome) × (a n ≡ Some x)) → InTurn w us a → SkippedInTurn w us a xss → Skip bits w us xss
  skip_in_turn w [] a [] l all h k = skip_none
  skip_in_turn w [] a (xs ∷ xss) l all h k = no_length (length xss) l
  skip_in_turn w (u ∷ us) a [] l all h k = no_length (length us) (sym l)
  skip_in_turn w (u ∷ us) a (xs ∷ xss) l all h k =
      let f = all 0 (omega arith) in
      let s = k 0 f.0 xs f.1 refl in
      skip_more f.0 (turn_first w u us a f.0 h f.1)
      (subst (λ z. IsSkippedAs (over bits z) u f.0 xs) (nothing_before w (u ∷ us) a) (subst (λ z. IsSkippedAs (over bits (world_from w (u ∷ us) (before number 0 a))) z f.0 xs) (some_once s.0 u (sym s.1)) s.2))
      (skip_in_turn (with_outcome w u f.0) us (behind a) xss (omega (arith, l)) (λ n i. all (suc n) (omega (arith, i))) (turn_rest w u us a f.0 h f.1)
      (λ n x ys e g. let t = k (suc n) x ys e g in (t.0, t.1, subst (λ z. IsSkippedAs (over bits z) t.0 x ys) (known_first w u us a f.0 h f.1 n) t.2)))
