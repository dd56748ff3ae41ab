-- What became of one more package changes no world of lower levels, and what is left out of the others.
use Rattle.std.proofs.Common.{◌≡◌, ◌<◌, ◌≤◌, ◌⊎◌, ℕ, zero, suc, true, false, List, [], ◌∷◌, Some, None, slice_get, refl, sym, ap, ◌∙◌, subst, inl, inr, if◌then◌else◌, arith}
use Rattle.std.specs.Prelude.{nat_eq, nat_lt, slice_set}
use Rattle.std.proofs.lemmas.Bool.Decides.{nat_tests}
use Rattle.go_exposed.specs.OfferedWorlds.{Becomes}
use Rattle.go_exposed.specs.SkippedDeclarations.{Skipped}
use Rattle.go_exposed.specs.SkippedWorlds.{IsSkippedAs}
use Rattle.go_rules.proofs.OneKind.{no_truth}
use Rattle.go_typings.proofs.Cells.{either, if_false, if_true, maybe, none_some, some_once}
use Rattle.go_typings.specs.Assignments.{before}
use Rattle.go_typings.specs.PackageWorlds.{Outcome, no_packages, over}
use Rattle.go_typings.specs.Sources.{PackageSource}
use Rattle.go_level_laws.specs.ByLevels.{AreSkippedByLevels, BecomeByLevels, Outcomes, with_one, world_below, world_of}
use Rattle.go_level_laws.specs.Levels.{NeedsOther}
use Rattle.go_level_laws.proofs.KnownWorlds.{same_world}
use Rattle.go_level_laws.proofs.LowerWorlds.{below_is, is_below}

pub is_same : (m n : ℕ) → nat_eq m n ≡ true → m ≡ n
is_same m n e = grind (arith, nat_tests)

pub same_is : (n : ℕ) → nat_eq n n ≡ true
same_is n = grind (arith, nat_tests)

not_below : (m k : ℕ) → k ≤ m → nat_lt m k ≡ false
not_below m k l = elim (either (nat_lt m k)) [ inl e ↦ absurd (let h = is_below m k e in omega (arith, l, h)) | inr e ↦ e ]

pub one_at : (n : ℕ) (x : Outcome) (a : Outcomes) → with_one n x a n ≡ Some x
one_at n x a = if_true (nat_eq n n) (Some x) (a n) (same_is n)

pub one_else : (n : ℕ) (x : Outcome) (a : Outcomes) (m : ℕ) → nat_eq m n ≡ false → with_one n x a m ≡ a m
one_else n x a m e = if_false (nat_eq m n) (Some x) (a m) e

pub one_or_before : (n : ℕ) (x : Outcome) (a : Outcomes) (m : ℕ) (y : Outcome) → with_one n x a m ≡ Some y → ((m ≡ n) × (x ≡ y)) ⊎ (a m ≡ Some y)
one_or_before n x a m y e = elim (either (nat_eq m n)) [
  | inl i ↦ inl (is_same m n i, some_once x y (sym (if_true (nat_eq m n) (Some x) (a m) i) ∙ e))
  | inr i ↦ inr (sym (one_else n x a m i) ∙ e)
]

-- what is known is known with one more
one_still : (n : ℕ) (x : Outcome) (a : Outcomes) (m : ℕ) (y : Outcome) → a m ≡ Some y → (z : Outcome) × (with_one n x a m ≡ Some z)
one_still n x a m y e = elim (either (nat_eq m n)) [
  | inl i ↦ (x, if_true (nat_eq m n) (Some x) (a m) i)
  | inr i ↦ (y, one_else n x a m i ∙ e)
]

module _ (us : List PackageSource) (level : ℕ → ℕ) where
  -- a world below a level isn't changed by a package on it or above
  pub below_kept : (a : Outcomes) (n : ℕ) (x : Outcome) (k : ℕ) → k ≤ level n → world_below us level k (with_one n x a) ≡ world_below us level k a
  below_kept a n x k l = same_world no_packages us (before level k (with_one n x a)) (before level k a) each
    where
      each : (m : ℕ) → before level k (with_one n x a) m ≡ before level k a m
      each m = elim (either (nat_eq m n)) [
        | inl i ↦ (
            let high = not_below (level m) k (subst (λ j. k ≤ level j) (sym (is_same m n i)) l) in
            if_false (nat_lt (level m) k) (with_one n x a m) None high ∙ sym (if_false (nat_lt (level m) k) (a m) None high)
            )
        | inr i ↦ ap (λ c. if nat_lt (level m) k then c else None) (one_else n x a m i)
      ]

  -- where all that are known are below a level, their world is that below it
  pub all_below : (a : Outcomes) (k : ℕ) → ((m : ℕ) (y : Outcome) → a m ≡ Some y → level m < k) → world_below us level k a ≡ world_of us a
  all_below a k h = same_world no_packages us (before level k a) a each
    where
      each : (m : ℕ) → before level k a m ≡ a m
      each m = elim (either (nat_lt (level m) k)) [
        | inl e ↦ if_true (nat_lt (level m) k) (a m) None e
        | inr e ↦ elim (maybe (a m)) [
          | inl q ↦ absurd (no_truth (sym (below_is (level m) k (h m q.0 q.1)) ∙ e))
          | inr n ↦ if_false (nat_lt (level m) k) (a m) None e ∙ sym n
        ]
      ]

  pub none_become : (bits : ℕ) → BecomeByLevels bits us level (λ n. None)
  none_become bits = record { become = λ n x e. none_some None x refl e; needs = λ n m x e needs. none_some None x refl e }

  -- one more on the highest level
  pub next_become : (bits : ℕ) (a : Outcomes) (n : ℕ) (u : PackageSource) (x : Outcome) → BecomeByLevels bits us level a → ((m : ℕ) (y : Outcome) → a m ≡ Some y → level m ≤ level n) → slice_get us n ≡ Some u
      → ((m : ℕ) → NeedsOther us n m → (y : Outcome) × (a m ≡ Some y)) → Becomes (over bits (world_below us level (level n) a)) u x → BecomeByLevels bits us level (with_one n x a)
  next_become bits a n u x by high is needs b = record {
    become = λ m y e. elim (one_or_before n x a m y e) [
      | inl p ↦ (
          let same = λ (j : ℕ). world_below us level (level j) (with_one n x a) in
          let k : Becomes (over bits (same n)) u y = subst (λ w. Becomes (over bits w) u y) (sym (below_kept a n x (level n) (omega arith))) (subst (Becomes (over bits (world_below us level (level n) a)) u) p.1 b) in
          (u, ap (slice_get us) p.0 ∙ is, subst (λ j. Becomes (over bits (same j)) u y) (sym p.0) k)
          )
      | inr f ↦ (
          let k = by.become m y f in
          (k.0, k.1, subst (λ w. Becomes (over bits w) k.0 y) (sym (below_kept a n x (level m) (high m y f))) k.2)
          )
    ];
    needs = λ m j y e k. elim (one_or_before n x a m y e) [
      | inl p ↦ (let q = needs j (subst (λ i. NeedsOther us i j) p.0 k) in one_still n x a j q.0 q.1)
      | inr f ↦ (let q = by.needs m j y f k in one_still n x a j q.0 q.1)
    ];
  }

  -- what is left out of it
  set_same : (xss : List (List Skipped)) (n : ℕ) (xs ys : List Skipped) → slice_get (slice_set xss n xs) n ≡ Some ys → xs ≡ ys
  set_same [] n xs ys e = none_some (slice_get [] n) ys refl e
  set_same (zs ∷ xss) zero xs ys e = some_once xs ys e
  set_same (zs ∷ xss) (suc n) xs ys e = set_same xss n xs ys e

  set_other : (xss : List (List Skipped)) (n m : ℕ) (xs : List Skipped) → (m ≡ n → ⊥) → slice_get (slice_set xss n xs) m ≡ slice_get xss m
  set_other [] n m xs d = refl
  set_other (zs ∷ xss) zero zero xs d = absurd (d refl)
  set_other (zs ∷ xss) zero (suc m) xs d = refl
  set_other (zs ∷ xss) (suc n) zero xs d = refl
  set_other (zs ∷ xss) (suc n) (suc m) xs d = set_other xss n m xs (λ e. d (ap suc e))

  pub next_skipped : (bits : ℕ) (a : Outcomes) (n : ℕ) (u : PackageSource) (x : Outcome) (xss : List (List Skipped)) (xs : List Skipped) → ((m : ℕ) (y : Outcome) → a m ≡ Some y → level m ≤ level n) → slice_get us n ≡ Some u
      → AreSkippedByLevels bits us level a xss → IsSkippedAs (over bits (world_below us level (level n) a)) u x xs → AreSkippedByLevels bits us level (with_one n x a) (slice_set xss n xs)
  next_skipped bits a n u x xss xs high is k s m y ys e f = elim (either (nat_eq m n)) [
    | inl i ↦ (
        let same = is_same m n i in
        let outcome = some_once x y (sym (one_at n x a) ∙ ap (with_one n x a) (sym same) ∙ e) in
        let list = set_same xss n xs ys (ap (slice_get (slice_set xss n xs)) (sym same) ∙ f) in
        let here = subst (λ w. IsSkippedAs (over bits w) u x xs) (sym (below_kept a n x (level n) (omega arith))) s in
        let all = subst (λ z. IsSkippedAs (over bits (world_below us level (level n) (with_one n x a))) u z xs) outcome here in
        let listed = subst (IsSkippedAs (over bits (world_below us level (level n) (with_one n x a))) u y) list all in
        (u, ap (slice_get us) same ∙ is, subst (λ j. IsSkippedAs (over bits (world_below us level (level j) (with_one n x a))) u y ys) (sym same) listed)
        )
    | inr i ↦ (
        let g = sym (one_else n x a m i) ∙ e in
        let t = k m y ys g (sym (set_other xss n m xs (λ d. no_truth (sym (same_is n) ∙ ap (λ j. nat_eq j n) (sym d) ∙ i))) ∙ f) in
        (t.0, t.1, subst (λ w. IsSkippedAs (over bits w) t.0 y ys) (sym (below_kept a n x (level m) (high m y g))) t.2)
        )
  ]
