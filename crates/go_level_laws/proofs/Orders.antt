-- On whatever levels packages stand above those that they need, the same becomes of them.
use Rattle.std.proofs.Common.{◌≡◌, ◌<◌, ◌≤◌, ◌⊎◌, ℕ, zero, suc, Bool, true, false, ◌&&◌, List, [], ◌∷◌, Option, Some, None, length, slice_get, refl, sym, ap, ◌∙◌, subst, inl, inr, arith}
use Rattle.std.specs.Prelude.{is_some, nat_lt}
use Rattle.std.proofs.lemmas.Bool.Decides.{nat_tests}
use Rattle.std.proofs.lemmas.Option.{slice_get_past, slice_get_within}
use Rattle.go_base.specs.Lists.{Passes}
use Rattle.go_exposed.proofs.OneWorld.{one_outcome}
use Rattle.go_exposed.specs.OfferedWorlds.{Become, become_more, become_none, Becomes, IsFirstRefused, IsWorldOf}
use Rattle.go_exposed.specs.SkippedDeclarations.{Skipped}
use Rattle.go_exposed.specs.SkippedWorlds.{AreSkipped}
use Rattle.go_model.specs.declared.types.package.Package.{Package}
use Rattle.go_model.specs.worlds.Worlds.{Packages}
use Rattle.go_rules.proofs.OneKind.{no_truth}
use Rattle.go_unit_worlds.specs.go_std_worlds.StdSources.{HaveOwnPaths, HavePaths}
use Rattle.go_typings.proofs.Cells.{either, if_false, if_true, maybe, none_some, some_once}
use Rattle.go_typings.specs.PackageWorlds.{Outcome, typed, refused, is_refused, is_typed, no_packages, over}
use Rattle.go_typings.specs.Refusals.{Refusal}
use Rattle.go_typings.specs.Sources.{PackageSource}
use Rattle.go_level_laws.specs.ByLevels.{AreSkippedByLevels, BecomeByLevels, Outcomes, world_below, world_of}
use Rattle.go_level_laws.specs.Levels.{NeedsOther, Rises}
use Rattle.go_level_laws.proofs.KnownWorlds.{HavePathsOf, same_world}
use Rattle.go_level_laws.proofs.LowerWorlds.{HasNeeds, becomes_there, below, below_closed, below_is, is_below, known_source, lower_needs, only, outcome_path, skips_there}
use Rattle.go_level_laws.proofs.Turns.{InTurn, become_in_turn, number, refused_in_turn, skip_in_turn, turn_of, up_to}

-- ---- lists of outcomes

length_of : {bits : ℕ} {w v : Packages} {us : List PackageSource} {ys : List Outcome} → Become bits w us ys v → length ys ≡ length us
length_of become_none = refl
length_of (become_more b r) = ap suc (length_of r)

known_before : (ys : List Outcome) (m n : ℕ) (x : Outcome) → m < n → slice_get ys n ≡ Some x → (y : Outcome) × (slice_get ys m ≡ Some y)
known_before [] m n x l e = none_some (slice_get [] n) x refl e
known_before (y ∷ ys) zero n x l e = (y, refl)
known_before (y ∷ ys) (suc m) zero x l e = absurd (omega (arith, l))
known_before (y ∷ ys) (suc m) (suc n) x l e = known_before ys m n x (omega (arith, l)) e

-- the first outcomes, where all of them are known
record Listed (k : ℕ) (a : Outcomes) : Type 0 where
  pub outcomes : List Outcome
  pub many : length outcomes ≡ k
  pub are : (n : ℕ) → n < k → slice_get outcomes n ≡ a n

more_are : (k : ℕ) (a : Outcomes) (x : Outcome) (ys : List Outcome) → a 0 ≡ Some x → ((n : ℕ) → n < k → slice_get ys n ≡ a (suc n)) → (n : ℕ) → n < suc k → slice_get (x ∷ ys) n ≡ a n
more_are k a x ys e h zero l = sym e
more_are k a x ys e h (suc n) l = h n (omega (arith, l))

listed : (k : ℕ) (a : Outcomes) → ((n : ℕ) → n < k → (x : Outcome) × (a n ≡ Some x)) → Listed k a
listed zero a all = record { outcomes = []; many = refl; are = λ n l. absurd (omega (arith, l)) }
listed (suc k) a all =
    let x = all 0 (omega arith) in
    let rest = listed k (λ n. a (suc n)) (λ n l. all (suc n) (omega (arith, l))) in
    record { outcomes = x.0 ∷ rest.outcomes; many = ap suc rest.many; are = more_are k a x.0 rest.outcomes x.1 rest.are }

passes_at : (ys : List Outcome) → ((n : ℕ) (x : Outcome) → slice_get ys n ≡ Some x → is_typed x ≡ true) → Passes is_typed ys
passes_at [] h = tt
passes_at (y ∷ ys) h = (h 0 y refl, passes_at ys (λ n x e. h (suc n) x e))

either_below : (n k : ℕ) → (n < k) ⊎ (n < k → ⊥)
either_below n k = elim (either (nat_lt n k)) [ inl e ↦ inl (is_below n k e) | inr e ↦ inr (λ l. no_truth (sym (below_is n k l) ∙ e)) ]

at_least : (m n : ℕ) → (n < m → ⊥) → m ≤ n
at_least m n h = elim (either (nat_lt n m)) [ inl e ↦ absurd (h (is_below n m e)) | inr e ↦ grind (arith, nat_tests) ]

is_some_of : {A : Type 0} (c : Option A) → is_some c ≡ true → (x : A) × (c ≡ Some x)
is_some_of c e = elim (maybe c) [ inl q ↦ q | inr n ↦ absurd (no_truth (sym e ∙ ap is_some n)) ]

and_true : (b c : Bool) → b ≡ true → c ≡ true → (b && c) ≡ true
and_true b c e f = ap (λ z. z && c) e ∙ f

and_left : (b c : Bool) → (b && c) ≡ true → b ≡ true
and_left true c e = refl
and_left false c e = e

and_right : (b c : Bool) → (b && c) ≡ true → c ≡ true
and_right true c e = e
and_right false c e = absurd (no_truth (sym e))

module _ (bits : ℕ) (us : List PackageSource) (own : HaveOwnPaths us) (some : HavePaths us) where
  pub paths_of : (level : ℕ → ℕ) (a : Outcomes) → BecomeByLevels bits us level a → HavePathsOf us a
  paths_of level a by n u x e f = outcome_path bits (world_below us level (level n) a) u x (known_source bits us level a by n u x e f)

  module _ (a : Outcomes) (f g : ℕ → ℕ) (here : Rises us f) (yonder : Rises us g) (by : BecomeByLevels bits us f a) where
    abbrev paths : HavePathsOf us a
    paths = paths_of f a by

    there : (n : ℕ) (u : PackageSource) → slice_get us n ≡ Some u → (x : Outcome) → Becomes (over bits (world_below us f (f n) a)) u x → Becomes (over bits (world_below us g (g n) a)) u x
    there n u e =
        becomes_there bits us own some a paths f here by (below f (f n)) (below g (g n))
        (below_closed bits us own some a paths f here (f n)) (below_closed bits us own some a paths g yonder (g n)) u
        (lower_needs bits us own some a paths f here n u e) (lower_needs bits us own some a paths g yonder n u e)

    pub other_levels : BecomeByLevels bits us g a
    other_levels = record {
      become = λ n x e. let b = by.become n x e in (b.0, b.1, there n b.0 b.1 x b.2);
      needs = by.needs;
    }

    pub other_skips : (xss : List (List Skipped)) → AreSkippedByLevels bits us f a xss → AreSkippedByLevels bits us g a xss
    other_skips xss k n x xs e l =
        let s = k n x xs e l in
        let b = known_source bits us f a by n s.0 x s.1 e in (
          s.0,
          s.1,
          skips_there bits us own some a paths f here by (below f (f n)) (below g (g n))
              (below_closed bits us own some a paths f here (f n)) (below_closed bits us own some a paths g yonder (g n)) s.0
              (lower_needs bits us own some a paths f here n s.0 s.1) (lower_needs bits us own some a paths g yonder n s.0 s.1) x xs b s.2,
        )

  -- ---- in turn

  module _ (numbered : Rises us number) where
    pub by_turn : (ys : List Outcome) → InTurn bits no_packages us (slice_get ys) → BecomeByLevels bits us number (slice_get ys)
    by_turn ys t = record { become = t; needs = λ n m x e needs. known_before ys m n x (numbered n m needs) e }

    module _ (level : ℕ → ℕ) (rises : Rises us level) where
      pub levels_of_turns : (ys : List Outcome) (w : Packages) → Become bits no_packages us ys w → BecomeByLevels bits us level (slice_get ys)
      levels_of_turns ys w b = other_levels (slice_get ys) number level numbered rises (by_turn ys (turn_of bits b))

      pub listed_turns : (xs : List Outcome) → length xs ≡ length us → BecomeByLevels bits us level (slice_get xs) → Become bits no_packages us xs (world_of us (slice_get xs))
      listed_turns xs l by = become_in_turn bits no_packages us xs l (other_levels (slice_get xs) level number rises numbered by).become

      module _ (a : Outcomes) (by : BecomeByLevels bits us level a) where
        turns : InTurn bits no_packages us a
        turns = (other_levels a level number rises numbered by).become

        module _ (all : (n : ℕ) → n < length us → (x : Outcome) × (a n ≡ Some x)) where
          abbrev list : Listed (length us) a
          list = listed (length us) a all

          nothing_past : (n : ℕ) → (n < length us → ⊥) → a n ≡ None
          nothing_past n l = elim (maybe (a n)) [ inl q ↦ absurd (let b = by.become n q.0 q.1 in l (slice_get_within us n b.0 b.1)) | inr e ↦ e ]

          outcomes_are : (n : ℕ) → slice_get list.outcomes n ≡ a n
          outcomes_are n = elim (either_below n (length us)) [ inl l ↦ list.are n l | inr l ↦ slice_get_past list.outcomes n (at_least (length list.outcomes) n (λ i. l (omega (arith, i, list.many)))) ∙ sym (nothing_past n l) ]

          turns_of_levels : Become bits no_packages us list.outcomes (world_of us a)
          turns_of_levels =
              let e : slice_get list.outcomes ≡ a = λ i n. outcomes_are n i in
              subst (Become bits no_packages us list.outcomes) (ap (world_of us) e) (become_in_turn bits no_packages us list.outcomes list.many (subst (InTurn bits no_packages us) (sym e) turns))

          pub skips_of_levels : (xss : List (List Skipped)) → length xss ≡ length us → AreSkippedByLevels bits us level a xss → AreSkipped bits us xss
          skips_of_levels xss l k = skip_in_turn bits no_packages us a xss l all turns (other_skips a level number rises numbered by xss k)

          typed_world : ((n : ℕ) (x : Outcome) → a n ≡ Some x → is_typed x ≡ true) → IsWorldOf bits us (world_of us a)
          typed_world h = record { outcomes = list.outcomes; become = turns_of_levels; all_typed = passes_at list.outcomes (λ n x e. h n x (sym (outcomes_are n) ∙ e)) }

        pub world_of_levels : ((n : ℕ) → n < length us → (p : Package) × (a n ≡ Some (typed p))) → IsWorldOf bits us (world_of us a)
        world_of_levels all = typed_world (λ n l. (typed (all n l).0, (all n l).1)) (λ n x e. (
            let b = by.become n x e in
            let p = all n (slice_get_within us n b.0 b.1) in
            ap is_typed (sym (some_once (typed p.0) x (sym p.1 ∙ e)))
            ))

        pub refused_by_levels : (n : ℕ) (r : Refusal) → a n ≡ Some (refused r) → ((m : ℕ) → m < n → (x : Outcome) × (a m ≡ Some x) × (is_refused x ≡ false)) → IsFirstRefused bits us n r
        refused_by_levels n r e k = refused_in_turn bits no_packages us a n r turns e k

  -- ---- what isn't looked at

  module _ (a b : Outcomes) (level : ℕ → ℕ) (rises : Rises us level) (one : BecomeByLevels bits us level a) (other : BecomeByLevels bits us level b) where
    known_in_both : ℕ → Bool
    known_in_both n = is_some (a n) && is_some (b n)

    shared_below : ℕ → ℕ → Bool
    shared_below k n = known_in_both n && nat_lt (level n) k

    both_known : (n : ℕ) (x y : Outcome) → a n ≡ Some x → b n ≡ Some y → known_in_both n ≡ true
    unfolding known_in_both
    both_known n x y e f = and_true (is_some (a n)) (is_some (b n)) (ap is_some e) (ap is_some f)

    known_left : (n : ℕ) → known_in_both n ≡ true → (x : Outcome) × (a n ≡ Some x)
    unfolding known_in_both
    known_left n e = is_some_of (a n) (and_left (is_some (a n)) (is_some (b n)) e)

    known_right : (n : ℕ) → known_in_both n ≡ true → (x : Outcome) × (b n ≡ Some x)
    unfolding known_in_both
    known_right n e = is_some_of (b n) (and_right (is_some (a n)) (is_some (b n)) e)

    needs_known : (n m : ℕ) → known_in_both n ≡ true → NeedsOther us n m → known_in_both m ≡ true
    needs_known n m e needs =
        let x = known_left n e in let y = known_right n e in
        let p = one.needs n m x.0 x.1 needs in let q = other.needs n m y.0 y.1 needs in
        both_known m p.0 q.0 p.1 q.1

    shared_is : (k n : ℕ) → known_in_both n ≡ true → level n < k → shared_below k n ≡ true
    unfolding shared_below
    shared_is k n e l = and_true (known_in_both n) (nat_lt (level n) k) e (below_is (level n) k l)

    shared_known : (k n : ℕ) → shared_below k n ≡ true → known_in_both n ≡ true
    unfolding shared_below
    shared_known k n e = and_left (known_in_both n) (nat_lt (level n) k) e

    shared_low : (k n : ℕ) → shared_below k n ≡ true → level n < k
    unfolding shared_below
    shared_low k n e = is_below (level n) k (and_right (known_in_both n) (nat_lt (level n) k) e)

    shared_closed : (k n m : ℕ) → shared_below k n ≡ true → NeedsOther us n m → shared_below k m ≡ true
    shared_closed k n m e needs = shared_is k m (needs_known n m (shared_known k n e) needs) (let l = rises n m needs in let h = shared_low k n e in omega (arith, l, h))

    module _ (k : ℕ) (lower : (n : ℕ) (x y : Outcome) → level n < k → a n ≡ Some x → b n ≡ Some y → x ≡ y) (n : ℕ) (l : level n < suc k) (x y : Outcome) (e : a n ≡ Some x) (f : b n ≡ Some y) where
      abbrev low : ℕ → Bool
      low = shared_below (level n)

      same_low : (m : ℕ) → only low a m ≡ only low b m
      same_low m = elim (either (low m)) [
        | inl i ↦ (
            let p = known_left m (shared_known (level n) m i) in
            let q = known_right m (shared_known (level n) m i) in
            let s = lower m p.0 q.0 (let h = shared_low (level n) m i in omega (arith, h, l)) p.1 q.1 in
            if_true (low m) (a m) None i ∙ p.1 ∙ ap Some s ∙ sym q.1 ∙ sym (if_true (low m) (b m) None i)
            )
        | inr i ↦ if_false (low m) (a m) None i ∙ sym (if_false (low m) (b m) None i)
      ]

      needs_low : (u : PackageSource) → slice_get us n ≡ Some u → HasNeeds bits us own some a (paths_of level a one) low u
      needs_low u i m v j needs = shared_is (level n) m (needs_known n m (both_known n x y e f) (u, i, (v, j, needs))) (rises n m (u, i, (v, j, needs)))

      same_step : x ≡ y
      same_step =
          let h = one.become n x e in
          let u = h.0 in
          let g = known_source bits us level b other n u y h.1 f in
          let left = becomes_there bits us own some a (paths_of level a one) level rises one (below level (level n)) low
          (below_closed bits us own some a (paths_of level a one) level rises (level n)) (λ p m z i d needs. shared_closed (level n) p m i needs) u
          (lower_needs bits us own some a (paths_of level a one) level rises n u h.1) (needs_low u h.1) x h.2 in
          let right = becomes_there bits us own some b (paths_of level b other) level rises other (below level (level n)) low
          (below_closed bits us own some b (paths_of level b other) level rises (level n)) (λ p m z i d needs. shared_closed (level n) p m i needs) u
          (lower_needs bits us own some b (paths_of level b other) level rises n u h.1) (needs_low u h.1) y g in
          one_outcome (over bits (world_of us (only low b))) u x y (subst (λ z. Becomes (over bits z) u x) (same_world no_packages us (only low a) (only low b) same_low) left) right

    same_below : (k n : ℕ) (x y : Outcome) → level n < k → a n ≡ Some x → b n ≡ Some y → x ≡ y
    same_below zero n x y l e f = absurd (omega (arith, l))
    same_below (suc k) n x y l e f = same_step k (same_below k) n l x y e f

    pub same_outcome : (n : ℕ) (x y : Outcome) → a n ≡ Some x → b n ≡ Some y → x ≡ y
    same_outcome n x y e f = same_below (suc (level n)) n x y (omega arith) e f

  -- no package is refused before the first
  pub none_before : (level : ℕ → ℕ) (a : Outcomes) (m n : ℕ) (q r : Refusal) → Rises us number → Rises us level → BecomeByLevels bits us level a → IsFirstRefused bits us m q → a n ≡ Some (refused r) → m ≤ n
  none_before level a m n q r numbered rises by first e = elim (either_below n m) [
    | inl l ↦ (
        let t = up_to bits first in
        let y = known_before t.outcomes n m (refused q) l t.last in
        let same = same_outcome a (slice_get t.outcomes) number numbered (other_levels a level number rises numbered by) (by_turn numbered t.outcomes t.turn) n (refused r) y.0 e y.1 in
        absurd (no_truth (ap is_refused same ∙ t.before n y.0 l y.1))
        )
    | inr h ↦ at_least m n h
  ]
