-- Ranks as numbers, and endless walks.
use Rattle.std.proofs.Common.{◌≡◌, ℕ, zero, suc, ◌+◌, ◌<◌, ◌≤◌, Bool, true, false, List, [], ◌∷◌, length, get_or, refl, sym, ap, ◌∙◌, subst, ◌⊎◌, inl, inr, arith}
use Rattle.std.specs.Prelude.{if◌then◌else◌}
use Rattle.std.proofs.lemmas.List.{get_or_past}
use Rattle.go_base.specs.Lists.{Has}
use Rattle.go_graphs.specs.Flags.{AreFlagsOf, is_flagged}
use Rattle.go_graphs.specs.Ranks.{FallsAlong, HasRank, has_rank, IsWalk}
use Rattle.go_graphs.specs.Walks.{row_of}
use Rattle.go_graphs.proofs.Leading.{within_or_past}
use Rattle.go_graphs.proofs.Flagging.{apart}
use Rattle.go_graphs.proofs.Ranking.{past_ranked, within_same}

-- the sum of what the members of a list are given
over : (ms : List ℕ) → ((m : ℕ) → Has ms m → ℕ) → ℕ
over [] f = 0
over (m ∷ ms) f = f m (inl refl) + over ms (λ k h. f k (inr h))

over_same : (ms : List ℕ) (f g : (m : ℕ) → Has ms m → ℕ) → ((m : ℕ) (h : Has ms m) → f m h ≡ g m h) → over ms f ≡ over ms g
unfolding over
over_same [] f g e = refl
over_same (m ∷ ms) f g e =
    let p = e m (inl refl) in
    let q = over_same ms (λ k h. f k (inr h)) (λ k h. g k (inr h)) (λ k h. e k (inr h)) in
    omega (arith, p, q)

over_has : (ms : List ℕ) (f : (m : ℕ) → Has ms m → ℕ) → ((m : ℕ) (h k : Has ms m) → f m h ≡ f m k) → (m : ℕ) (h : Has ms m) → f m h ≤ over ms f
unfolding over
over_has [] f one m h = absurd h
over_has (n ∷ ms) f one m (inl e) = subst (λ (z : ℕ). (h : Has (n ∷ ms) z) → f z h ≤ f n (inl refl) + over ms (λ k h. f k (inr h))) e (λ h. let p = one n h (inl refl) in omega (arith, p)) (inl e)
over_has (n ∷ ms) f one m (inr h) = let p = over_has ms (λ k h. f k (inr h)) (λ k h g. one k (inr h) (inr g)) m h in omega (arith, p)

rank_at : (rows : List (List ℕ)) (n : ℕ) → HasRank rows n → ℕ
rank_at rows n (has_rank h) = suc (over (row_of rows n) (λ m i. rank_at rows m (h m i)))

rank_one : (rows : List (List ℕ)) (n : ℕ) (h k : HasRank rows n) → rank_at rows n h ≡ rank_at rows n k
unfolding rank_at
rank_one rows n (has_rank h) (has_rank k) = ap suc (over_same (row_of rows n) (λ m i. rank_at rows m (h m i)) (λ m i. rank_at rows m (k m i)) (λ m i. rank_one rows m (h m i) (k m i)))

rank_less : (rows : List (List ℕ)) (n m : ℕ) (h : HasRank rows n) (k : HasRank rows m) → Has (row_of rows n) m → rank_at rows m k < rank_at rows n h
unfolding rank_at
rank_less rows n m (has_rank h) k i =
    let p = over_has (row_of rows n) (λ m i. rank_at rows m (h m i)) (λ m i j. rank_one rows m (h m i) (h m j)) m i in
    let q = rank_one rows m k (h m i) in
    omega (arith, p, q)

some_rank : (rows : List (List ℕ)) (n : ℕ) (h : HasRank rows n) → 0 < rank_at rows n h
unfolding rank_at
some_rank rows n (has_rank h) = omega arith

-- the rank of a number that is flagged, and 0 of any other
rank_if : (rows : List (List ℕ)) (n : ℕ) (b : Bool) → (b ≡ true → HasRank rows n) → ℕ
rank_if rows n true h = rank_at rows n (h refl)
rank_if rows n false h = 0

rank_is : (rows : List (List ℕ)) (n : ℕ) (b : Bool) (h : b ≡ true → HasRank rows n) (k : HasRank rows n) → b ≡ true → rank_if rows n b h ≡ rank_at rows n k
unfolding rank_if
rank_is rows n true h k e = rank_one rows n (h refl) k
rank_is rows n false h k e = apart (sym e)

rank_less_if : (rows : List (List ℕ)) (n m : ℕ) (b : Bool) (h : b ≡ true → HasRank rows m) (k : HasRank rows n) → Has (row_of rows n) m → rank_if rows m b h < rank_at rows n k
unfolding rank_if
rank_less_if rows n m true h k i = rank_less rows n m k (h refl) i
rank_less_if rows n m false h k i = some_rank rows n k

pub ranks_fall : (rows : List (List ℕ)) (flags : List Bool) → AreFlagsOf (length rows) (HasRank rows) flags → (rank : ℕ → ℕ) × FallsAlong rows (is_flagged flags) rank
ranks_fall rows flags is = (
  λ n. rank_if rows n (is_flagged flags n) (is.sound n),
  λ n m e i. let k = is.sound n e in
      let p = rank_is rows n (is_flagged flags n) (is.sound n) k e in
      let q = rank_less_if rows n m (is_flagged flags m) (is.sound m) k i in
      omega (arith, p, q),
)

-- ---- a number that falls gives ranks

ranked_by : (rows : List (List ℕ)) (S : ℕ → Bool) (rank : ℕ → ℕ) → ((n m : ℕ) → S n ≡ true → Has (row_of rows n) m → S m ≡ true) → FallsAlong rows S rank → (k n : ℕ) → S n ≡ true → rank n < k → HasRank rows n
ranked_by rows S rank f g zero n i l = absurd (omega (arith, l))
ranked_by rows S rank f g (suc k) n i l = has_rank (λ m h. let q = g n m i h in ranked_by rows S rank f g k m (f n m i h) (omega (arith, q, l)))

pub falling_ranked : (rows : List (List ℕ)) (S : ℕ → Bool) (rank : ℕ → ℕ) → ((n m : ℕ) → S n ≡ true → Has (row_of rows n) m → S m ≡ true) → FallsAlong rows S rank → (n : ℕ) → S n ≡ true → HasRank rows n
falling_ranked rows S rank f g n i = ranked_by rows S rank f g (suc (rank n)) n i (omega arith)

-- ---- endless walks

no_walk : (rows : List (List ℕ)) (at : ℕ → ℕ) → IsWalk rows at → (n k : ℕ) → n ≡ at k → HasRank rows n → ⊥
no_walk rows at w n k e (has_rank h) = no_walk rows at w (at (suc k)) (suc k) refl (h (at (suc k)) (subst (λ (z : ℕ). Has (row_of rows z) (at (suc k))) (sym e) (w k)))

pub walks_end : (rows : List (List ℕ)) (at : ℕ → ℕ) → IsWalk rows at → HasRank rows (at 0) → ⊥
walks_end rows at w h = no_walk rows at w (at 0) 0 refl h

-- the first of the list that isn't flagged
first_unflagged : List Bool → List ℕ → ℕ
first_unflagged flags [] = 0
first_unflagged flags (m ∷ ms) = if get_or flags m true then first_unflagged flags ms else m

first_by : (flags : List Bool) (m : ℕ) (ms : List ℕ) (b : Bool) → get_or flags m true ≡ b → (((k : ℕ) → Has ms k → get_or flags k true ≡ true) ⊎ (Has ms (first_unflagged flags ms) × (get_or flags (first_unflagged flags ms) true ≡ false)))
    → ((k : ℕ) → Has (m ∷ ms) k → get_or flags k true ≡ true) ⊎ (Has (m ∷ ms) (if b then first_unflagged flags ms else m) × (get_or flags (if b then first_unflagged flags ms else m) true ≡ false))
first_by flags m ms true e (inl h) = inl (λ k i. elim i [ inl p ↦ subst (λ (z : ℕ). get_or flags z true ≡ true) p e | inr j ↦ h k j ])
first_by flags m ms true e (inr h) = inr (inr h.0, h.1)
first_by flags m ms false e h = inr (inl refl, e)

first_is : (flags : List Bool) (ms : List ℕ) → ((k : ℕ) → Has ms k → get_or flags k true ≡ true) ⊎ (Has ms (first_unflagged flags ms) × (get_or flags (first_unflagged flags ms) true ≡ false))
unfolding first_unflagged
first_is flags [] = inl (λ k h. absurd h)
first_is flags (m ∷ ms) = first_by flags m ms (get_or flags m true) refl (first_is flags ms)

module _ (rows : List (List ℕ)) (flags : List Bool) (is : AreFlagsOf (length rows) (HasRank rows) flags) where
  unranked : (n : ℕ) → get_or flags n true ≡ false → HasRank rows n → ⊥
  unranked n e h = elim (within_or_past n (length flags)) [
    | inl l ↦ (let s = is.size in apart (sym (is.complete n (omega (arith, l, s)) h) ∙ sym (within_same flags n l) ∙ e))
    | inr p ↦ apart (sym (get_or_past flags n true p) ∙ e)
  ]

  ranked_if : (n : ℕ) → get_or flags n true ≡ true → HasRank rows n
  ranked_if n e = elim (within_or_past n (length flags)) [
    | inl l ↦ is.sound n (sym (within_same flags n l) ∙ e)
    | inr p ↦ (let s = is.size in past_ranked rows n (omega (arith, p, s)))
  ]

  next_of : ℕ → ℕ
  next_of n = first_unflagged flags (row_of rows n)

  goes : (n : ℕ) → get_or flags n true ≡ false → Has (row_of rows n) (next_of n) × (get_or flags (next_of n) true ≡ false)
  unfolding next_of
  goes n e = elim (first_is flags (row_of rows n)) [
    | inl h ↦ absurd (unranked n e (has_rank (λ m i. ranked_if m (h m i))))
    | inr h ↦ (h.0, h.1)
  ]

  walk : ℕ → ℕ → ℕ
  walk n zero = n
  walk n (suc k) = next_of (walk n k)

  stays : (n : ℕ) → get_or flags n true ≡ false → (k : ℕ) → get_or flags (walk n k) true ≡ false
  unfolding walk
  stays n e zero = e
  stays n e (suc k) = (goes (walk n k) (stays n e k)).1

  pub endless : (n : ℕ) → n < length rows → is_flagged flags n ≡ false → (at : ℕ → ℕ) × (at 0 ≡ n) × IsWalk rows at
  unfolding walk
  endless n l e =
      let s = is.size in
      let f : get_or flags n true ≡ false = within_same flags n (omega (arith, l, s)) ∙ e in
      (walk n, refl, λ k. (goes (walk n k) (stays n f k)).0)
