-- Clashes among pairs that are sorted by path.
use Rattle.std.proofs.Common.{◌≡◌, ◌≢◌, ℕ, ◌+◌, ◌<◌, ◌≤◌, inl, inr, Bool, true, false, nat_eq, is_some, MatchBool, Result, Ok, Err, IfOk, List, [], ◌∷◌, ◌++◌, length, get_or, refl, sym, ap, ◌∙◌, subst, arith}
use Rattle.std.specs.Cmp.Lexicographic.{pointwise}
use Rattle.std.proofs.lemmas.Slice.Eq.{bytes_eq-Decides}
use Rattle.go_base.specs.declared.memory.NoMemory.{NoMemory}
use Rattle.go_outside.specs.declared.memory_files.FilePair.{FilePair}
use Rattle.go_outside.specs.Paths.{Path, within}
use Rattle.go_outside.specs.MemoryFiles.{IsTwice, IsAbove, Clashes}
use Rattle.go_outside.specs.inner.SortedPairs.{is_before, path_at, IsSorted, IsFirstFrom, IsClearBelow}
use Rattle.go_outside.proofs.PathOrder.{not_both, before_from, past_slash, slash_from, slash_before, same_path}
use Rattle.go_outside.proofs.Lists.{by_place, has_place, place_has}
use Rattle.go_outside.proofs.Counts.{count_one, count_two}
use Rattle.go_outside.proofs.PairOrder.{sorted_up, path_default}
use Rattle.go_outside.proofs.FolderPaths.{within_some, within_sure, within_never}

-- what a path and a slash begin stands at no place before the first that isn't before them
not_under : (pairs : List FilePair) (f rest : Path) (at k : ℕ) (d : FilePair) → IsFirstFrom pairs (f ++ 47 ∷ []) at → k < at → path_at pairs k d ≡ f ++ 47 ∷ rest → ⊥
not_under pairs f rest at k d point lt e = not_both (point.0 k d (omega arith) lt) (subst (λ (w : Path). is_before w (f ++ 47 ∷ []) ≡ false) (sym e) (slash_from f rest))

path_of : (pairs : List FilePair) (k : ℕ) (p : FilePair) (f rest : Path) → get_or pairs k p ≡ p → p.path ≡ f ++ 47 ∷ rest → path_at pairs k p ≡ f ++ 47 ∷ rest
path_of pairs k p f rest e is = ap (λ (w : FilePair). w.path) e ∙ is

pub above_end : (pairs : List FilePair) (f : Path) (at : ℕ) → length pairs ≤ at → IsFirstFrom pairs (f ++ 47 ∷ []) at → IsAbove pairs f → ⊥
above_end pairs f at h point a =
    let k = has_place pairs a.0 a.1 in
    let r = within_some f a.0.path a.2 in
    not_under pairs f r.0 at k.0 a.0 point (omega (arith, k.1)) (path_of pairs k.0 a.0 f r.0 k.2 r.1)

pub above_here : (pairs : List FilePair) (f : Path) (at : ℕ) (x : FilePair) → at < length pairs → is_some (within f (get_or pairs at x).path) ≡ true → IsAbove pairs f
above_here pairs f at x h some = (get_or pairs at x, place_has pairs at x h, within_sure f (get_or pairs at x).path some)

pub above_other : (pairs : List FilePair) (f : Path) (at : ℕ) (x : FilePair) → at < length pairs → IsSorted pairs → IsFirstFrom pairs (f ++ 47 ∷ []) at → is_some (within f (get_or pairs at x).path) ≡ false → IsAbove pairs f → ⊥
above_other pairs f at x h up point none a =
    let k = has_place pairs a.0 a.1 in
    let r = within_some f a.0.path a.2 in
    let here : path_at pairs k.0 a.0 ≡ f ++ 47 ∷ r.0 = path_of pairs k.0 a.0 f r.0 k.2 r.1 in
    elim (by_place k.0 at) [
      | inl low ↦ not_under pairs f r.0 at k.0 a.0 point low here
      | inr high ↦ not_both
          (before_from (path_at pairs at a.0) (path_at pairs k.0 a.0) (f ++ 48 ∷ []) (sorted_up pairs at k.0 a.0 up high k.1)
          (subst (λ (w : Path). is_before w (f ++ 48 ∷ []) ≡ true) (sym here) (slash_before f r.0)))
          (past_slash f (path_at pairs at a.0) (point.1 at a.0 (omega arith) h)
          (λ rest e. within_never f (get_or pairs at x).path none rest (path_default pairs at x a.0 h ∙ e)))
    ]

abbrev is_path : Path → FilePair → Bool
is_path path p = pointwise nat_eq p.path path

-- two places have one path
pub twice_at : (pairs : List FilePair) (i j : ℕ) (d : FilePair) → i < j → j < length pairs → path_at pairs i d ≡ path_at pairs j d → IsTwice pairs (path_at pairs i d)
twice_at pairs i j d lt h e = count_two (is_path (path_at pairs i d)) pairs i j d lt h
    ((bytes_eq-Decides (path_at pairs i d) (path_at pairs i d)).1 refl) ((bytes_eq-Decides (path_at pairs j d) (path_at pairs i d)).1 (sym e))

no_path : (q p : Path) → (p ≡ q → ⊥) → pointwise nat_eq p q ≡ false
no_path q p h = by (pointwise nat_eq p q) refl where
  by : (b : Bool) → pointwise nat_eq p q ≡ b → b ≡ false
  by true e = absurd (h ((bytes_eq-Decides p q).0 e))
  by false e = refl

-- the path differs from that of each other place
alone : (pairs : List FilePair) (at k : ℕ) (d : FilePair) → IsSorted pairs → IsClearBelow pairs at → at < length pairs
    → (at + 1 < length pairs → (d : FilePair) → path_at pairs at d ≡ path_at pairs (at + 1) d → ⊥)
    → k < length pairs → k ≢ at → path_at pairs k d ≡ path_at pairs at d → ⊥
alone pairs at k d up clear inside next h other same = elim (by_place k at) [
  | inl low ↦ clear k d low (inl (twice_at pairs k at d low inside same))
  | inr high ↦ (
      let more : at + 1 ≤ k = elim (by_place at k) [ inl lt ↦ omega arith | inr le ↦ absurd (other (omega arith)) ] in
      next (omega arith) d (same_path (path_at pairs at d) (path_at pairs (at + 1) d)
      (subst (λ (w : Path). is_before w (path_at pairs (at + 1) d) ≡ false) same (sorted_up pairs (at + 1) k d up more h))
      (sorted_up pairs at (at + 1) d up (omega arith) (omega arith))))
]

-- a path that the next place doesn't repeat stands once, where none before it clashes
pub once_at : (pairs : List FilePair) (at : ℕ) (x : FilePair) → IsSorted pairs → IsClearBelow pairs at → at < length pairs
    → (at + 1 < length pairs → (d : FilePair) → path_at pairs at d ≡ path_at pairs (at + 1) d → ⊥) → IsTwice pairs (path_at pairs at x) → ⊥
once_at pairs at x up clear inside next twice =
    let few = count_one (is_path (path_at pairs at x)) pairs at
    (λ k d h other. no_path (path_at pairs at x) (path_at pairs k d) (λ e. alone pairs at k d up clear inside next h other (e ∙ path_default pairs at x d inside))) in
    absurd (omega (arith, few, twice))

-- whether a path and a slash begin another is told by the pair at the place
pub above_by : (pairs : List FilePair) (f : Path) (at : ℕ) (x : FilePair) (b : Bool) → at < length pairs → IsSorted pairs → IsFirstFrom pairs (f ++ 47 ∷ []) at
    → b ≡ is_some (within f (get_or pairs at x).path) → MatchBool b (IsAbove pairs f) (IsAbove pairs f → ⊥)
above_by pairs f at x true h up point e = above_here pairs f at x h (sym e)
above_by pairs f at x false h up point e = above_other pairs f at x h up point (sym e)

-- whether the path at a place clashes, where the next place doesn't repeat it
pub clash_by : (pairs : List FilePair) (at : ℕ) (x d : FilePair) (b : Bool) → IsSorted pairs → IsClearBelow pairs at → at < length pairs
    → (at + 1 < length pairs → (d : FilePair) → path_at pairs at d ≡ path_at pairs (at + 1) d → ⊥)
    → MatchBool b (IsAbove pairs (path_at pairs at x)) (IsAbove pairs (path_at pairs at x) → ⊥)
    → MatchBool b (Clashes pairs (path_at pairs at d)) (Clashes pairs (path_at pairs at d) → ⊥)
clash_by pairs at x d true up clear h next above = inr (subst (IsAbove pairs) (path_default pairs at x d h) above)
clash_by pairs at x d false up clear h next never = λ k. elim k [
  | inl twice ↦ once_at pairs at d up clear h next twice
  | inr above ↦ never (subst (IsAbove pairs) (path_default pairs at d x h) above)
]

-- no path clashes below the next place
pub clear_more : (pairs : List FilePair) (at : ℕ) → IsClearBelow pairs at → ((d : FilePair) → Clashes pairs (path_at pairs at d) → ⊥) → IsClearBelow pairs (at + 1)
clear_more pairs at clear here k d lt = elim (by_place k at) [
  | inl low ↦ clear k d low
  | inr high ↦ (let e : at ≡ k = omega arith in subst (λ n. Clashes pairs (path_at pairs n d) → ⊥) e (here d))
]

pub clash_of : (pairs : List FilePair) (at : ℕ) (x : FilePair) (q : Path) (r : Result Bool NoMemory) → q ≡ path_at pairs at x → IsSorted pairs → IsClearBelow pairs at → at < length pairs
    → (at + 1 < length pairs → (d : FilePair) → path_at pairs at d ≡ path_at pairs (at + 1) d → ⊥)
    → IfOk r (λ b. MatchBool b (IsAbove pairs q) (IsAbove pairs q → ⊥))
    → IfOk r (λ b. (d : FilePair) → MatchBool b (Clashes pairs (path_at pairs at d)) (Clashes pairs (path_at pairs at d) → ⊥))
clash_of pairs at x q (Ok b) e up clear h next above = λ d. clash_by pairs at x d b up clear h next (subst (λ (w : Path). MatchBool b (IsAbove pairs w) (IsAbove pairs w → ⊥)) e above)
clash_of pairs at x q (Err n) e up clear h next above = above
