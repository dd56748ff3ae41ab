-- Steps of a search along rows, and its end.
use Rattle.std.proofs.Common.{◌≡◌, ℕ, zero, suc, ◌+◌, ◌<◌, ◌≤◌, Bool, true, false, List, [], ◌∷◌, ◌++◌, length, set, take, get_or, refl, sym, ap, ◌∙◌, subst, ◌⊎◌, inl, inr, arith}
use Rattle.std.proofs.lemmas.List.{length-set}
use Rattle.go_base.specs.Lists.{Has}
use Rattle.go_base.proofs.Members.{has_split}
use Rattle.go_graphs.specs.Flags.{AreFlagsOf, is_flagged}
use Rattle.go_graphs.specs.Walks.{row_of}
use Rattle.go_graphs.proofs.Flagging.{apart, either, flagged_within, set_flag, set_keeps, set_or_was}
use Rattle.go_graphs.proofs.Members.{has_before, has_front, has_more, has_next}
use Rattle.go_reach.specs.Reached.{IsReached, reached_by, reached_first}
use Rattle.go_reach.specs.Numbers.{AreFlagged}
use Rattle.go_reach.specs.inner.Search.{AreMet, Meets}
use Rattle.go_reach.proofs.FlaggedNumbers.{has_left, has_right}

-- ---- one number

-- it is flagged anew
pub met_new : (flags : List Bool) (before : List ℕ) (k : ℕ) → k < length flags → Meets (λ n. k ≡ n) flags before (set flags k true) (before ++ k ∷ [])
met_new flags before k w = record {
  kept = λ n e. set_keeps flags k n w e;
  sound = λ n e. elim (set_or_was flags k n e) [ inl g ↦ inl g | inr q ↦ inr (sym q) ];
  complete = λ n q l. subst (λ (z : ℕ). is_flagged (set flags k true) z ≡ true) q (set_flag flags k w);
  waits = λ n h. has_left before (k ∷ []) n h;
  listed = λ n e. elim (set_or_was flags k n e) [ inl g ↦ inl g | inr q ↦ inr (has_right before (k ∷ []) n (inl (sym q))) ];
  flagged = λ n h. elim (has_split before (k ∷ []) n h) [
    | inl g ↦ inl g
    | inr r ↦ elim r [ inl q ↦ inr (subst (λ (z : ℕ). is_flagged (set flags k true) z ≡ true) q (set_flag flags k w)) | inr z ↦ absurd z ]
  ];
}

-- nothing is to be done where it is flagged, or is past the flags
pub met_old : (found : ℕ → Type 0) (flags : List Bool) (before : List ℕ) → ((n : ℕ) → found n → n < length flags → is_flagged flags n ≡ true) → Meets found flags before flags before
met_old found flags before c = record {
  kept = λ n e. e;
  sound = λ n e. inl e;
  complete = c;
  waits = λ n h. h;
  listed = λ n e. inl e;
  flagged = λ n h. inl h;
}

-- ---- the numbers of a row

pub met_more : (row : List ℕ) (i : ℕ) (first : List Bool) (start : List ℕ) (old : List Bool) (before : List ℕ) (new : List Bool) (after : List ℕ) → i < length row → length old ≡ length first
    → Meets (Has (take i row)) first start old before → Meets (λ n. get_or row i 0 ≡ n) old before new after → Meets (Has (take (i + 1) row)) first start new after
met_more row i first start old before new after l size m k = record {
  kept = λ n e. k.kept n (m.kept n e);
  sound = λ n e. elim (k.sound n e) [
    | inl g ↦ elim (m.sound n g) [ inl f ↦ inl f | inr h ↦ inr (has_before row i n h) ]
    | inr q ↦ inr (subst (Has (take (i + 1) row)) q (has_next row i l))
  ];
  complete = λ n h w. elim (has_more row i n l h) [ inl g ↦ k.kept n (m.complete n g w) | inr q ↦ k.complete n q (omega (arith, w, size)) ];
  waits = λ n h. k.waits n (m.waits n h);
  listed = λ n e. elim (k.listed n e) [
    | inl g ↦ elim (m.listed n g) [ inl f ↦ inl f | inr h ↦ inr (k.waits n h) ]
    | inr h ↦ inr h
  ];
  flagged = λ n h. elim (k.flagged n h) [
    | inl g ↦ elim (m.flagged n g) [ inl f ↦ inl f | inr e ↦ inr (k.kept n e) ]
    | inr e ↦ inr e
  ];
}

-- ---- the search

pub met_first : (rows : List (List ℕ)) (first : List Bool) (pending : List ℕ) → AreFlagged first (length first) pending → AreMet rows first first pending
met_first rows first pending are = record {
  size = refl;
  kept = λ n e. e;
  sound = λ n e. reached_first e;
  flagged = λ n h. ((are n).0 h).1;
  followed = λ m e. inl ((are m).1 (flagged_within first m e, e));
}

-- the row of one that was pending is followed
pub met_next : (rows : List (List ℕ)) (first old : List Bool) (pending before : List ℕ) (m : ℕ) (new : List Bool) (after : List ℕ) → length new ≡ length old → pending ≡ before ++ m ∷ []
    → AreMet rows first old pending → Meets (Has (row_of rows m)) old before new after → AreMet rows first new after
met_next rows first old pending before m new after size is a k =
    let h : is_flagged old m ≡ true = a.flagged m (subst (λ (xs : List ℕ). Has xs m) (sym is) (has_right before (m ∷ []) m (inl refl))) in
    let r : IsReached rows (is_flagged first) m = a.sound m h in
    let all : (n : ℕ) → Has (row_of rows m) n → n < length new → is_flagged new n ≡ true = λ n i l. k.complete n i (omega (arith, l, size)) in
    record {
      size = size ∙ a.size;
      kept = λ n e. k.kept n (a.kept n e);
      sound = λ n e. elim (k.sound n e) [ inl g ↦ a.sound n g | inr i ↦ reached_by m r i ];
      flagged = λ n i. elim (k.flagged n i) [
        | inl g ↦ k.kept n (a.flagged n (subst (λ (xs : List ℕ). Has xs n) (sym is) (has_left before (m ∷ []) n g)))
        | inr e ↦ e
      ];
      followed = λ n e. elim (k.listed n e) [
        | inl g ↦ elim (a.followed n g) [
          | inl p ↦ elim (has_split before (m ∷ []) n (subst (λ (xs : List ℕ). Has xs n) is p)) [
            | inl i ↦ inl (k.waits n i)
            | inr i ↦ elim i [ inl q ↦ inr (subst (λ (z : ℕ). (j : ℕ) → Has (row_of rows z) j → j < length new → is_flagged new j ≡ true) q all) | inr z ↦ absurd z ]
          ]
          | inr f ↦ inr (λ j i l. k.kept j (f j i (omega (arith, l, size))))
        ]
        | inr i ↦ inl i
      ];
    }

has_row : (rows : List (List ℕ)) (m n : ℕ) → Has (row_of rows m) n → m < length rows
has_row [] m n h = absurd h
has_row (r ∷ rs) zero n h = omega arith
has_row (r ∷ rs) (suc m) n h = let k = has_row rs m n h in omega (arith, k)

module _ (rows : List (List ℕ)) (first flags : List Bool) (size : length first ≡ length rows) (a : AreMet rows first flags []) where
  all_met : (n : ℕ) → n < length rows → IsReached rows (is_flagged first) n → is_flagged flags n ≡ true
  all_met n l (reached_first e) = a.kept n e
  all_met n l (reached_by m r h) =
      let s = a.size in
      elim (a.followed m (all_met m (has_row rows m n h) r)) [ inl z ↦ absurd z | inr f ↦ f n h (omega (arith, l, s, size)) ]

  pub met_all : AreFlagsOf (length rows) (IsReached rows (is_flagged first)) flags
  met_all = record { size = a.size ∙ size; sound = λ n e. a.sound n e; complete = λ n l r. all_met n l r }
