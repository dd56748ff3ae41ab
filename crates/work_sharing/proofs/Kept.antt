-- What is kept of the rows of a table that is given up.
use Rattle.std.proofs.Common.{◌≡◌, ◌≢◌, ℕ, zero, suc, ◌+◌, ◌<◌, List, [], ◌∷◌, ◌++◌, length, Option, Some, None, slice_get, IfSome, refl, sym, ap, ◌∙◌, subst, ◌⊎◌, inl, inr, arith}
use Rattle.std.specs.Prelude.{slice_index}
use mathlib.Core.Option.{Option as Home, some, some-ne-none}
use lib.ListN.{get_elem?}
use Rattle.atomic_table.specs.Table.{State, Final, Seen}
use Rattle.work_sharing.specs.declared.rule.View.{View}
use Rattle.work_sharing.specs.Rows.{Holds, IsFit}
use Rattle.work_sharing.specs.Results.{AreKept, AreOf, AreRight}
use Rattle.work_sharing.proofs.Rows.{some_eq}
use Rattle.work_sharing.proofs.Fills.{result_eq}

-- an entry of a list with one more is one of the list, or that one
pub get_snoc : {A : Type 0} (xs : List A) (y z : A) (j : ℕ) → slice_get (xs ++ y ∷ []) j ≡ Some z → (slice_get xs j ≡ Some z) ⊎ ((j ≡ length xs) × (y ≡ z))
get_snoc [] y z zero e = inr (refl, result_eq y z e)
get_snoc [] y z (suc j) e = absurd (cc)
get_snoc (x ∷ xs) y z zero e = inl e
get_snoc (x ∷ xs) y z (suc j) e = elim (get_snoc xs y z j e) [ inl k ↦ inl k | inr k ↦ inr (ap suc k.0, k.1) ]

got_none : {A : Type 0} (j : ℕ) (x : A) → slice_get [] j ≡ Some x → ⊥
got_none j x e = absurd (cc)

-- nothing is kept of no rows
pub kept_none : {T : Type 0} (ws : List ℕ) (xs : List (Option T)) → AreKept ws xs []
kept_none ws xs = ((λ j x e. absurd (got_none j (Some x) e)), (λ j e. absurd (got_none j None e)))

module _ {T : Type 0} (ws : List ℕ) (xs kept : List (Option T)) (word : ℕ) (slot one : Option T) (at_word : get_elem? ws (length kept) ≡ some word) (at_slot : get_elem? xs (length kept) ≡ some slot) (filled : word ≡ 2 → one ≡ slot) (other : (word ≡ 2 → ⊥) → one ≡ None) where
  two_or : (n : ℕ) → (n ≡ 2) ⊎ (n ≡ 2 → ⊥)
  two_or zero = inr (λ e. absurd (omega (arith, e)))
  two_or (suc zero) = inr (λ e. absurd (omega (arith, e)))
  two_or (suc (suc zero)) = inl refl
  two_or (suc (suc (suc n))) = inr (λ e. absurd (omega (arith, e)))

  is_two : (x : T) → one ≡ Some x → word ≡ 2
  is_two x e = elim (two_or word) [ inl t ↦ t | inr n ↦ let bad : ◌≡◌ {A = Option T} None (Some x) = sym (other n) ∙ e in absurd (cc) ]

  full_entry : (before : AreKept ws xs kept) (j : ℕ) (x : T) → (slice_get kept j ≡ Some (Some x)) ⊎ ((j ≡ length kept) × (one ≡ Some x)) → (get_elem? ws j ≡ some 2) × (get_elem? xs j ≡ some (Some x))
  full_entry before j x (inl e) = before.0 j x e
  full_entry before j x (inr p) =
      let t = is_two x p.1 in (
        ap (get_elem? ws) p.0 ∙ at_word ∙ ap (λ (n : ℕ). some n) t,
        ap (get_elem? xs) p.0 ∙ at_slot ∙ ap (λ (y : Option T). some y) (sym (filled t) ∙ p.1),
      )

  none_entry : (before : AreKept ws xs kept) (j : ℕ) → (slice_get kept j ≡ Some None) ⊎ ((j ≡ length kept) × (one ≡ None)) → get_elem? ws j ≡ some 2 → get_elem? xs j ≡ some None
  none_entry before j (inl e) two = before.1 j e two
  none_entry before j (inr p) two =
      let t : word ≡ 2 = some_eq word 2 (sym at_word ∙ ap (get_elem? ws) (sym p.0) ∙ two) in
      ap (get_elem? xs) p.0 ∙ at_slot ∙ ap (λ (y : Option T). some y) (sym (filled t) ∙ p.1)

  pub kept_more : AreKept ws xs kept → AreKept ws xs (kept ++ one ∷ [])
  kept_more before = ((λ j x e. full_entry before j x (get_snoc kept one (Some x) j e)), (λ j e two. none_entry before j (get_snoc kept one None j e) two))

word_at : (ws : List ℕ) (j n : ℕ) → get_elem? ws j ≡ some n → slice_index ws j ≡ n
word_at [] j n e = absurd (some-ne-none n (sym e))
word_at (w ∷ ws) zero n e = some_eq w n e
word_at (w ∷ ws) (suc j) n e = word_at ws j n e

at_word : (ws : List ℕ) (j n : ℕ) → j < length ws → slice_index ws j ≡ n → get_elem? ws j ≡ some n
at_word [] j n lt e = absurd (omega arith)
at_word (w ∷ ws) zero n lt e = ap (λ (m : ℕ). some m) e
at_word (w ∷ ws) (suc j) n lt e = at_word ws j n (omega arith) e

there : {A : Type 0} (xs : List A) (j : ℕ) (x : A) → get_elem? xs j ≡ some x → j < length xs
there [] j x e = absurd (some-ne-none x (sym e))
there (y ∷ xs) zero x e = omega arith
there (y ∷ xs) (suc j) x e = omega (arith, there xs j x e)

module _ {T : Type 0} (good : ℕ → T → Type 0) (id : ℕ) (v : View) (ws : List ℕ) (xs kept : List (Option T)) (final : Final (Seen (Holds good) id v) ws xs) (are : AreKept ws xs kept) where
  s : State (Option T) View
  s = final.0

  holds : Holds good final.0
  holds = final.1.0

  pub rows_of : AreOf good v kept
  rows_of = (
    (λ j x e.
        let k = are.0 j x e in
        let lt : j < length final.0.homes = omega (arith, there xs j (Some x) k.1, final.3) in
        let r = holds.rows j lt in
        let h = r.home (ap (λ (l : List ℕ). slice_index l j) final.2 ∙ word_at ws j 2 k.0) in
        let y = final.4 j (Some h.0) h.1 in
        subst (good j) (result_eq h.0 x (some_eq (Some h.0) (Some x) (sym y ∙ k.1))) (r.right h.0 h.1)),
    (λ j f e.
        let c = holds.fit id v final.1.1 in
        let lt : j < length final.0.homes = c.1 j (c.2 j f) in
        let r = holds.rows j lt in
        let w = (r.full id v final.1.1 f).1 in
        let h = r.home w in
        let y = final.4 j (Some h.0) h.1 in
        let two : get_elem? ws j ≡ some 2 = at_word ws j 2 (omega (arith, lt, holds.same, ap (λ (l : List ℕ). length l) final.2)) (sym (ap (λ (l : List ℕ). slice_index l j) final.2) ∙ w) in
        let bad : ◌≡◌ {A = Home (Option T)} (some (Some h.0)) (some None) = sym y ∙ are.1 j e two in
        absurd (cc)),
  )

  pub fits : (n : ℕ) → length xs ≡ n → IsFit n v
  fits n e = subst (λ (m : ℕ). IsFit m v) (final.3 ∙ e) (holds.fit id v final.1.1)

right_there : {T : Type 0} (front rest : List (Option T)) (x : Option T) → slice_get (front ++ x ∷ rest) (length front) ≡ Some x
right_there [] rest x = refl
right_there (y ∷ front) rest x = right_there front rest x

if_some : {T : Type 0} (good : T → Type 0) (x : Option T) → ((y : T) → x ≡ Some y → good y) → IfSome x good
if_some good None h = tt
if_some good (Some y) h = h y refl

-- what the rows have at a place is right
pub right_at : {T : Type 0} (good : ℕ → T → Type 0) (front rest rows : List (Option T)) (x : Option T) → front ++ x ∷ rest ≡ rows → AreRight good rows → (n : ℕ) → n ≡ length front → IfSome x (good n)
right_at {T} good front rest rows x e right n is = if_some (good n) x (λ y h. right n y (ap (λ (q : List (Option T)). slice_get q n) (sym e) ∙ ap (slice_get (front ++ x ∷ rest)) is ∙ right_there front rest x ∙ ap (λ (z : Option T). Some z) h))

pub nearer : (k i : ℕ) → k < i + 1 → k ≢ i → k < i
nearer k i lt ne = omega (arith, lt, ne)
