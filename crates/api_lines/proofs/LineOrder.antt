-- The order of lines by their texts.
use Rattle.std.proofs.Common.{◌≡◌, ℕ, suc, ◌+◌, ◌<◌, ◌≤◌, true, false, List, [], ◌∷◌, ◌++◌, length, map, take, drop, get_or, refl, sym, ap, ◌∙◌, subst, inl, inr, arith}
use mathlib.Core.Bool.{true≢false}
use Rattle.std.specs.Prelude.{Decides}
use Rattle.std.specs.Ordering.{ordering_then, is_lt, is_gt}
use Rattle.std.specs.declared.cmp.Ordering.TheVariants.{Less, Equal, Greater}
use Rattle.std.specs.Cmp.{nat_cmp_total, tied_itself}
use Rattle.std.specs.Cmp.Lexicographic.{nat_list_cmp_total}
use Rattle.std.specs.List.{AllByRecursion}
use Rattle.std.specs.List.Sorted.{IsStrictlySortedBy}
use Rattle.go_base.specs.Lists.{Has, Each}
use Rattle.go_base.proofs.Lists.{split_at, take_past}
use Rattle.go_base.proofs.Members.{each_has, has_split}
use Rattle.api_lines.specs.declared.line.Line.{Line}
use Rattle.api_lines.specs.Lines.{printed, AreInOrder, HasText}
use Rattle.api_lines.specs.inner.MergedLines.{AreBefore}
use Rattle.api_lines.proofs.Growing.{each_back, has_at, has_right, taken}
use Rattle.api_lines.proofs.TextSets.{order, tie_is}

-- ---- texts

pub same_front : (p xs ys : List ℕ) → order (p ++ xs) (p ++ ys) ≡ order xs ys
same_front [] xs ys = refl
same_front (n ∷ p) xs ys = ap (λ o. ordering_then o (order (p ++ xs) (p ++ ys))) (tied_itself nat_cmp_total n) ∙ same_front p xs ys

pub not_below_itself : (t : List ℕ) → order t t ≡ Less → ⊥
not_below_itself t e = true≢false (ap is_lt (sym e ∙ tied_itself nat_list_cmp_total t))

not_above_itself : (t : List ℕ) → order t t ≡ Greater → ⊥
not_above_itself t e = true≢false (ap is_gt (sym e ∙ tied_itself nat_list_cmp_total t))

-- ---- lists in order

abbrev pub IsBelow : Line → Line → Type 0
IsBelow l m = order (printed l) (printed m) ≡ Less

below_each : (l : Line) (ls : List Line) → AllByRecursion (λ t. order (printed l) t ≡ Less) (map printed ls) → Each (IsBelow l) ls
below_each l [] h = tt
below_each l (m ∷ ls) h = (h.0, below_each l ls h.1)

each_below : (l : Line) (ls : List Line) → Each (IsBelow l) ls → AllByRecursion (λ t. order (printed l) t ≡ Less) (map printed ls)
each_below l [] h = tt
each_below l (m ∷ ls) h = (h.0, each_below l ls h.1)

pub above_first : (l : Line) (ls : List Line) → AreInOrder (l ∷ ls) → Each (IsBelow l) ls
unfolding IsStrictlySortedBy
above_first l ls h = below_each l ls h.0

pub rest_in_order : (l : Line) (ls : List Line) → AreInOrder (l ∷ ls) → AreInOrder ls
unfolding IsStrictlySortedBy
rest_in_order l ls h = h.1

pub first_in_order : (l : Line) (ls : List Line) → Each (IsBelow l) ls → AreInOrder ls → AreInOrder (l ∷ ls)
unfolding IsStrictlySortedBy
first_in_order l ls h k = (each_below l ls h, k)

pub none_in_order : AreInOrder []
unfolding IsStrictlySortedBy
none_in_order = tt

back_in_order : (front back : List Line) → AreInOrder (front ++ back) → AreInOrder back
back_in_order [] back h = h
back_in_order (l ∷ front) back h = back_in_order front back (rest_in_order l (front ++ back) h)

-- those before a line come before its text
pub before_line : (front : List Line) (l : Line) (back : List Line) → AreInOrder (front ++ l ∷ back) → AreBefore (printed l) front
before_line [] l back h = tt
before_line (m ∷ front) l back h = (
  each_has (IsBelow m) (front ++ l ∷ back) l (above_first m (front ++ l ∷ back) h) (has_right front (l ∷ back) l (inl refl)),
  before_line front l back (rest_in_order m (front ++ l ∷ back) h),
)

pub pushed_in_order : (ls : List Line) (l : Line) → AreInOrder ls → AreBefore (printed l) ls → AreInOrder (ls ++ l ∷ [])
pushed_in_order [] l h b = first_in_order l [] tt h
pushed_in_order (m ∷ ls) l h b = first_in_order m (ls ++ l ∷ []) (each_back (IsBelow m) ls l (above_first m ls h) b.0) (pushed_in_order ls l (rest_in_order m ls h) b.1)

pub one_in_order : (ls : List Line) → AreInOrder (take 1 ls)
one_in_order [] = none_in_order
one_in_order (l ∷ ls) = first_in_order l [] tt none_in_order

-- ---- one line of a text

pub not_above : (l m : Line) (ls : List Line) → AreInOrder (l ∷ ls) → Has ls m → printed l ≡ printed m → ⊥
not_above l m ls h k e = not_below_itself (printed m) (subst (λ t. order t (printed m) ≡ Less) e (each_has (IsBelow l) ls m (above_first l ls h) k))

-- two lines with one text are one
pub one_line : (ls : List Line) (a b : Line) → AreInOrder ls → Has ls a → Has ls b → printed a ≡ printed b → a ≡ b
one_line [] a b h x y e = absurd x
one_line (l ∷ ls) a b h (inl x) (inl y) e = sym x ∙ y
one_line (l ∷ ls) a b h (inl x) (inr y) e = absurd (not_above l b ls h y (ap printed x ∙ e))
one_line (l ∷ ls) a b h (inr x) (inl y) e = absurd (not_above l a ls h x (ap printed y ∙ sym e))
one_line (l ∷ ls) a b h (inr x) (inr y) e = one_line ls a b (rest_in_order l ls h) x y e

-- ---- where a text stands

abbrev IsBefore : List ℕ → Line → Type 0
IsBefore t l = order (printed l) t ≡ Less

before_later : (ls : List Line) (t u : List ℕ) → order t u ≡ Less → AreBefore t ls → AreBefore u ls
before_later [] t u e b = tt
before_later (l ∷ ls) t u e b = (nat_list_cmp_total.trans (printed l) t u b.0 e, before_later ls t u e b.1)

-- one line more, which comes after the last one
pub next_in_order : (ls : List Line) (i j : ℕ) (l m : Line) → i ≡ j + 1 → i < length ls → l ≡ get_or ls j l → m ≡ get_or ls i m → AreInOrder (take i ls) → order (printed l) (printed m) ≡ Less → AreInOrder (take (i + 1) ls)
next_in_order ls i j l m e h is_l is_m up less =
    let s : take i ls ≡ take j ls ++ l ∷ [] = ap (λ n. take n ls) e ∙ taken ls j l (omega arith) is_l in
    let o : AreInOrder (take j ls ++ l ∷ []) = subst AreInOrder s up in
    let b : AreBefore (printed m) (take j ls ++ l ∷ []) = each_back (IsBefore (printed m)) (take j ls) l (before_later (take j ls) (printed l) (printed m) less (before_line (take j ls) l [] o)) less in
    subst AreInOrder (sym (taken ls i m h is_m)) (subst (λ w. AreInOrder (w ++ m ∷ [])) (sym s) (pushed_in_order (take j ls ++ l ∷ []) m o b))

none_before : (ls : List Line) (t : List ℕ) → AreBefore t ls → HasText ls t → ⊥
none_before ls t b k = not_below_itself t (subst (λ w. order w t ≡ Less) k.2 (each_has (IsBefore t) ls k.0 b k.1))

none_around : (front : List Line) (l : Line) (back : List Line) (t : List ℕ) → AreInOrder (front ++ l ∷ back) → AreBefore t front → order (printed l) t ≡ Greater → HasText (front ++ l ∷ back) t → ⊥
none_around front l back t h b e k = elim (has_split front (l ∷ back) k.0 k.1) [
  | inl a ↦ none_before front t b (k.0, a, k.2)
  | inr c ↦ elim c [
    | inl s ↦ not_above_itself t (subst (λ w. order w t ≡ Greater) (ap printed s ∙ k.2) e)
    | inr d ↦ let less : order (printed l) t ≡ Less = subst (λ w. order (printed l) w ≡ Less) k.2 (each_has (IsBelow l) back k.0 (above_first l back (back_in_order front (l ∷ back) h)) d) in
        true≢false (ap is_lt (sym less ∙ e))
  ]
]

module _ (ls : List Line) (i : ℕ) (l : Line) (t : List ℕ) (h : i < length ls) (is : l ≡ get_or ls i l) (b : AreBefore t (take i ls)) where
  pub passed_less : order (printed l) t ≡ Less → AreBefore t (take (i + 1) ls)
  passed_less e = subst (AreBefore t) (sym (taken ls i l h is)) (each_back (IsBefore t) (take i ls) l b e)

  pub passed_equal : order (printed l) t ≡ Equal → (u : List ℕ) → order t u ≡ Less → AreBefore u (take (i + 1) ls)
  passed_equal e u f =
      subst (AreBefore u) (sym (taken ls i l h is)) (each_back (IsBefore u) (take i ls) l (before_later (take i ls) t u f b) (subst (λ w. order w u ≡ Less) (sym (tie_is (printed l) t e)) f))

  pub passed_greater : (u : List ℕ) → order t u ≡ Less → AreBefore u (take i ls)
  passed_greater u f = before_later (take i ls) t u f b

  pub found_equal : order (printed l) t ≡ Equal → Decides true (HasText ls t)
  found_equal e = ((λ k. (l, has_at ls i l h is, tie_is (printed l) t e)), (λ k. refl))

  pub found_greater : AreInOrder ls → order (printed l) t ≡ Greater → Decides false (HasText ls t)
  found_greater o e =
      let s : ls ≡ take i ls ++ (l ∷ drop (suc i) ls) = split_at i ls l l h (sym is) in (
        (λ k. absurd (true≢false (sym k))),
        (λ k. absurd (none_around (take i ls) l (drop (suc i) ls) t (subst AreInOrder s o) b e (subst (λ (w : List Line). HasText w t) s k))),
      )

module _ (ls : List Line) (i : ℕ) (t : List ℕ) (h : length ls ≤ i) (b : AreBefore t (take i ls)) where
  pub found_end : Decides false (HasText ls t)
  found_end = ((λ k. absurd (true≢false (sym k))), (λ k. absurd (none_before ls t (subst (AreBefore t) (take_past i ls h) b) k)))

  pub passed_end : (u : List ℕ) → order t u ≡ Less → AreBefore u (take (length ls) ls)
  passed_end u f = before_later (take (length ls) ls) t u f (subst (AreBefore t) (take_past i ls h ∙ sym (take_past (length ls) ls (omega arith))) b)
