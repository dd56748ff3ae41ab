-- Two lists in order are joined from their fronts.
use Rattle.std.proofs.Common.{◌≡◌, ℕ, zero, suc, ◌<◌, ◌==◌, ◌↔◌, arith, Bool, true, false, get_or, drop, List, [], ◌∷◌, ◌++◌, length, refl, sym, ap, ◌∙◌, subst, inl, inr, ◌⊎◌, Option, Some, None}
use mathlib.Core.Bool.{true≢false}
use borrow.Author.Tests.{eqb-true}
use Rattle.std.proofs.lemmas.List.{nil_from_length}
use Rattle.std.specs.Option.{is_some, IsSome, option_to_list}
use Rattle.std.specs.Ordering.{ordering_reverse}
use Rattle.std.specs.declared.cmp.Ordering.TheVariants.{Less, Equal, Greater}
use Rattle.std.specs.Cmp.Lexicographic.{nat_list_cmp_total}
use Rattle.go_base.specs.Lists.{Has, Each}
use Rattle.go_base.proofs.Members.{each_has}
use Rattle.api_lines.specs.declared.line.Line.{Line}
use Rattle.api_lines.specs.Lines.{printed, AreInOrder, HasText, IsListing, IsOfEither}
use Rattle.api_lines.specs.inner.MergedLines.{AreBefore}
use Rattle.api_lines.specs.inner.Joins.{IsBeforeAll, IsLeft, IsTakenFirst}
use Rattle.api_lines.proofs.Growing.{each_back, each_of, has_back, has_last, has_left}
use Rattle.api_lines.proofs.LineOrder.{above_first, IsBelow, none_in_order, pushed_in_order, rest_in_order}
use Rattle.api_lines.proofs.TextSets.{order, order as text_order, tie_is}

-- ---- the first line

all_above : (l m : Line) (ms : List Line) → order (printed l) (printed m) ≡ Less → AreInOrder (m ∷ ms) → IsBeforeAll l (m ∷ ms)
all_above l m ms e h = (e, each_of (IsBelow l) ms (λ x k. nat_list_cmp_total.trans (printed l) (printed m) (printed x) e (each_has (IsBelow m) ms x (above_first m ms h) k)))

-- one list is empty
pub take_second : (old more rest : List Line) (r : Option Line) → old ≡ [] → more ≡ option_to_list r ++ rest → (r ≡ None → rest ≡ []) → AreInOrder more → IsTakenFirst old more old rest r
take_second old more rest None e f n h = (e, f ∙ n refl)
take_second old more rest (Some l) e f n h = (
  inr (subst (λ (w : List Line). Has w l) (sym f) (inl refl)),
  (inl refl, subst (IsBeforeAll l) (sym e) tt),
  (inr (l, f, refl), above_first l rest (subst AreInOrder f h)),
)

pub take_only : (old more new : List Line) (r : Option Line) → more ≡ [] → old ≡ option_to_list r ++ new → (r ≡ None → new ≡ []) → AreInOrder old → IsTakenFirst old more new more r
take_only old more new None e f n h = (f ∙ n refl, e)
take_only old more new (Some l) e f n h = (
  inl (subst (λ (w : List Line). Has w l) (sym f) (inl refl)),
  (inr (l, f, refl), above_first l new (subst AreInOrder f h)),
  (inl refl, subst (IsBeforeAll l) (sym e) tt),
)

module _ (old more : List Line) (x y : Line) (old_rest more_rest : List Line) (e : old ≡ x ∷ old_rest) (f : more ≡ y ∷ more_rest) (g : AreInOrder old) (h : AreInOrder more) where
  g' : AreInOrder (x ∷ old_rest)
  g' = subst AreInOrder e g

  h' : AreInOrder (y ∷ more_rest)
  h' = subst AreInOrder f h

  pub take_less : order (printed x) (printed y) ≡ Less → IsTakenFirst old more old_rest more (Some x)
  take_less less = (
    inl (subst (λ (w : List Line). Has w x) (sym e) (inl refl)),
    (inr (x, e, refl), above_first x old_rest g'),
    (inl refl, subst (IsBeforeAll x) (sym f) (all_above x y more_rest less h')),
  )

  pub take_equal : order (printed x) (printed y) ≡ Equal → IsTakenFirst old more old_rest more_rest (Some x)
  take_equal equal =
      let same : printed x ≡ printed y = tie_is (printed x) (printed y) equal in (
        inl (subst (λ (w : List Line). Has w x) (sym e) (inl refl)),
        (inr (x, e, refl), above_first x old_rest g'),
        (inr (y, f, sym same), subst (λ t. Each (λ m. order t (printed m) ≡ Less) more_rest) (sym same) (above_first y more_rest h')),
      )

  pub take_greater : order (printed x) (printed y) ≡ Greater → IsTakenFirst old more old more_rest (Some y)
  take_greater greater =
      let less : order (printed y) (printed x) ≡ Less = nat_list_cmp_total.antisymm (printed y) (printed x) ∙ ap ordering_reverse greater in (
        inr (subst (λ (w : List Line). Has w y) (sym f) (inl refl)),
        (inl refl, subst (IsBeforeAll y) (sym e) (all_above y x old_rest less g')),
        (inr (y, f, refl), above_first y more_rest h'),
      )

-- ---- what queues give

pub empty_of : (old : List Line) (len : ℕ) (is : Bool) → len ≡ length old → is ≡ (len == 0) → is ≡ true → old ≡ []
empty_of old len is e f t = nil_from_length old (sym e ∙ eqb-true len 0 (sym f ∙ t))

pub some_of : (len : ℕ) (is : Bool) → is ≡ (len == 0) → is ≡ false → 0 < len
some_of zero is f t = absurd (true≢false (sym f ∙ t))
some_of (suc n) is f t = omega arith

-- the answer is none where the list is empty
pub none_left : (old new : List Line) (len : ℕ) (r : Option Line) → len ≡ length old → old ≡ option_to_list r ++ new → IsSome r ↔ (0 < len) → r ≡ None → new ≡ []
none_left [] [] len r e f v n = refl
none_left [] (y ∷ new) len None e f v n = absurd (cc)
none_left [] (y ∷ new) len (Some x) e f v n = absurd (cc)
none_left (x ∷ old) new len r e f v n = absurd (true≢false (sym (v.1 (omega (arith, e))) ∙ ap is_some n))

pub front_popped : (old new : List Line) (x : Line) (len : ℕ) (r : Option Line) → 0 < len → x ≡ get_or old 0 x → old ≡ option_to_list r ++ new → IsSome r ↔ (0 < len) → (r ≡ Some x) × (old ≡ x ∷ new)
front_popped old new x len None h is f v = absurd (true≢false (sym (v.1 h)))
front_popped old new x len (Some y) h is f v =
    let same : x ≡ y = is ∙ ap (λ w. get_or w 0 x) f in
    (ap Some (sym same), f ∙ ap (λ w. w ∷ new) (sym same))

pub headed : (ls : List Line) (l : Line) → 0 < length ls → l ≡ get_or ls 0 l → ls ≡ l ∷ drop 1 ls
headed [] l w i = absurd (omega (arith, w))
headed (z ∷ ls) l w i = ap (λ u. u ∷ ls) (sym i)

module _ (old more new rest : List Line) (x y : Line) (n m : ℕ) (no_old no_more : Bool) (is_n : n ≡ length old) (is_m : m ≡ length more) (e : no_old ≡ (n == 0)) (f : no_more ≡ (m == 0)) (old_some : no_old ≡ false) (more_some : no_more ≡ false)
    (is_x : x ≡ get_or old 0 x) (is_y : y ≡ get_or more 0 y) (g : AreInOrder old) (h : AreInOrder more) where
  module _ (r : Option Line) (p : old ≡ option_to_list r ++ new) (v : IsSome r ↔ (0 < n)) where
    old_popped : (r ≡ Some x) × (old ≡ x ∷ new)
    old_popped = front_popped old new x n r (some_of n no_old e old_some) is_x p v

    more_split : more ≡ y ∷ drop 1 more
    more_split = headed more y (subst (λ k. 0 < k) is_m (some_of m no_more f more_some)) is_y

    pub first_taken : text_order (printed x) (printed y) ≡ Less → IsTakenFirst old more new more r
    first_taken less = subst (IsTakenFirst old more new more) (sym old_popped.0) (take_less old more x y new (drop 1 more) old_popped.1 more_split g h less)

    pub both_taken : (s : Option Line) → more ≡ option_to_list s ++ rest → IsSome s ↔ (0 < m) → text_order (printed x) (printed y) ≡ Equal → IsTakenFirst old more new rest r
    both_taken s q w equal = subst (IsTakenFirst old more new rest) (sym old_popped.0) (take_equal old more x y new rest old_popped.1 (front_popped more rest y m s (some_of m no_more f more_some) is_y q w).1 g h equal)

  pub second_taken : (s : Option Line) → more ≡ option_to_list s ++ rest → IsSome s ↔ (0 < m) → text_order (printed x) (printed y) ≡ Greater → IsTakenFirst old more old rest s
  second_taken s q w greater =
      let popped = front_popped more rest y m s (some_of m no_more f more_some) is_y q w in
      subst (IsTakenFirst old more old rest) (sym popped.0)
      (take_greater old more x y (drop 1 old) rest (headed old x (subst (λ k. 0 < k) is_n (some_of n no_old e old_some)) is_x) popped.1 g h greater)

-- ---- what is joined so far

left_order : (l : Line) (old new : List Line) → IsLeft l old new → AreInOrder old → AreInOrder new
left_order l old new (inl e, b) h = subst AreInOrder (sym e) h
left_order l old new (inr k, b) h = rest_in_order k.0 new (subst AreInOrder k.1 h)

left_has : (l : Line) (old new : List Line) → IsLeft l old new → (x : Line) → Has new x → Has old x
left_has l old new (inl e, b) x h = subst (λ (w : List Line). Has w x) e h
left_has l old new (inr k, b) x h = subst (λ (w : List Line). Has w x) (sym k.1) (inr h)

has_left_or : (l : Line) (old new : List Line) → IsLeft l old new → (x : Line) → Has old x → Has new x ⊎ (printed l ≡ printed x)
has_left_or l old new (inl e, b) x h = inl (subst (λ (w : List Line). Has w x) (sym e) h)
has_left_or l old new (inr k, b) x h = elim (subst (λ (w : List Line). Has w x) k.1 h) [ inl s ↦ inr (sym k.2 ∙ ap printed s) | inr n ↦ inl n ]

pub record IsJoining (first second a b done : List Line) : Type 0 where
  pub a_order : AreInOrder a
  pub b_order : AreInOrder b
  pub a_has : (l : Line) → Has a l → Has first l
  pub b_has : (l : Line) → Has b l → Has second l
  pub done_has : (l : Line) → Has done l → IsOfEither first second l
  pub all : (l : Line) → IsOfEither first second l → IsOfEither a b l ⊎ HasText done (printed l)
  pub order : AreInOrder done
  pub after : (l : Line) → IsOfEither a b l → AreBefore (printed l) done

pub joining_none : (first second a b done : List Line) → a ≡ first → b ≡ second → done ≡ [] → AreInOrder first → AreInOrder second → IsJoining first second a b done
joining_none first second a b done e f d g h = record {
  a_order = subst AreInOrder (sym e) g;
  b_order = subst AreInOrder (sym f) h;
  a_has = λ l k. subst (λ (w : List Line). Has w l) e k;
  b_has = λ l k. subst (λ (w : List Line). Has w l) f k;
  done_has = λ l k. absurd (subst (λ (w : List Line). Has w l) d k);
  all = λ l k. inl (elim k [ inl x ↦ inl (subst (λ (w : List Line). Has w l) (sym e) x) | inr y ↦ inr (subst (λ (w : List Line). Has w l) (sym f) y) ]);
  order = subst AreInOrder (sym d) none_in_order;
  after = λ l k. subst (AreBefore (printed l)) (sym d) tt;
}

module _ (first second a b done : List Line) (j : IsJoining first second a b done) where
  pub joining_next : (new rest done_now : List Line) (l : Line) → done_now ≡ done ++ l ∷ [] → IsTakenFirst a b new rest (Some l) → IsJoining first second new rest done_now
  joining_next new rest done_now l e t = subst (IsJoining first second new rest) (sym e) (record {
    a_order = left_order l a new t.1 j.a_order;
    b_order = left_order l b rest t.2 j.b_order;
    a_has = λ x h. j.a_has x (left_has l a new t.1 x h);
    b_has = λ x h. j.b_has x (left_has l b rest t.2 x h);
    done_has = λ x h. elim (has_back done l x h) [ inl d ↦ j.done_has x d | inr s ↦ subst (IsOfEither first second) s (elim t.0 [ inl y ↦ inl (j.a_has l y) | inr y ↦ inr (j.b_has l y) ]) ];
    all = λ x h. elim (j.all x h) [
      | inl k ↦ elim k [
        | inl y ↦ elim (has_left_or l a new t.1 x y) [ inl n ↦ inl (inl n) | inr s ↦ inr (l, has_last done l, s) ]
        | inr y ↦ elim (has_left_or l b rest t.2 x y) [ inl n ↦ inl (inr n) | inr s ↦ inr (l, has_last done l, s) ]
      ]
      | inr k ↦ inr (k.0, has_left done (l ∷ []) k.0 k.1, k.2)
    ];
    order = pushed_in_order done l j.order (j.after l t.0);
    after = λ x h. each_back (λ m. text_order (printed m) (printed x) ≡ Less) done l
        (j.after x (elim h [ inl y ↦ inl (left_has l a new t.1 x y) | inr y ↦ inr (left_has l b rest t.2 x y) ]))
        (elim h [ inl y ↦ each_has (IsBelow l) new x t.1.1 y | inr y ↦ each_has (IsBelow l) rest x t.2.1 y ]);
  })

  pub joined_all : (new rest : List Line) → IsTakenFirst a b new rest None → IsListing (IsOfEither first second) done
  joined_all new rest t = record {
    sound = j.done_has;
    complete = λ l h. elim (j.all l h) [
      | inl k ↦ elim k [ inl x ↦ absurd (subst (λ (w : List Line). Has w l) t.0 x) | inr y ↦ absurd (subst (λ (w : List Line). Has w l) t.1 y) ]
      | inr k ↦ k
    ];
    ordered = j.order;
  }
