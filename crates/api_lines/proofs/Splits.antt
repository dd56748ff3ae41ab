-- Two lists in order are split from their fronts into the lines that both have, and the others of each.
use Rattle.std.proofs.Common.{◌≡◌, ℕ, ◌<◌, ◌==◌, ◌↔◌, Bool, false, get_or, drop, List, [], ◌∷◌, ◌++◌, length, refl, sym, ap, ◌∙◌, subst, inl, inr, ◌⊎◌, Option, Some, None}
use mathlib.Core.Bool.{true≢false}
use Rattle.std.specs.Prelude.{Decides}
use Rattle.std.specs.Option.{IsSome, option_to_list}
use Rattle.std.specs.Ordering.{ordering_reverse}
use Rattle.std.specs.declared.cmp.Ordering.TheVariants.{Less, Equal, Greater}
use Rattle.std.specs.Cmp.Lexicographic.{nat_list_cmp_total}
use Rattle.go_base.specs.Lists.{Has}
use Rattle.go_base.proofs.Members.{each_has}
use Rattle.api_lines.specs.declared.line.Line.{Line}
use Rattle.api_lines.specs.declared.split.Taken.TheVariants as taken
use Rattle.api_lines.specs.Lines.{printed, AreInOrder, IsOfEither}
use Rattle.api_lines.specs.inner.MergedLines.{AreBefore, AreExactly}
use Rattle.api_lines.specs.inner.Shares.{IsIn, IsNotIn}
use Rattle.api_lines.specs.inner.Splits.{IsSplitFirst, of_both, of_first, of_second}
use Rattle.api_lines.proofs.Growing.{each_back, has_back, has_last, has_left}
use Rattle.api_lines.proofs.Joins.{front_popped, headed, some_of}
use Rattle.api_lines.proofs.LineOrder.{above_first, IsBelow, none_in_order, not_above, not_below_itself, pushed_in_order, rest_in_order}
use Rattle.api_lines.proofs.TextSets.{order, tie_is}

-- ---- one line is taken

in_list : (old new : List Line) (l : Line) → old ≡ new → Has old l → Has new l
in_list old new l e h = subst (λ (w : List Line). Has w l) e h

-- one list is empty
pub split_second : (old more rest : List Line) (r : Option Line) → old ≡ [] → more ≡ option_to_list r ++ rest → (r ≡ None → rest ≡ []) → IsSplitFirst old more old rest (of_second r)
split_second old more rest None e f n = (e, f ∙ n refl)
split_second old more rest (Some l) e f n = (refl, f, (λ h. absurd (in_list old [] l e h)))

pub split_only : (old more new : List Line) (r : Option Line) → more ≡ [] → old ≡ option_to_list r ++ new → (r ≡ None → new ≡ []) → IsSplitFirst old more new more (of_first r)
split_only old more new None e f n = (f ∙ n refl, e)
split_only old more new (Some l) e f n = (f, refl, (λ h. absurd (in_list more [] l e h)))

-- a line that comes before the first one isn't there
below_first : (l m : Line) (ms : List Line) → IsBelow l m → AreInOrder (m ∷ ms) → Has (m ∷ ms) l → ⊥
below_first l m ms e h (inl s) = not_below_itself (printed l) (subst (λ (w : Line). order (printed l) (printed w) ≡ Less) s e)
below_first l m ms e h (inr k) = not_below_itself (printed l) (nat_list_cmp_total.trans (printed l) (printed m) (printed l) e (each_has (IsBelow m) ms l (above_first m ms h) k))

-- another line with the first one's text isn't there
beside_first : (l m : Line) (ms : List Line) → printed l ≡ printed m → (l ≡ m → ⊥) → AreInOrder (m ∷ ms) → Has (m ∷ ms) l → ⊥
beside_first l m ms e n h (inl s) = n (sym s)
beside_first l m ms e n h (inr k) = not_above m l ms h k (sym e)

module _ (old more new rest : List Line) (x y : Line) (n m : ℕ) (no_old no_more : Bool) (is_n : n ≡ length old) (is_m : m ≡ length more) (e : no_old ≡ (n == 0)) (f : no_more ≡ (m == 0)) (old_some : no_old ≡ false) (more_some : no_more ≡ false)
    (is_x : x ≡ get_or old 0 x) (is_y : y ≡ get_or more 0 y) (g : AreInOrder old) (h : AreInOrder more) where
  old_split : old ≡ x ∷ drop 1 old
  old_split = headed old x (subst (λ k. 0 < k) is_n (some_of n no_old e old_some)) is_x

  more_split : more ≡ y ∷ drop 1 more
  more_split = headed more y (subst (λ k. 0 < k) is_m (some_of m no_more f more_some)) is_y

  module _ (r : Option Line) (p : old ≡ option_to_list r ++ new) (v : IsSome r ↔ (0 < n)) where
    old_popped : (r ≡ Some x) × (old ≡ x ∷ new)
    old_popped = front_popped old new x n r (some_of n no_old e old_some) is_x p v

    pub split_less : order (printed x) (printed y) ≡ Less → IsSplitFirst old more new more (of_first r)
    split_less less = subst (λ (w : Option Line). IsSplitFirst old more new more (of_first w)) (sym old_popped.0)
        (old_popped.1, refl, (λ k. below_first x y (drop 1 more) less (subst AreInOrder more_split h) (in_list more (y ∷ drop 1 more) x more_split k)))

    pub split_equal : (same : Bool) → Decides same (x ≡ y) → same ≡ false → order (printed x) (printed y) ≡ Equal → IsSplitFirst old more new more (of_first r)
    split_equal same d is equal = subst (λ (w : Option Line). IsSplitFirst old more new more (of_first w)) (sym old_popped.0)
        (old_popped.1, refl, (λ k. beside_first x y (drop 1 more) (tie_is (printed x) (printed y) equal) (λ s. true≢false (sym (d.1 s) ∙ is)) (subst AreInOrder more_split h) (in_list more (y ∷ drop 1 more) x more_split k)))

    pub split_both : (s : Option Line) → more ≡ option_to_list s ++ rest → IsSome s ↔ (0 < m) → x ≡ y → IsSplitFirst old more new rest (of_both r)
    split_both s q w same = subst (λ (w : Option Line). IsSplitFirst old more new rest (of_both w)) (sym old_popped.0)
        (old_popped.1, (front_popped more rest y m s (some_of m no_more f more_some) is_y q w).1 ∙ ap (λ z. z ∷ rest) (sym same))

  pub split_greater : (s : Option Line) → more ≡ option_to_list s ++ rest → IsSome s ↔ (0 < m) → order (printed x) (printed y) ≡ Greater → IsSplitFirst old more old rest (of_second s)
  split_greater s q w greater =
      let popped = front_popped more rest y m s (some_of m no_more f more_some) is_y q w in
      let less : IsBelow y x = nat_list_cmp_total.antisymm (printed y) (printed x) ∙ ap ordering_reverse greater in
      subst (λ (w : Option Line). IsSplitFirst old more old rest (of_second w)) (sym popped.0)
      (refl, popped.1, (λ k. below_first y x (drop 1 old) less (subst AreInOrder old_split g) (in_list old (x ∷ drop 1 old) y old_split k)))

-- ---- what is split so far

abbrev NotIn : List Line → Line → Type 0
NotIn lines l = Has lines l → ⊥

pub record IsSplitting (first second a b shared leaving rest : List Line) : Type 0 where
  pub a_order : AreInOrder a
  pub b_order : AreInOrder b
  pub a_has : (l : Line) → Has a l → Has first l
  pub b_has : (l : Line) → Has b l → Has second l
  pub shared_is : (l : Line) → Has shared l → Has first l × Has second l
  pub leaving_is : (l : Line) → Has leaving l → Has first l × NotIn second l
  pub rest_is : (l : Line) → Has rest l → Has second l × NotIn first l
  pub first_all : (l : Line) → Has first l → Has a l ⊎ IsOfEither shared leaving l
  pub second_all : (l : Line) → Has second l → Has b l ⊎ IsOfEither shared rest l
  pub shared_order : AreInOrder shared
  pub leaving_order : AreInOrder leaving
  pub rest_order : AreInOrder rest
  pub after_shared : (l : Line) → IsOfEither a b l → AreBefore (printed l) shared
  pub after_leaving : (l : Line) → Has a l → AreBefore (printed l) leaving
  pub after_rest : (l : Line) → Has b l → AreBefore (printed l) rest

pub splitting_none : (first second a b shared leaving rest : List Line) → a ≡ first → b ≡ second → shared ≡ [] → leaving ≡ [] → rest ≡ [] → AreInOrder first → AreInOrder second → IsSplitting first second a b shared leaving rest
splitting_none first second a b shared leaving rest e f s v r g h = record {
  a_order = subst AreInOrder (sym e) g;
  b_order = subst AreInOrder (sym f) h;
  a_has = λ l k. in_list a first l e k;
  b_has = λ l k. in_list b second l f k;
  shared_is = λ l k. absurd (in_list shared [] l s k);
  leaving_is = λ l k. absurd (in_list leaving [] l v k);
  rest_is = λ l k. absurd (in_list rest [] l r k);
  first_all = λ l k. inl (in_list first a l (sym e) k);
  second_all = λ l k. inl (in_list second b l (sym f) k);
  shared_order = subst AreInOrder (sym s) none_in_order;
  leaving_order = subst AreInOrder (sym v) none_in_order;
  rest_order = subst AreInOrder (sym r) none_in_order;
  after_shared = λ l k. subst (AreBefore (printed l)) (sym s) tt;
  after_leaving = λ l k. subst (AreBefore (printed l)) (sym v) tt;
  after_rest = λ l k. subst (AreBefore (printed l)) (sym r) tt;
}

pub splitting_as : (first second a b shared leaving rest s v r : List Line) → s ≡ shared → v ≡ leaving → r ≡ rest → IsSplitting first second a b shared leaving rest → IsSplitting first second a b s v r
splitting_as first second a b shared leaving rest s v r e f g j =
    subst (λ (w : List Line). IsSplitting first second a b w v r) (sym e) (subst (λ (w : List Line). IsSplitting first second a b shared w r) (sym f) (subst (IsSplitting first second a b shared leaving) (sym g) j))

-- a line is no member of lines before it
not_before : (l : Line) (lines : List Line) → AreBefore (printed l) lines → Has lines l → ⊥
not_before l lines b h = not_below_itself (printed l) (each_has (λ m. order (printed m) (printed l) ≡ Less) lines l b h)

-- what comes before a line, and one more, come before a later line
before_next : (lines : List Line) (l m : Line) → AreBefore (printed m) lines → IsBelow l m → AreBefore (printed m) (lines ++ l ∷ [])
before_next lines l m b e = each_back (λ k. order (printed k) (printed m) ≡ Less) lines l b e

module _ (first second a b shared leaving rest : List Line) (j : IsSplitting first second a b shared leaving rest) where
  module _ (new left : List Line) (l : Line) where
    pub splitting_both : (more : List Line) → more ≡ shared ++ l ∷ [] → IsSplitFirst a b new left (taken.Both l) → IsSplitting first second new left more leaving rest
    splitting_both more e t =
        let a_order' : AreInOrder (l ∷ new) = subst AreInOrder t.0 j.a_order in
        let b_order' : AreInOrder (l ∷ left) = subst AreInOrder t.1 j.b_order in
        let a_more : (x : Line) → Has new x → Has a x = λ x h. in_list (l ∷ new) a x (sym t.0) (inr h) in
        let b_more : (x : Line) → Has left x → Has b x = λ x h. in_list (l ∷ left) b x (sym t.1) (inr h) in
        let a_here : Has a l = in_list (l ∷ new) a l (sym t.0) (inl refl) in
        let b_here : Has b l = in_list (l ∷ left) b l (sym t.1) (inl refl) in
        subst (λ (w : List Line). IsSplitting first second new left w leaving rest) (sym e) (record {
          a_order = rest_in_order l new a_order';
          b_order = rest_in_order l left b_order';
          a_has = λ x h. j.a_has x (a_more x h);
          b_has = λ x h. j.b_has x (b_more x h);
          shared_is = λ x h. elim (has_back shared l x h) [ inl k ↦ j.shared_is x k | inr s ↦ subst (λ (w : Line). Has first w × Has second w) s (j.a_has l a_here, j.b_has l b_here) ];
          leaving_is = j.leaving_is;
          rest_is = j.rest_is;
          first_all = λ x h. elim (j.first_all x h) [
            | inl k ↦ elim (in_list a (l ∷ new) x t.0 k) [ inl s ↦ inr (inl (subst (Has (shared ++ l ∷ [])) s (has_last shared l))) | inr n ↦ inl n ]
            | inr k ↦ elim k [ inl s ↦ inr (inl (has_left shared (l ∷ []) x s)) | inr s ↦ inr (inr s) ]
          ];
          second_all = λ x h. elim (j.second_all x h) [
            | inl k ↦ elim (in_list b (l ∷ left) x t.1 k) [ inl s ↦ inr (inl (subst (Has (shared ++ l ∷ [])) s (has_last shared l))) | inr n ↦ inl n ]
            | inr k ↦ elim k [ inl s ↦ inr (inl (has_left shared (l ∷ []) x s)) | inr s ↦ inr (inr s) ]
          ];
          shared_order = pushed_in_order shared l j.shared_order (j.after_shared l (inl a_here));
          leaving_order = j.leaving_order;
          rest_order = j.rest_order;
          after_shared = λ x h. elim h [
            | inl k ↦ before_next shared l x (j.after_shared x (inl (a_more x k))) (each_has (IsBelow l) new x (above_first l new a_order') k)
            | inr k ↦ before_next shared l x (j.after_shared x (inr (b_more x k))) (each_has (IsBelow l) left x (above_first l left b_order') k)
          ];
          after_leaving = λ x h. j.after_leaving x (a_more x h);
          after_rest = λ x h. j.after_rest x (b_more x h);
        })

    pub splitting_first : (more : List Line) → more ≡ leaving ++ l ∷ [] → IsSplitFirst a b new left (taken.First l) → IsSplitting first second new left shared more rest
    splitting_first more e t =
        let a_order' : AreInOrder (l ∷ new) = subst AreInOrder t.0 j.a_order in
        let a_more : (x : Line) → Has new x → Has a x = λ x h. in_list (l ∷ new) a x (sym t.0) (inr h) in
        let b_more : (x : Line) → Has left x → Has b x = λ x h. in_list left b x t.1 h in
        let a_here : Has a l = in_list (l ∷ new) a l (sym t.0) (inl refl) in
        let alone : NotIn second l = λ h. elim (j.second_all l h) [
          | inl k ↦ t.2 k
          | inr k ↦ elim k [ inl s ↦ not_before l shared (j.after_shared l (inl a_here)) s | inr s ↦ (j.rest_is l s).1 (j.a_has l a_here) ]
        ] in
        subst (λ (w : List Line). IsSplitting first second new left shared w rest) (sym e) (record {
          a_order = rest_in_order l new a_order';
          b_order = subst AreInOrder (sym t.1) j.b_order;
          a_has = λ x h. j.a_has x (a_more x h);
          b_has = λ x h. j.b_has x (b_more x h);
          shared_is = j.shared_is;
          leaving_is = λ x h. elim (has_back leaving l x h) [ inl k ↦ j.leaving_is x k | inr s ↦ subst (λ (w : Line). Has first w × NotIn second w) s (j.a_has l a_here, alone) ];
          rest_is = j.rest_is;
          first_all = λ x h. elim (j.first_all x h) [
            | inl k ↦ elim (in_list a (l ∷ new) x t.0 k) [ inl s ↦ inr (inr (subst (Has (leaving ++ l ∷ [])) s (has_last leaving l))) | inr n ↦ inl n ]
            | inr k ↦ elim k [ inl s ↦ inr (inl s) | inr s ↦ inr (inr (has_left leaving (l ∷ []) x s)) ]
          ];
          second_all = λ x h. elim (j.second_all x h) [ inl k ↦ inl (in_list b left x (sym t.1) k) | inr k ↦ inr k ];
          shared_order = j.shared_order;
          leaving_order = pushed_in_order leaving l j.leaving_order (j.after_leaving l a_here);
          rest_order = j.rest_order;
          after_shared = λ x h. elim h [ inl k ↦ j.after_shared x (inl (a_more x k)) | inr k ↦ j.after_shared x (inr (b_more x k)) ];
          after_leaving = λ x h. before_next leaving l x (j.after_leaving x (a_more x h)) (each_has (IsBelow l) new x (above_first l new a_order') h);
          after_rest = λ x h. j.after_rest x (b_more x h);
        })

    pub splitting_second : (more : List Line) → more ≡ rest ++ l ∷ [] → IsSplitFirst a b new left (taken.Second l) → IsSplitting first second new left shared leaving more
    splitting_second more e t =
        let b_order' : AreInOrder (l ∷ left) = subst AreInOrder t.1 j.b_order in
        let a_more : (x : Line) → Has new x → Has a x = λ x h. in_list new a x t.0 h in
        let b_more : (x : Line) → Has left x → Has b x = λ x h. in_list (l ∷ left) b x (sym t.1) (inr h) in
        let b_here : Has b l = in_list (l ∷ left) b l (sym t.1) (inl refl) in
        let alone : NotIn first l = λ h. elim (j.first_all l h) [
          | inl k ↦ t.2 k
          | inr k ↦ elim k [ inl s ↦ not_before l shared (j.after_shared l (inr b_here)) s | inr s ↦ (j.leaving_is l s).1 (j.b_has l b_here) ]
        ] in
        subst (λ (w : List Line). IsSplitting first second new left shared leaving w) (sym e) (record {
          a_order = subst AreInOrder (sym t.0) j.a_order;
          b_order = rest_in_order l left b_order';
          a_has = λ x h. j.a_has x (a_more x h);
          b_has = λ x h. j.b_has x (b_more x h);
          shared_is = j.shared_is;
          leaving_is = j.leaving_is;
          rest_is = λ x h. elim (has_back rest l x h) [ inl k ↦ j.rest_is x k | inr s ↦ subst (λ (w : Line). Has second w × NotIn first w) s (j.b_has l b_here, alone) ];
          first_all = λ x h. elim (j.first_all x h) [ inl k ↦ inl (in_list a new x (sym t.0) k) | inr k ↦ inr k ];
          second_all = λ x h. elim (j.second_all x h) [
            | inl k ↦ elim (in_list b (l ∷ left) x t.1 k) [ inl s ↦ inr (inr (subst (Has (rest ++ l ∷ [])) s (has_last rest l))) | inr n ↦ inl n ]
            | inr k ↦ elim k [ inl s ↦ inr (inl s) | inr s ↦ inr (inr (has_left rest (l ∷ []) x s)) ]
          ];
          shared_order = j.shared_order;
          leaving_order = j.leaving_order;
          rest_order = pushed_in_order rest l j.rest_order (j.after_rest l b_here);
          after_shared = λ x h. elim h [ inl k ↦ j.after_shared x (inl (a_more x k)) | inr k ↦ j.after_shared x (inr (b_more x k)) ];
          after_leaving = λ x h. j.after_leaving x (a_more x h);
          after_rest = λ x h. before_next rest l x (j.after_rest x (b_more x h)) (each_has (IsBelow l) left x (above_first l left b_order') h);
        })

  -- both lists are at their ends
  module _ (new left : List Line) (t : IsSplitFirst a b new left taken.Nothing) where
    pub split_first_all : (l : Line) → Has first l → IsOfEither shared leaving l
    split_first_all l h = elim (j.first_all l h) [ inl k ↦ absurd (in_list a [] l t.0 k) | inr k ↦ k ]

    pub split_second_all : (l : Line) → Has second l → IsOfEither shared rest l
    split_second_all l h = elim (j.second_all l h) [ inl k ↦ absurd (in_list b [] l t.1 k) | inr k ↦ k ]

    pub split_shared : AreExactly (IsIn second first) shared
    split_shared = record {
      sound = j.shared_is;
      complete = λ l k. elim (split_first_all l k.0) [ inl s ↦ s | inr s ↦ absurd ((j.leaving_is l s).1 k.1) ];
      ordered = j.shared_order;
    }

    pub split_leaving : AreExactly (IsNotIn second first) leaving
    split_leaving = record {
      sound = j.leaving_is;
      complete = λ l k. elim (split_first_all l k.0) [ inl s ↦ absurd (k.1 (j.shared_is l s).1) | inr s ↦ s ];
      ordered = j.leaving_order;
    }

    pub split_rest : AreExactly (IsNotIn first second) rest
    split_rest = record {
      sound = j.rest_is;
      complete = λ l k. elim (split_second_all l k.0) [ inl s ↦ absurd (k.1 (j.shared_is l s).0) | inr s ↦ s ];
      ordered = j.rest_order;
    }
