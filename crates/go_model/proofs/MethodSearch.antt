-- A method is found by halving in a list that is ordered by selector.
use Rattle.std.proofs.Common.{◌≡◌, ◌<◌, ◌≤◌, ◌+◌, ℕ, zero, suc, Bool, false, ◌&&◌, List, [], ◌∷◌, ◌++◌, length, map, take, drop, get_or, refl, sym, ap, ◌∙◌, subst, inl, inr, arith, if◌then◌else◌}
use Rattle.std.specs.Cmp.{IsTotalOrder}
use Rattle.std.specs.Cmp.Lexicographic.{on_texts, slice_cmp}
use Rattle.std.specs.List.{AllByRecursion}
use Rattle.std.specs.List.Sorted.{IsStrictlySortedBy}
use Rattle.std.specs.Ordering.{is_eq, nat_cmp, ordering_reverse, ordering_then}
use Rattle.std.specs.Str.{bytes_eq}
use Rattle.std.specs.declared.cmp.Ordering.{Ordering}
use Rattle.std.specs.declared.cmp.Ordering.TheVariants.{Less, Equal, Greater}
use Rattle.std.proofs.lemmas.Cmp.{then_total}
use Rattle.std.proofs.lemmas.List.{take_more, take-append-drop, drop_all}
use Rattle.std.proofs.lemmas.Map.Text.{is_eq-slice_cmp}
use Rattle.go_base.specs.Lists.{Has}
use Rattle.go_base.proofs.Members.{has_split}
use Rattle.go_model.specs.declared.types.names.Sel.{Sel}
use Rattle.go_model.specs.declared.types.package.MethodOf.{MethodOf}
use Rattle.go_model.specs.types.DeclaredMethods.{with_sel}
use Rattle.go_model.specs.types.MethodSets.{sel_order}
use Rattle.go_model.specs.types.Terms.{same_sel}
use Rattle.go_model.specs.worlds.Worlds.{declared_sel}

sels_total : IsTotalOrder sel_order
sels_total = then_total (on_texts (λ (s : Sel). s.name)) (on_texts (λ (s : Sel). s.«package»))

then_is_eq : (o p : Ordering) → is_eq (ordering_then o p) ≡ (is_eq o && is_eq p)
then_is_eq Less p = refl
then_is_eq Equal p = refl
then_is_eq Greater p = refl

-- two selectors compare equal where they are the same
pub eq_same : (a b : Sel) → is_eq (sel_order a b) ≡ same_sel a b
eq_same a b = then_is_eq (slice_cmp nat_cmp a.name b.name) (slice_cmp nat_cmp a.«package» b.«package») ∙ ap (λ x. x && is_eq (slice_cmp nat_cmp a.«package» b.«package»)) (is_eq-slice_cmp a.name b.name) ∙ ap (λ x. bytes_eq a.name b.name && x) (is_eq-slice_cmp a.«package» b.«package»)

compares : (a b : Sel) (o : Ordering) → sel_order a b ≡ o → same_sel a b ≡ is_eq o
compares a b o h = sym (eq_same a b) ∙ ap is_eq h

greater_less : (x y k : Sel) → sel_order y x ≡ Less → sel_order y k ≡ Greater → sel_order x k ≡ Greater
greater_less x y k a b = sels_total.antisymm x k ∙ ap ordering_reverse (sels_total.trans k y x (sels_total.antisymm k y ∙ ap ordering_reverse b) a)

drop_suc : (i : ℕ) (ms : List MethodOf) (d : MethodOf) → i < length ms → drop i ms ≡ get_or ms i d ∷ drop (suc i) ms
drop_suc i [] d h = absurd (omega arith)
drop_suc zero (m ∷ ms) d h = refl
drop_suc (suc i) (m ∷ ms) d h = drop_suc i ms d (omega arith)

-- where no method has the selector, none is with it
with_none : (s : Sel) (ms : List MethodOf) → ((m : MethodOf) → Has ms m → same_sel m.sel s ≡ false) → with_sel s ms ≡ []
with_none s [] h = refl
with_none s (m ∷ ms) h = ap (λ (b : Bool). (if b then m ∷ [] else []) ++ with_sel s ms) (h m (inl refl)) ∙ with_none s ms (λ n k. h n (inr k))

with_skip : (s : Sel) (ms ns : List MethodOf) → ((m : MethodOf) → Has ms m → same_sel m.sel s ≡ false) → with_sel s (ms ++ ns) ≡ with_sel s ns
with_skip s [] ns h = refl
with_skip s (m ∷ ms) ns h = ap (λ (b : Bool). (if b then m ∷ [] else []) ++ with_sel s (ms ++ ns)) (h m (inl refl)) ∙ with_skip s ms ns (λ n k. h n (inr k))

abbrev AreSorted : List MethodOf → Type 0
AreSorted ms = IsStrictlySortedBy sel_order (map declared_sel ms)

each_after : (s : Sel) (ms : List MethodOf) (m : MethodOf) → AllByRecursion (λ y. sel_order s y ≡ Less) (map declared_sel ms) → Has ms m → sel_order s m.sel ≡ Less
each_after s [] m a h = absurd h
each_after s (n ∷ ms) m a (inl e) = subst (λ (x : MethodOf). sel_order s x.sel ≡ Less) e a.0
each_after s (n ∷ ms) m a (inr h) = each_after s ms m a.1 h

has_middle : (ms ns : List MethodOf) (m : MethodOf) → Has (ms ++ m ∷ ns) m
has_middle [] ns m = inl refl
has_middle (n ∷ ms) ns m = inr (has_middle ms ns m)

before_item : (ms ns : List MethodOf) (x m : MethodOf) → AreSorted (ms ++ x ∷ ns) → Has ms m → sel_order m.sel x.sel ≡ Less
unfolding IsStrictlySortedBy
before_item [] ns x m a h = absurd h
before_item (n ∷ ms) ns x m a (inl e) = subst (λ (w : MethodOf). sel_order w.sel x.sel ≡ Less) e (each_after n.sel (ms ++ x ∷ ns) x a.0 (has_middle ms ns x))
before_item (n ∷ ms) ns x m a (inr h) = before_item ms ns x m a.1 h

after_item : (ms ns : List MethodOf) (x m : MethodOf) → AreSorted (ms ++ x ∷ ns) → Has ns m → sel_order x.sel m.sel ≡ Less
unfolding IsStrictlySortedBy
after_item [] ns x m a h = each_after x.sel ns m a.0 h
after_item (n ∷ ms) ns x m a h = after_item ms ns x m a.1 h

module _ (methods : List MethodOf) (s : Sel) where
  -- a method of the selector stands neither before nor after
  pub record Narrowed (low high : ℕ) : Type 0 where
    pub rises : low ≤ high
    pub within : high ≤ length methods
    pub before : (m : MethodOf) → Has (take low methods) m → sel_order m.sel s ≡ Less
    pub after : (m : MethodOf) → Has (drop high methods) m → sel_order m.sel s ≡ Greater

  pub narrowed_all : Narrowed 0 (length methods)
  narrowed_all = record { rises = omega arith; within = omega arith; before = λ m h. absurd h; after = λ m h. absurd (subst (λ (w : List MethodOf). Has w m) (drop_all (length methods) methods (omega arith)) h) }

  pub narrowed_none : (low high : ℕ) → high ≤ low → Narrowed low high → with_sel s methods ≡ []
  narrowed_none low high h n = with_none s methods each
    where
      each : (m : MethodOf) → Has methods m → same_sel m.sel s ≡ false
      each m i = elim (has_split (take low methods) (drop low methods) m (subst (λ (w : List MethodOf). Has w m) (sym (take-append-drop low methods)) i)) [
        | inl a ↦ compares m.sel s Less (n.before m a)
        | inr b ↦ compares m.sel s Greater (n.after m (subst (λ (k : ℕ). Has (drop k methods) m) (omega (arith, n.rises)) b))
      ]

  module _ (sorted : AreSorted methods) (low high middle : ℕ) (x : MethodOf) (n : Narrowed low high) (in_range : middle < high) (is : x ≡ get_or methods middle x) where
    short : middle < length methods
    short = omega (arith, n.within)

    split_middle : drop middle methods ≡ x ∷ drop (middle + 1) methods
    split_middle = drop_suc middle methods x short ∙ ap (λ (m : MethodOf). m ∷ drop (suc middle) methods) (sym is) ∙ ap (λ (k : ℕ). x ∷ drop k methods) (let e : suc middle ≡ middle + 1 = omega arith in e)

    parted : methods ≡ take middle methods ++ x ∷ drop (middle + 1) methods
    parted = sym (take-append-drop middle methods) ∙ ap (λ w. take middle methods ++ w) split_middle

    in_order : AreSorted (take middle methods ++ x ∷ drop (middle + 1) methods)
    in_order = subst AreSorted parted sorted

    pub narrowed_less : sel_order x.sel s ≡ Less → Narrowed (middle + 1) high
    narrowed_less h = record {
      rises = omega arith;
      within = n.within;
      before = λ m i. elim (has_split (take middle methods) (x ∷ []) m (subst (λ (w : List MethodOf). Has w m) (take_more methods middle x short ∙ ap (λ z. take middle methods ++ z ∷ []) (sym is)) i)) [
        | inl a ↦ sels_total.trans m.sel x.sel s (before_item (take middle methods) (drop (middle + 1) methods) x m in_order a) h
        | inr b ↦ elim b [ inl e ↦ subst (λ (w : MethodOf). sel_order w.sel s ≡ Less) e h | inr e ↦ absurd e ]
      ];
      after = n.after;
    }

    pub narrowed_greater : low ≤ middle → sel_order x.sel s ≡ Greater → Narrowed low middle
    narrowed_greater r h = record {
      rises = r;
      within = omega (arith, n.within);
      before = n.before;
      after = λ m i. elim (has_split (x ∷ []) (drop (middle + 1) methods) m (subst (λ (w : List MethodOf). Has w m) split_middle i)) [
        | inl b ↦ elim b [ inl e ↦ subst (λ (w : MethodOf). sel_order w.sel s ≡ Greater) e h | inr e ↦ absurd e ]
        | inr a ↦ greater_less m.sel x.sel s (after_item (take middle methods) (drop (middle + 1) methods) x m in_order a) h
      ];
    }

    -- the method in the middle has the selector, and those around it have others
    pub narrowed_equal : sel_order x.sel s ≡ Equal → with_sel s methods ≡ x ∷ []
    narrowed_equal h =
        ap (with_sel s) parted
        ∙ with_skip s (take middle methods) (x ∷ drop (middle + 1) methods) others
        ∙ ap (λ (b : Bool). (if b then x ∷ [] else []) ++ with_sel s (drop (middle + 1) methods)) (compares x.sel s Equal h)
        ∙ ap (λ w. x ∷ w) (with_none s (drop (middle + 1) methods) more)
      where
        -- what compares to the selector as the method does
        alike : (m : Sel) (o : Ordering) → sel_order x.sel m ≡ o → sel_order s m ≡ o
        alike m o e = sym (sels_total.congr x.sel s m h) ∙ e

        others : (m : MethodOf) → Has (take middle methods) m → same_sel m.sel s ≡ false
        others m i = compares m.sel s Less (sels_total.antisymm m.sel s ∙ ap ordering_reverse (alike m.sel Greater (sels_total.antisymm x.sel m.sel ∙ ap ordering_reverse (before_item (take middle methods) (drop (middle + 1) methods) x m in_order i))))

        more : (m : MethodOf) → Has (drop (middle + 1) methods) m → same_sel m.sel s ≡ false
        more m i = compares m.sel s Greater (sels_total.antisymm m.sel s ∙ ap ordering_reverse (alike m.sel Less (after_item (take middle methods) (drop (middle + 1) methods) x m in_order i)))
