-- Look-ups in ascending lists.
use Rattle.std.proofs.Common.{◌≡◌, ◌<◌, ◌≤◌, ◌+◌, ◌-◌, ◌/◌, ℕ, zero, suc, List, [], ◌∷◌, ◌++◌, map, length, take, drop, get_or, refl, sym, ap, ◌∙◌, subst, inl, inr, arith, Bool, true, false, Option, Some, None, if◌then◌else◌}
use mathlib.Core.Bool.{true≢false}
use Rattle.std.specs.Str.{bytes_eq}
use Rattle.std.proofs.lemmas.Slice.Eq.{bytes_eq-Decides}
use Rattle.std.specs.Ordering.{nat_cmp, is_lt, is_eq, ordering_reverse}
use Rattle.std.specs.declared.cmp.Ordering.{Ordering}
use Rattle.std.specs.declared.cmp.Ordering.TheVariants.{Less, Equal, Greater}
use Rattle.std.specs.Cmp.Lexicographic.{slice_cmp}
use Rattle.std.specs.FinMap.{slice_cmp-IsAntisymmetric, nat_cmp-IsAntisymmetric}
use Rattle.std.proofs.lemmas.Cmp.{nat_list_cmp_total}
use Rattle.std.proofs.lemmas.List.{take_more, take-append-drop, drop_all}
use Rattle.std.proofs.lemmas.Map.Text.{is_eq-slice_cmp}
use Rattle.go_base.specs.Lists.{Has, Each, Before, Ascending}
use Rattle.go_base.specs.Keys.{first_with, item_of, placed, PlaceFor}
use Rattle.std.specs.Prelude.{IfSome}
use denote.Ref.{Bor}
use Rattle.go_base.proofs.Members.{has_split}

abbrev order : List ℕ → List ℕ → Ordering
order = slice_cmp nat_cmp

less_of : (o : Ordering) → is_lt o ≡ true → o ≡ Less
less_of Less e = refl
less_of Equal e = absurd (true≢false (sym e))
less_of Greater e = absurd (true≢false (sym e))

abbrev pub Below : List ℕ → List ℕ → Type 0
Below k x = order x k ≡ Less

abbrev pub Above : List ℕ → List ℕ → Type 0
Above k x = order x k ≡ Greater

-- a text that comes before or after another is another
other_less : (x k : List ℕ) → order x k ≡ Less → bytes_eq x k ≡ false
other_less x k h = sym (is_eq-slice_cmp x k) ∙ ap is_eq h

other_greater : (x k : List ℕ) → order x k ≡ Greater → bytes_eq x k ≡ false
other_greater x k h = sym (is_eq-slice_cmp x k) ∙ ap is_eq h

less_less : (x y k : List ℕ) → order x y ≡ Less → order y k ≡ Less → order x k ≡ Less
less_less x y k a b = nat_list_cmp_total.trans x y k a b

greater_less : (x y k : List ℕ) → order y x ≡ Less → order y k ≡ Greater → order x k ≡ Greater
greater_less x y k a b = nat_list_cmp_total.antisymm x k ∙ ap ordering_reverse (less_less k y x (nat_list_cmp_total.antisymm k y ∙ ap ordering_reverse b) a)

module _ {A : Type 0} (key : A → List ℕ) where
  pub first_none : (xs : List A) (k : List ℕ) → ((x : A) → Has xs x → bytes_eq (key x) k ≡ false) → first_with key xs k ≡ None
  first_none [] k h = refl
  first_none (x ∷ xs) k h = ap (λ b. if b then Some x else first_with key xs k) (h x (inl refl)) ∙ first_none xs k (λ y i. h y (inr i))

  first_skip : (xs ys : List A) (k : List ℕ) → ((x : A) → Has xs x → bytes_eq (key x) k ≡ false) → first_with key (xs ++ ys) k ≡ first_with key ys k
  first_skip [] ys k h = refl
  first_skip (x ∷ xs) ys k h = ap (λ b. if b then Some x else first_with key (xs ++ ys) k) (h x (inl refl)) ∙ first_skip xs ys k (λ y i. h y (inr i))

  each_key : (x : List ℕ) (xs : List A) (y : A) → Each (Before x) (map key xs) → Has xs y → order x (key y) ≡ Less
  each_key x [] y e h = absurd h
  each_key x (z ∷ xs) y e (inl s) = less_of (order x (key y)) (subst (λ (w : A). Before x (key w)) s e.0)
  each_key x (z ∷ xs) y e (inr h) = each_key x xs y e.1 h

  before_item : (xs ys : List A) (x y : A) → Ascending (map key (xs ++ x ∷ ys)) → Has xs y → order (key y) (key x) ≡ Less
  before_item [] ys x y a h = absurd h
  before_item (z ∷ xs) ys x y a (inl s) = subst (λ (w : A). order (key w) (key x) ≡ Less) s (each_key (key z) (xs ++ x ∷ ys) x a.0 (has_middle xs ys x))
    where
      has_middle : (xs ys : List A) (x : A) → Has (xs ++ x ∷ ys) x
      has_middle [] ys x = inl refl
      has_middle (w ∷ xs) ys x = inr (has_middle xs ys x)
  before_item (z ∷ xs) ys x y a (inr h) = before_item xs ys x y a.1 h

  after_item : (xs ys : List A) (x y : A) → Ascending (map key (xs ++ x ∷ ys)) → Has ys y → order (key x) (key y) ≡ Less
  after_item [] ys x y a h = each_key (key x) ys y a.0 h
  after_item (z ∷ xs) ys x y a h = after_item xs ys x y a.1 h

  drop_suc : (i : ℕ) (xs : List A) (d : A) → i < length xs → drop i xs ≡ get_or xs i d ∷ drop (suc i) xs
  drop_suc i [] d h = absurd (omega arith)
  drop_suc zero (x ∷ xs) d h = refl
  drop_suc (suc i) (x ∷ xs) d h = drop_suc i xs d (omega arith)

  module _ (items : List A) (k : List ℕ) where
    -- an item with the key stands neither before nor after
    pub record Narrowed (low high : ℕ) : Type 0 where
      pub rises : low ≤ high
      pub within : high ≤ length items
      pub before : (x : A) → Has (take low items) x → order (key x) k ≡ Less
      pub after : (x : A) → Has (drop high items) x → order (key x) k ≡ Greater

    pub narrowed_all : Narrowed 0 (length items)
    narrowed_all = record { rises = omega arith; within = omega arith; before = λ x h. absurd h; after = λ x h. absurd (subst (λ (w : List A). Has w x) (drop_all (length items) items (omega arith)) h) }

    pub narrowed_none : (low high : ℕ) → high ≤ low → Narrowed low high → None ≡ first_with key items k
    narrowed_none low high h n = sym (first_none items k each)
      where
        each : (x : A) → Has items x → bytes_eq (key x) k ≡ false
        each x i = elim (has_split (take low items) (drop low items) x (subst (λ (w : List A). Has w x) (sym (take-append-drop low items)) i)) [
          | inl a ↦ other_less (key x) k (n.before x a)
          | inr b ↦ other_greater (key x) k (n.after x (subst (λ (m : ℕ). Has (drop m items) x) (omega (arith, n.rises)) b))
        ]

    module _ (ordered : Ascending (map key items)) (low high middle : ℕ) (x : A) (n : Narrowed low high) (in_range : middle < high) (is : x ≡ get_or items middle x) where
      short : middle < length items
      short = omega (arith, n.within)

      parted : items ≡ take middle items ++ x ∷ drop (middle + 1) items
      parted = sym (take-append-drop middle items) ∙ ap (λ w. take middle items ++ w) (drop_suc middle items x short ∙ ap (λ (y : A). y ∷ drop (suc middle) items) (sym is) ∙ ap (λ (m : ℕ). x ∷ drop m items) (let e : suc middle ≡ middle + 1 = omega arith in e))

      sorted : Ascending (map key (take middle items ++ x ∷ drop (middle + 1) items))
      sorted = subst (λ (w : List A). Ascending (map key w)) parted ordered

      pub narrowed_less : order (key x) k ≡ Less → Narrowed (middle + 1) high
      narrowed_less h = record {
        rises = omega arith;
        within = n.within;
        before = λ y i. elim (has_split (take middle items) (x ∷ []) y (subst (λ (w : List A). Has w y) (take_more items middle x short ∙ ap (λ z. take middle items ++ z ∷ []) (sym is)) i)) [
          | inl a ↦ less_less (key y) (key x) k (before_item (take middle items) (drop (middle + 1) items) x y sorted a) h
          | inr b ↦ elim b [ inl s ↦ subst (λ (w : A). order (key w) k ≡ Less) s h | inr e ↦ absurd e ]
        ];
        after = n.after;
      }

      pub narrowed_greater : low ≤ middle → order (key x) k ≡ Greater → Narrowed low middle
      narrowed_greater r h = record {
        rises = r;
        within = omega (arith, n.within);
        before = n.before;
        after = λ y i. elim (has_split (x ∷ []) (drop (middle + 1) items) y (subst (λ (w : List A). Has w y) (drop_suc middle items x short ∙ ap (λ (z : A). z ∷ drop (suc middle) items) (sym is) ∙ ap (λ (m : ℕ). x ∷ drop m items) (let e : suc middle ≡ middle + 1 = omega arith in e)) i)) [
          | inl b ↦ elim b [ inl s ↦ subst (λ (w : A). order (key w) k ≡ Greater) s h | inr e ↦ absurd e ]
          | inr a ↦ greater_less (key y) (key x) k (after_item (take middle items) (drop (middle + 1) items) x y sorted a) h
        ];
      }

      pub narrowed_equal : order (key x) k ≡ Equal → Some x ≡ first_with key items k
      narrowed_equal h = sym (ap (λ (w : List A). first_with key w k) parted ∙ first_skip (take middle items) (x ∷ drop (middle + 1) items) k (λ y i. other_less (key y) k (subst (λ (w : List ℕ). order (key y) w ≡ Less) same (before_item (take middle items) (drop (middle + 1) items) x y sorted i))) ∙ ap (λ b. if b then Some x else first_with key (drop (middle + 1) items) k) (sym (is_eq-slice_cmp (key x) k) ∙ ap is_eq h))
        where
          same : key x ≡ k
          same = slice_cmp-IsAntisymmetric nat_cmp-IsAntisymmetric (key x) k h

-- the place for a key, narrowed down
module _ {A : Type 0} (key : A → List ℕ) (items : List A) (k : List ℕ) where
  -- the key comes before no item in front of the place, and before each item behind it
  pub record Parted (low high : ℕ) : Type 0 where
    pub rises : low ≤ high
    pub within : high ≤ length items
    pub before : (x : A) → Has (take low items) x → is_lt (order k (key x)) ≡ false
    pub after : (x : A) → Has (drop high items) x → is_lt (order k (key x)) ≡ true

  pub parted_all : Parted 0 (length items)
  parted_all = record { rises = omega arith; within = omega arith; before = λ x h. absurd h; after = λ x h. absurd (subst (λ (w : List A). Has w x) (drop_all (length items) items (omega arith)) h) }

  not_less : (x y : List ℕ) (b : Bool) → is_lt (order k x) ≡ b → order x y ≡ Less → is_lt (order k y) ≡ false → b ≡ false
  not_less x y true e l h = absurd (true≢false (sym (ap is_lt (less_less k x y (less_of (order k x) e) l)) ∙ h))
  not_less x y false e l h = refl

  module _ (ordered : Ascending (map key items)) (low high middle : ℕ) (x : A) (p : Parted low high) (in_range : middle < high) (is : x ≡ get_or items middle x) where
    fits : middle < length items
    fits = omega (arith, p.within)

    split_middle : drop middle items ≡ x ∷ drop (middle + 1) items
    split_middle = drop_suc key middle items x fits ∙ ap (λ (y : A). y ∷ drop (suc middle) items) (sym is) ∙ ap (λ (m : ℕ). x ∷ drop m items) (let e : suc middle ≡ middle + 1 = omega arith in e)

    in_order : Ascending (map key (take middle items ++ x ∷ drop (middle + 1) items))
    in_order = subst (λ (w : List A). Ascending (map key w)) (sym (take-append-drop middle items) ∙ ap (λ w. take middle items ++ w) split_middle) ordered

    pub parted_later : is_lt (order k (key x)) ≡ false → Parted (middle + 1) high
    parted_later h = record {
      rises = omega arith;
      within = p.within;
      before = λ y i. elim (has_split (take middle items) (x ∷ []) y (subst (λ (w : List A). Has w y) (take_more items middle x fits ∙ ap (λ z. take middle items ++ z ∷ []) (sym is)) i)) [
        | inl a ↦ not_less (key y) (key x) (is_lt (order k (key y))) refl (before_item key (take middle items) (drop (middle + 1) items) x y in_order a) h
        | inr b ↦ elim b [ inl s ↦ subst (λ (w : A). is_lt (order k (key w)) ≡ false) s h | inr e ↦ absurd e ]
      ];
      after = p.after;
    }

    pub parted_sooner : low ≤ middle → is_lt (order k (key x)) ≡ true → Parted low middle
    parted_sooner r h = record {
      rises = r;
      within = omega (arith, p.within);
      before = p.before;
      after = λ y i. elim (has_split (x ∷ []) (drop (middle + 1) items) y (subst (λ (w : List A). Has w y) split_middle i)) [
        | inl b ↦ elim b [ inl s ↦ subst (λ (w : A). is_lt (order k (key w)) ≡ true) s h | inr e ↦ absurd e ]
        | inr a ↦ ap is_lt (less_less k (key x) (key y) (less_of (order k (key x)) h) (after_item key (take middle items) (drop (middle + 1) items) x y in_order a))
      ];
    }

  placed_front : (y : A) (xs : List A) → ((x : A) → Has xs x → is_lt (order (key y) (key x)) ≡ true) → placed key y xs ≡ y ∷ xs
  placed_front y [] h = refl
  placed_front y (x ∷ xs) h = ap (λ b. if b then y ∷ x ∷ xs else x ∷ placed key y xs) (h x (inl refl))

  placed_between : (y : A) (xs ys : List A) → ((x : A) → Has xs x → is_lt (order (key y) (key x)) ≡ false) → ((x : A) → Has ys x → is_lt (order (key y) (key x)) ≡ true) → placed key y (xs ++ ys) ≡ xs ++ y ∷ ys
  placed_between y [] ys h more = placed_front y ys more
  placed_between y (x ∷ xs) ys h more = ap (λ b. if b then y ∷ x ∷ (xs ++ ys) else x ∷ placed key y (xs ++ ys)) (h x (inl refl)) ∙ ap (λ w. x ∷ w) (placed_between y xs ys (λ z i. h z (inr i)) more)

  pub parted_place : (low high : ℕ) → high ≤ low → Parted low high → PlaceFor key items k low
  parted_place low high h p = (
    omega (arith, p.within),
    λ y e. ap (placed key y) (sym (take-append-drop low items))
        ∙ placed_between y (take low items) (drop low items)
        (λ x i. ap (λ w. is_lt (order w (key x))) e ∙ p.before x i)
        (λ x i. ap (λ w. is_lt (order w (key x))) e ∙ p.after x (subst (λ (m : ℕ). Has (drop m items) x) (let s : low ≡ high = omega (arith, p.rises) in s) i)),
  )

pub below_high : (low high : ℕ) → low < high → low + (high - low) / 2 < high
below_high low high a = omega arith

pub above_low : (low high : ℕ) → low ≤ low + (high - low) / 2
above_low low high = omega arith

-- what holds of each item holds of the one that was found
picked : {A : Type 0} (P : A → Type 0) (x y : A) (rest : Option A) (b : Bool) → P y → (Some x ≡ rest → P x) → Some x ≡ (if b then Some y else rest) → P x
picked P x y rest true h f e = subst P (let i : y ≡ x = cc in i) h
picked P x y rest false h f e = f e

pub each_first : {A : Type 0} (key : A → List ℕ) (P : A → Type 0) (xs : List A) (k : List ℕ) (x : A) → Some x ≡ first_with key xs k → Each P xs → P x
each_first {A} key P [] k x e h = absurd (cc)
each_first {A} key P (y ∷ ys) k x e h = picked P x y (first_with key ys k) (bytes_eq (key y) k) h.0 (λ s. each_first key P ys k x s h.1) e

-- the same of an item that a look-up gave
pub each_item : {A : Type 0} (key : A → List ℕ) (P : A → Type 0) (xs : List A) (k : List ℕ) (r : Option (Bor A)) → item_of r ≡ first_with key xs k → Each P xs → IfSome r (λ x. P x.now)
each_item key P xs k None e h = tt
each_item key P xs k (Some x) e h = each_first key P xs k x.now e h

key_picked : {A : Type 0} (key : A → List ℕ) (k : List ℕ) (x y : A) (rest : Option A) (b : Bool) → bytes_eq (key y) k ≡ b → Some x ≡ (if b then Some y else rest) → (Some x ≡ rest → key x ≡ k) → key x ≡ k
key_picked key k x y rest true h e f = ap key (let i : x ≡ y = cc in i) ∙ (bytes_eq-Decides (key y) k).0 h
key_picked key k x y rest false h e f = f e

-- what was found by a key has it
pub first_key : {A : Type 0} (key : A → List ℕ) (xs : List A) (k : List ℕ) (x : A) → Some x ≡ first_with key xs k → key x ≡ k
first_key key [] k x e = absurd (cc)
first_key key (y ∷ ys) k x e = key_picked key k x y (first_with key ys k) (bytes_eq (key y) k) refl e (first_key key ys k x)
