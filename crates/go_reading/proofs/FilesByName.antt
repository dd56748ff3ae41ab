-- Files that are put among others by their names.
use Rattle.std.proofs.Common.{◌≡◌, ◌≢◌, ℕ, zero, suc, ◌+◌, ◌<◌, ◌≤◌, Bool, true, false, if◌then◌else◌, List, [], ◌∷◌, ◌++◌, length, take, drop, get_or, refl, sym, ap, ◌∙◌, subst, ◌⊎◌, inl, inr, arith}
use mathlib.Core.Bool.{true≢false}
use Rattle.std.specs.Cmp.Lexicographic.{slice_cmp}
use Rattle.std.specs.FinMap.{slice_cmp-IsAntisymmetric, nat_cmp-IsAntisymmetric}
use Rattle.std.specs.List.{insert}
use Rattle.std.specs.Ordering.{nat_cmp, is_lt, ordering_reverse}
use Rattle.std.specs.declared.cmp.Ordering.{Ordering}
use Rattle.std.specs.declared.cmp.Ordering.TheVariants.{Less, Equal, Greater}
use Rattle.std.proofs.lemmas.Cmp.{nat_list_cmp_total}
use Rattle.std.proofs.lemmas.List.{take_more, take-map, drop-map, drop_all}
use Rattle.go_base.proofs.Lists.{take_past}
use Rattle.go_base.proofs.Members.{has_split, each_has}
use Rattle.go_base.proofs.Ordered.{parted_place}
use Rattle.go_base.specs.Keys.{placed, PlaceFor}
use Rattle.go_base.specs.Lists.{Has, Before}
use Rattle.go_imports.proofs.Members.{get_or_same}
use Rattle.go_model.specs.declared.files.tree.TreeFile.{TreeFile}
use Rattle.go_reading.proofs.ListFacts.{map_more, get_mapped, length_mapped, each_of}
use Rattle.go_reading.specs.FilesByName.{name_of, with_files, by_name, AreByName}
use Rattle.go_reading.specs.inner.Groups.{lent, no_file}
use denote.Ref.{Bor}

abbrev order : List ℕ → List ℕ → Ordering
order = slice_cmp nat_cmp

less_of : (o : Ordering) → is_lt o ≡ true → o ≡ Less
less_of Less e = refl
less_of Equal e = absurd (true≢false (sym e))
less_of Greater e = absurd (true≢false (sym e))

before_before : (a b c : List ℕ) → Before a b → Before b c → Before a c
before_before a b c h k = ap is_lt (nat_list_cmp_total.trans a b c (less_of (order a b) h) (less_of (order b c) k))

pub one_way : (a b : List ℕ) → Before a b → Before b a → ⊥
one_way a b h k = absurd (let e : Less ≡ Greater = sym (less_of (order b a) k) ∙ nat_list_cmp_total.antisymm b a ∙ ap ordering_reverse (less_of (order a b) h) in cc)

-- where k isn't before b and b isn't before a, k isn't before a
not_by : (k a b : List ℕ) (o : Ordering) → order b a ≡ o → (Before b a → ⊥) → (Before k b → ⊥) → Before k a → ⊥
not_by k a b Less e n m h = n (ap is_lt e)
not_by k a b Equal e n m h = m (subst (Before k) (sym (slice_cmp-IsAntisymmetric nat_cmp-IsAntisymmetric b a e)) h)
not_by k a b Greater e n m h = m (before_before k a b h (ap is_lt (nat_list_cmp_total.antisymm a b ∙ ap ordering_reverse e)))

false_of : (b : Bool) → (b ≡ true → ⊥) → b ≡ false
false_of true n = absurd (n refl)
false_of false n = refl

not_true : (b : Bool) → b ≡ false → b ≡ true → ⊥
not_true b e h = true≢false (sym h ∙ e)

placed_by : (f x y : TreeFile) (xs : List TreeFile) (b : Bool) → Has (if b then f ∷ x ∷ xs else x ∷ placed name_of f xs) y → (Has (placed name_of f xs) y → (f ≡ y) ⊎ Has xs y) → (f ≡ y) ⊎ Has (x ∷ xs) y
placed_by f x y xs true (inl e) rest = inl e
placed_by f x y xs true (inr h) rest = inr h
placed_by f x y xs false (inl e) rest = inr (inl e)
placed_by f x y xs false (inr h) rest = elim (rest h) [ inl e ↦ inl e | inr k ↦ inr (inr k) ]

placed_has : (f y : TreeFile) (xs : List TreeFile) → Has (placed name_of f xs) y → (f ≡ y) ⊎ Has xs y
placed_has f y [] (inl e) = inl e
placed_has f y [] (inr h) = absurd h
placed_has f y (x ∷ xs) h = placed_by f x y xs (is_lt (order f.name x.name)) h (placed_has f y xs)

has_by : (f x y : TreeFile) (xs : List TreeFile) (b : Bool) → (f ≡ y) ⊎ Has (x ∷ xs) y → ((f ≡ y) ⊎ Has xs y → Has (placed name_of f xs) y) → Has (if b then f ∷ x ∷ xs else x ∷ placed name_of f xs) y
has_by f x y xs true (inl e) rest = inl e
has_by f x y xs true (inr h) rest = inr h
has_by f x y xs false (inl e) rest = inr (rest (inl e))
has_by f x y xs false (inr (inl e)) rest = inl e
has_by f x y xs false (inr (inr h)) rest = inr (rest (inr h))

has_placed : (f y : TreeFile) (xs : List TreeFile) → (f ≡ y) ⊎ Has xs y → Has (placed name_of f xs) y
has_placed f y [] (inl e) = inl e
has_placed f y [] (inr h) = absurd h
has_placed f y (x ∷ xs) h = has_by f x y xs (is_lt (order f.name x.name)) h (has_placed f y xs)

longer_by : (f x : TreeFile) (xs : List TreeFile) (b : Bool) → length (placed name_of f xs) ≡ suc (length xs) → length (if b then f ∷ x ∷ xs else x ∷ placed name_of f xs) ≡ suc (length (x ∷ xs))
longer_by f x xs true e = refl
longer_by f x xs false e = ap suc e

placed_longer : (f : TreeFile) (xs : List TreeFile) → length (placed name_of f xs) ≡ suc (length xs)
placed_longer f [] = refl
placed_longer f (x ∷ xs) = longer_by f x xs (is_lt (order f.name x.name)) (placed_longer f xs)

sorted_by : (f x : TreeFile) (xs : List TreeFile) (b : Bool) → is_lt (order f.name x.name) ≡ b → AreByName (x ∷ xs) → AreByName (placed name_of f xs) → AreByName (if b then f ∷ x ∷ xs else x ∷ placed name_of f xs)
sorted_by f x xs true e a rest = (
  (one_way f.name x.name e, each_of (λ (g : TreeFile). Before g.name f.name → ⊥) xs (λ g h k. each_has (λ (w : TreeFile). Before w.name x.name → ⊥) xs g a.0 h (before_before g.name f.name x.name k e))),
  a,
)
sorted_by f x xs false e a rest = (
  each_of (λ (g : TreeFile). Before g.name x.name → ⊥) (placed name_of f xs) (λ g h. elim (placed_has f g xs h) [
    | inl s ↦ subst (λ (w : TreeFile). Before w.name x.name → ⊥) s (not_true (is_lt (order f.name x.name)) e)
    | inr k ↦ each_has (λ (w : TreeFile). Before w.name x.name → ⊥) xs g a.0 k
  ]),
  rest,
)

placed_sorted : (f : TreeFile) (xs : List TreeFile) → AreByName xs → AreByName (placed name_of f xs)
placed_sorted f [] a = (tt, tt)
placed_sorted f (x ∷ xs) a = sorted_by f x xs (is_lt (order f.name x.name)) refl a (placed_sorted f xs a.1)

with_sorted : (ys fs : List TreeFile) → AreByName ys → AreByName (with_files ys fs)
with_sorted ys [] a = a
with_sorted ys (f ∷ fs) a = with_sorted (placed name_of f ys) fs (placed_sorted f ys a)

-- files by name stand by name
pub sorted : (fs : List TreeFile) → AreByName (by_name fs)
sorted fs = with_sorted [] fs tt

with_from : (ys fs : List TreeFile) (y : TreeFile) → Has (with_files ys fs) y → Has ys y ⊎ Has fs y
with_from ys [] y h = inl h
with_from ys (f ∷ fs) y h = elim (with_from (placed name_of f ys) fs y h) [ inl k ↦ elim (placed_has f y ys k) [ inl e ↦ inr (inl e) | inr m ↦ inl m ] | inr k ↦ inr (inr k) ]

with_to : (ys fs : List TreeFile) (y : TreeFile) → Has ys y ⊎ Has fs y → Has (with_files ys fs) y
with_to ys [] y (inl h) = h
with_to ys [] y (inr h) = absurd h
with_to ys (f ∷ fs) y (inl h) = with_to (placed name_of f ys) fs y (inl (has_placed f y ys (inr h)))
with_to ys (f ∷ fs) y (inr (inl e)) = with_to (placed name_of f ys) fs y (inl (has_placed f y ys (inl e)))
with_to ys (f ∷ fs) y (inr (inr h)) = with_to (placed name_of f ys) fs y (inr h)

-- they are the same files
pub by_name_from : (fs : List TreeFile) (y : TreeFile) → Has (by_name fs) y → Has fs y
by_name_from fs y h = elim (with_from [] fs y h) [ inl k ↦ absurd k | inr k ↦ k ]

pub by_name_to : (fs : List TreeFile) (y : TreeFile) → Has fs y → Has (by_name fs) y
by_name_to fs y h = with_to [] fs y (inr h)

with_length : (ys fs : List TreeFile) → length (with_files ys fs) ≡ length ys + length fs
with_length ys [] = omega arith
with_length ys (f ∷ fs) = let e = with_length (placed name_of f ys) fs in let l = placed_longer f ys in omega (arith, e, l)

pub by_name_length : (fs : List TreeFile) → length (by_name fs) ≡ length fs
by_name_length fs = let e = with_length [] fs in omega (arith, e)

pub by_name_some : (fs : List TreeFile) → fs ≢ [] → by_name fs ≢ []
by_name_some [] n e = n refl
by_name_some (f ∷ fs) n e = let l = ap length (sym e) ∙ by_name_length (f ∷ fs) in absurd (omega (arith, l))

with_more : (ys fs : List TreeFile) (f : TreeFile) → with_files ys (fs ++ f ∷ []) ≡ placed name_of f (with_files ys fs)
with_more ys [] f = refl
with_more ys (g ∷ fs) f = with_more (placed name_of g ys) fs f

now_of : Bor TreeFile → TreeFile
now_of f = f.now

pub by_name_next : (fs : List (Bor TreeFile)) (i : ℕ) (f : Bor TreeFile) (old new : List TreeFile) → i < length fs → f ≡ get_or fs i f → old ≡ by_name (lent (take i fs)) → new ≡ placed name_of f.now old → new ≡ by_name (lent (take (i + 1) fs))
by_name_next fs i f old new h is o n =
    n ∙ ap (placed name_of f.now) o ∙ sym (with_more [] (lent (take i fs)) f.now)
    ∙ ap by_name (sym (map_more (λ (x : Bor TreeFile). x.now) (take i fs) (f ∷ [])) ∙ ap lent (sym (take_more fs i f h ∙ ap (λ (z : Bor TreeFile). take i fs ++ z ∷ []) (sym is))))

pub by_name_whole : (fs : List (Bor TreeFile)) (i : ℕ) (files : List TreeFile) → length fs ≤ i → files ≡ by_name (lent (take i fs)) → files ≡ by_name (lent fs)
by_name_whole fs i files h e = e ∙ ap (λ (xs : List (Bor TreeFile)). by_name (lent xs)) (take_past i fs h)

pub item_lent : (fs : List (Bor TreeFile)) (i : ℕ) (f : Bor TreeFile) → i < length fs → f ≡ get_or fs i f → f.now ≡ get_or (lent fs) i no_file
item_lent fs i f h is =
    ap (λ (x : Bor TreeFile). x.now) is ∙ sym (get_mapped (λ (x : Bor TreeFile). x.now) fs i f)
    ∙ get_or_same (lent fs) i f.now no_file (let e = length_mapped (λ (x : Bor TreeFile). x.now) fs in omega (arith, e))

-- a file came to its place
pub inserted : (fs new : List (Bor TreeFile)) (at : ℕ) (f : Bor TreeFile) → PlaceFor name_of (lent fs) f.now.name at → new ≡ insert fs at f → lent new ≡ placed name_of f.now (lent fs)
inserted fs new at f p e =
    ap lent e ∙ map_more (λ (x : Bor TreeFile). x.now) (take at fs) (f ∷ drop at fs)
    ∙ (λ i. sym (take-map (λ (x : Bor TreeFile). x.now) at fs) i ++ f.now ∷ sym (drop-map (λ (x : Bor TreeFile). x.now) at fs) i)
    ∙ sym (p.1 f.now refl)

module _ (fs : List TreeFile) (k : List ℕ) where
  -- the name comes before those from a place on
  pub record Behind (at : ℕ) : Type 0 where
    pub within : at ≤ length fs
    pub after : (x : TreeFile) → Has (drop at fs) x → is_lt (order k x.name) ≡ true

  pub behind_all : (n : ℕ) → n ≡ length fs → Behind n
  behind_all n e = record { within = omega (arith, e); after = λ x h. absurd (subst (λ (w : List TreeFile). Has w x) (drop_all n fs (omega (arith, e))) h) }

  drop_at : (n : ℕ) (gs : List TreeFile) (d : TreeFile) → n < length gs → drop n gs ≡ get_or gs n d ∷ drop (suc n) gs
  drop_at n [] d h = absurd (omega arith)
  drop_at zero (x ∷ gs) d h = refl
  drop_at (suc n) (x ∷ gs) d h = drop_at n gs d (omega arith)

  pub behind_next : (at n : ℕ) (f : TreeFile) → suc n ≡ at → f ≡ get_or fs n no_file → is_lt (order k f.name) ≡ true → Behind at → Behind n
  behind_next at n f e is b h = record {
    within = omega (arith, h.within, e);
    after = λ x m. elim (has_split (f ∷ []) (drop at fs) x (subst (λ (w : List TreeFile). Has w x) (drop_at n fs no_file (omega (arith, h.within, e)) ∙ (λ i. sym is i ∷ drop (e i) fs)) m)) [
      | inl t ↦ elim t [ inl s ↦ subst (λ (w : TreeFile). is_lt (order k w.name) ≡ true) s b | inr never ↦ absurd never ]
      | inr t ↦ h.after x t
    ];
  }

  earlier : (xs ys : List TreeFile) (f x : TreeFile) → AreByName (xs ++ f ∷ ys) → Has xs x → Before f.name x.name → ⊥
  earlier [] ys f x a h = absurd h
  earlier (z ∷ xs) ys f x a (inl s) = subst (λ (w : TreeFile). Before f.name w.name → ⊥) s (each_has (λ (g : TreeFile). Before g.name z.name → ⊥) (xs ++ f ∷ ys) f a.0 (middle xs ys f))
    where
      middle : (xs ys : List TreeFile) (f : TreeFile) → Has (xs ++ f ∷ ys) f
      middle [] ys f = inl refl
      middle (w ∷ xs) ys f = inr (middle xs ys f)
  earlier (z ∷ xs) ys f x a (inr h) = earlier xs ys f x a.1 h

  split_here : (n : ℕ) (gs : List TreeFile) (d : TreeFile) → n < length gs → gs ≡ take n gs ++ get_or gs n d ∷ drop (suc n) gs
  split_here n [] d h = absurd (omega arith)
  split_here zero (x ∷ gs) d h = refl
  split_here (suc n) (x ∷ gs) d h = ap (λ (w : List TreeFile). x ∷ w) (split_here n gs d (omega arith))

  pub place_here : (at n : ℕ) (f : TreeFile) → suc n ≡ at → f ≡ get_or fs n no_file → is_lt (order k f.name) ≡ false → AreByName fs → Behind at → PlaceFor name_of fs k at
  place_here at n f e is b a h = parted_place name_of fs k at at (omega arith) (record {
    rises = omega arith;
    within = h.within;
    before = λ x m. elim (has_split (take n fs) (f ∷ []) x (subst (λ (w : List TreeFile). Has w x) (ap (λ (i : ℕ). take i fs) (let s : at ≡ n + 1 = omega (arith, e) in s) ∙ take_more fs n no_file (omega (arith, h.within, e)) ∙ ap (λ (w : TreeFile). take n fs ++ w ∷ []) (sym is)) m)) [
      | inl t ↦ false_of (is_lt (order k x.name)) (not_by k x.name f.name (order f.name x.name) refl
          (earlier (take n fs) (drop (suc n) fs) f x (subst AreByName (split_here n fs no_file (omega (arith, h.within, e)) ∙ ap (λ (w : TreeFile). take n fs ++ w ∷ drop (suc n) fs) (sym is)) a) t)
          (not_true (is_lt (order k f.name)) b))
      | inr t ↦ elim t [ inl s ↦ subst (λ (w : TreeFile). is_lt (order k w.name) ≡ false) s b | inr never ↦ absurd never ]
    ];
    after = h.after;
  })

  pub place_front : (at : ℕ) → at ≤ 0 → Behind at → PlaceFor name_of fs k at
  place_front at z h = parted_place name_of fs k at at (omega arith) (record {
    rises = omega arith;
    within = h.within;
    before = λ x m. absurd (subst (λ (i : ℕ). Has (take i fs) x) (let s : at ≡ 0 = omega (arith, z) in s) m);
    after = h.after;
  })
