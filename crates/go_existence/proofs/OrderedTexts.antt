-- Finitely many things in the order of their texts.
use Rattle.std.proofs.Common.{◌≡◌, ◌↔◌, ◌⊎◌, ℕ, Bool, true, false, List, [], ◌∷◌, map, refl, sym, ap, ◌∙◌, subst, inl, inr}
use Rattle.std.specs.Ordering.{nat_cmp, is_lt, ordering_reverse}
use Rattle.std.specs.declared.cmp.Ordering.{Ordering}
use Rattle.std.specs.declared.cmp.Ordering.TheVariants.{Less, Equal, Greater}
use Rattle.std.specs.Cmp.Lexicographic.{slice_cmp}
use Rattle.std.specs.FinMap.{slice_cmp-IsAntisymmetric, nat_cmp-IsAntisymmetric}
use mathlib.Core.Bool.{true≢false}
use Rattle.std.specs.Str.{bytes_eq}
use Rattle.std.proofs.lemmas.Slice.Eq.{bytes_eq-Decides}
use Rattle.std.specs.List.{AllByRecursion}
use Rattle.std.specs.List.Sorted.{IsStrictlySortedBy}
use Rattle.std.proofs.lemmas.Cmp.{nat_list_cmp_total}
use Rattle.go_base.specs.Lists.{Has, Each, Ascending, Before}
use Rattle.go_existence.specs.Existence.{AreAll, AreAllTexts, AreFinite, NotNone}
use Rattle.go_existence.proofs.DoubleNegation.{so}
use Rattle.go_existence.proofs.FiniteSets.{all_of}

abbrev order : List ℕ → List ℕ → Ordering
order = slice_cmp nat_cmp

abbrev itself : List ℕ → List ℕ
itself t = t

map_itself : (xs : List (List ℕ)) → map itself xs ≡ xs
map_itself [] = refl
map_itself (x ∷ xs) = ap (λ w. x ∷ w) (map_itself xs)

module _ {A : Type 0} (text : A → List ℕ) where
  abbrev IsBelow : A → A → Type 0
  IsBelow x y = order (text x) (text y) ≡ Less

  -- each text comes before all that follow it
  abbrev pub Rise : List A → Type 0
  Rise [] = Unit {0}
  Rise (x ∷ xs) = Each (IsBelow x) xs × Rise xs

  -- a thing in its place, unless one with its text stands there
  abbrev put_by : Ordering → A → A → List A → List A → List A
  put_by Less x y ys rest = x ∷ y ∷ ys
  put_by Equal x y ys rest = y ∷ ys
  put_by Greater x y ys rest = y ∷ rest

  abbrev put : A → List A → List A
  put x [] = x ∷ []
  put x (y ∷ ys) = put_by (order (text x) (text y)) x y ys (put x ys)

  abbrev put_all : List A → List A
  put_all [] = []
  put_all (x ∷ xs) = put x (put_all xs)

  sound_by : (x y : A) (ys : List A) (z : A) → (Has (put x ys) z → (x ≡ z) ⊎ Has ys z) → (o : Ordering) → Has (put_by o x y ys (put x ys)) z → (x ≡ z) ⊎ Has (y ∷ ys) z
  sound_by x y ys z f Less h = h
  sound_by x y ys z f Equal h = inr h
  sound_by x y ys z f Greater h = elim h [ inl e ↦ inr (inl e) | inr k ↦ elim (f k) [ inl e ↦ inl e | inr l ↦ inr (inr l) ] ]

  put_sound : (x : A) (ys : List A) (z : A) → Has (put x ys) z → (x ≡ z) ⊎ Has ys z
  put_sound x [] z h = h
  put_sound x (y ∷ ys) z h = sound_by x y ys z (put_sound x ys z) (order (text x) (text y)) h

  kept_by : (x y : A) (ys : List A) (z : A) → (Has ys z → Has (put x ys) z) → (o : Ordering) → Has (y ∷ ys) z → Has (put_by o x y ys (put x ys)) z
  kept_by x y ys z f Less h = inr h
  kept_by x y ys z f Equal h = h
  kept_by x y ys z f Greater (inl e) = inl e
  kept_by x y ys z f Greater (inr k) = inr (f k)

  put_kept : (x : A) (ys : List A) (z : A) → Has ys z → Has (put x ys) z
  put_kept x [] z h = absurd h
  put_kept x (y ∷ ys) z h = kept_by x y ys z (put_kept x ys z) (order (text x) (text y)) h

  abbrev IsThere : A → List A → Type 0
  IsThere x zs = (z : A) × Has zs z × (text z ≡ text x)

  there_by : (x y : A) (ys : List A) → IsThere x (put x ys) → (o : Ordering) → order (text x) (text y) ≡ o → IsThere x (put_by o x y ys (put x ys))
  there_by x y ys f Less e = (x, inl refl, refl)
  there_by x y ys f Equal e = (y, inl refl, sym (slice_cmp-IsAntisymmetric nat_cmp-IsAntisymmetric (text x) (text y) e))
  there_by x y ys f Greater e = (f.0, inr f.1, f.2)

  put_there : (x : A) (ys : List A) → IsThere x (put x ys)
  put_there x [] = (x, inl refl, refl)
  put_there x (y ∷ ys) = there_by x y ys (put_there x ys) (order (text x) (text y)) refl

  above_by : (y x z : A) (ys : List A) → IsBelow y x → Each (IsBelow y) (z ∷ ys) → Each (IsBelow y) (put x ys) → (o : Ordering) → Each (IsBelow y) (put_by o x z ys (put x ys))
  above_by y x z ys l h f Less = (l, h)
  above_by y x z ys l h f Equal = h
  above_by y x z ys l h f Greater = (h.0, f)

  put_above : (y x : A) (ys : List A) → IsBelow y x → Each (IsBelow y) ys → Each (IsBelow y) (put x ys)
  put_above y x [] l h = (l, tt)
  put_above y x (z ∷ ys) l h = above_by y x z ys l h (put_above y x ys l h.1) (order (text x) (text z))

  below_all : (x y : A) (ys : List A) → IsBelow x y → Each (IsBelow y) ys → Each (IsBelow x) ys
  below_all x y [] l h = tt
  below_all x y (z ∷ ys) l h = (nat_list_cmp_total.trans (text x) (text y) (text z) l h.0, below_all x y ys l h.1)

  rise_by : (x y : A) (ys : List A) → Rise (y ∷ ys) → Rise (put x ys) → (o : Ordering) → order (text x) (text y) ≡ o → Rise (put_by o x y ys (put x ys))
  rise_by x y ys h f Less e = ((e, below_all x y ys e h.0), h)
  rise_by x y ys h f Equal e = h
  rise_by x y ys h f Greater e = (put_above y x ys (nat_list_cmp_total.antisymm (text y) (text x) ∙ ap ordering_reverse e) h.0, f)

  put_rise : (x : A) (ys : List A) → Rise ys → Rise (put x ys)
  put_rise x [] h = (tt, tt)
  put_rise x (y ∷ ys) h = rise_by x y ys h (put_rise x ys h.1) (order (text x) (text y)) refl

  -- ---- a list in order

  pub put_all_sound : (xs : List A) (z : A) → Has (put_all xs) z → Has xs z
  put_all_sound [] z h = h
  put_all_sound (x ∷ xs) z h = elim (put_sound x (put_all xs) z h) [ inl e ↦ inl e | inr k ↦ inr (put_all_sound xs z k) ]

  pub put_all_there : (xs : List A) (x : A) → Has xs x → (z : A) × Has (put_all xs) z × (text z ≡ text x)
  put_all_there [] x h = absurd h
  put_all_there (y ∷ xs) x (inl e) = let k = put_there y (put_all xs) in (k.0, k.1, k.2 ∙ ap text e)
  put_all_there (y ∷ xs) x (inr h) = let k = put_all_there xs x h in (k.0, put_kept y (put_all xs) k.0 k.1, k.2)

  pub put_all_rise : (xs : List A) → Rise (put_all xs)
  put_all_rise [] = tt
  put_all_rise (x ∷ xs) = put_rise x (put_all xs) (put_all_rise xs)

  -- finitely many things, one of each text, in the order of these
  pub in_order : (P : A → Type 0) → AreFinite P → NotNone ((xs : List A) × AreAllTexts text P xs × Rise xs)
  in_order P h = so (all_of P h) (λ k. (
    put_all k.0,
    record {
      sound = λ x i. k.1.sound x (put_all_sound k.0 x i);
      complete = λ x p. put_all_there k.0 x (k.1.complete x p);
    },
    put_all_rise k.0,
  ))

  -- ---- the same order in other words

  before_each : (x : A) (ys : List A) → Each (IsBelow x) ys → Each (Before (text x)) (map text ys)
  before_each x [] h = tt
  before_each x (y ∷ ys) h = (ap is_lt h.0, before_each x ys h.1)

  pub ascending : (xs : List A) → Rise xs → Ascending (map text xs)
  ascending [] h = tt
  ascending (x ∷ xs) h = (before_each x xs h.0, ascending xs h.1)

  each_text : (x : A) (ys : List A) → Each (IsBelow x) ys → AllByRecursion (λ t. order (text x) t ≡ Less) (map text ys)
  each_text x [] h = tt
  each_text x (y ∷ ys) h = (h.0, each_text x ys h.1)

  pub strictly : (xs : List A) → Rise xs → IsStrictlySortedBy order (map text xs)
  unfolding IsStrictlySortedBy
  strictly [] h = tt
  strictly (x ∷ xs) h = (each_text x xs h.0, strictly xs h.1)

-- texts in ascending order, each once
pub sorted_texts : (texts : List (List ℕ)) → (xs : List (List ℕ)) × Ascending xs × ((t : List ℕ) → Has xs t ↔ Has texts t)
sorted_texts texts = (
  put_all itself texts,
  subst Ascending (map_itself (put_all itself texts)) (ascending itself (put_all itself texts) (put_all_rise itself texts)),
  λ t. (put_all_sound itself texts t, λ h. let k = put_all_there itself texts t h in subst (Has (put_all itself texts)) k.2 k.1),
)

-- finitely many texts are exactly those of an ascending list
pub all_texts : (P : List ℕ → Type 0) → AreFinite P → NotNone ((xs : List (List ℕ)) × AreAll P xs × Ascending xs)
all_texts P h = so (in_order itself P h) (λ k. (
  k.0,
  record {
    sound = k.1.sound;
    complete = λ x p. (let y = k.1.complete x p in subst (Has k.0) y.2 y.1);
  },
  subst Ascending (map_itself k.0) (ascending itself k.0 k.2),
))

-- a text stands in a list, or it doesn't
pub text_or : (xs : List (List ℕ)) (t : List ℕ) → Has xs t ⊎ (Has xs t → ⊥)
text_or [] t = inr (λ h. h)
text_or (x ∷ xs) t = told (bytes_eq x t) refl (text_or xs t)
  where
    told : (b : Bool) → bytes_eq x t ≡ b → Has xs t ⊎ (Has xs t → ⊥) → Has (x ∷ xs) t ⊎ (Has (x ∷ xs) t → ⊥)
    told true e r = inl (inl ((bytes_eq-Decides x t).0 e))
    told false e (inl h) = inl (inr h)
    told false e (inr n) = inr (λ h. elim h [ inl s ↦ true≢false (sym ((bytes_eq-Decides x t).1 s) ∙ e) | inr j ↦ n j ])
