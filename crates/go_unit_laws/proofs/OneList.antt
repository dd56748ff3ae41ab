-- Units in canonical order are one list.
use Rattle.std.proofs.Common.{◌≡◌, ◌⊎◌, ℕ, ◌<◌, Bool, true, false, List, [], ◌∷◌, ◌++◌, length, map, refl, sym, ap, ◌∙◌, subst, inl, inr, arith}
use mathlib.Core.Bool.{true≢false}
use mathlib.Core.Logic.{∥∥₁_elim}
use Rattle.std.specs.Ordering.{is_lt, ordering_reverse}
use Rattle.std.specs.Str.{bytes_eq}
use Rattle.std.specs.declared.cmp.Ordering.{Ordering}
use Rattle.std.specs.declared.cmp.Ordering.TheVariants.{Less, Equal, Greater}
use Rattle.std.proofs.lemmas.Cmp.{nat_list_cmp_total}
use Rattle.std.proofs.lemmas.Slice.Eq.{bytes_eq-Decides}
use Rattle.go_base.specs.Lists.{Before, Has}
use Rattle.go_imports.proofs.GrowingSets.{order, texts_tie}
use Rattle.go_imports.proofs.Members.{below_or, has_last, has_left}
use Rattle.go_unit_laws.proofs.Snocs.{longer}
use Rattle.go_unit_laws.specs.WrittenUnits.{Written, written}
use Rattle.go_units.specs.UnitFacts.{needed_by}
use Rattle.go_units.specs.UnitOrders.{AreInOrder, InOrder, none, next, IsMet, IsNextUnit, Stands}
use Rattle.go_units.specs.declared.unit.«Unit».{«Unit» as PackageUnit}

abbrev pub path_in : PackageUnit → List ℕ
path_in u = u.path

abbrev pub paths : List PackageUnit → List (List ℕ)
paths us = map path_in us

-- ---- texts

tied : (x y : List ℕ) (o : Ordering) → order x y ≡ o → (Before x y → ⊥) → (Before y x → ⊥) → x ≡ y
tied x y Less e n m = absurd (n (ap is_lt e))
tied x y Equal e n m = texts_tie x y e
tied x y Greater e n m = absurd (m (ap is_lt (nat_list_cmp_total.antisymm y x ∙ ap ordering_reverse e)))

pub neither_before : (x y : List ℕ) → (Before x y → ⊥) → (Before y x → ⊥) → x ≡ y
neither_before x y n m = tied x y (order x y) refl n m

text_or : (x y : List ℕ) (b : Bool) → bytes_eq x y ≡ b → (x ≡ y) ⊎ (x ≡ y → ⊥)
text_or x y true e = inl ((bytes_eq-Decides x y).0 e)
text_or x y false e = inr (λ s. true≢false (sym ((bytes_eq-Decides x y).1 s) ∙ e))

pub texts_or : (xs ys : List (List ℕ)) → (xs ≡ ys) ⊎ (xs ≡ ys → ⊥)
texts_or [] [] = inl refl
texts_or [] (y ∷ ys) = inr (λ e. cc)
texts_or (x ∷ xs) [] = inr (λ e. cc)
texts_or (x ∷ xs) (y ∷ ys) = elim (text_or x y (bytes_eq x y) refl) [
  | inl e ↦ elim (texts_or xs ys) [ inl f ↦ inl (λ i. e i ∷ f i) | inr n ↦ inr (λ g. n (let h : xs ≡ ys = cc in h)) ]
  | inr n ↦ inr (λ g. n (let h : x ≡ y = cc in h))
]

-- ---- units that stand

stands_path : (us : List PackageUnit) (path : List ℕ) → Stands us path → Has (paths us) path
stands_path [] path s = absurd s.1
stands_path (u ∷ us) path (v, inl e, p) = inl (ap path_in e ∙ p)
stands_path (u ∷ us) path (v, inr h, p) = inr (stands_path us path (v, h, p))

path_stands : (us : List PackageUnit) (path : List ℕ) → Has (paths us) path → Stands us path
path_stands [] path h = absurd h
path_stands (u ∷ us) path (inl e) = (u, inl refl, e)
path_stands (u ∷ us) path (inr h) = let s = path_stands us path h in (s.0, inr s.1, s.2)

stands_as : (us vs : List PackageUnit) (path : List ℕ) → paths us ≡ paths vs → Stands us path → Stands vs path
stands_as us vs path e s = path_stands vs path (subst (λ (w : List (List ℕ)). Has w path) e (stands_path us path s))

same_needs : (u v : PackageUnit) → written u ≡ written v → u.needs ≡ v.needs
same_needs u v e = u.needed ∙ ap (λ (w : Written). needed_by w.files) e ∙ sym v.needed

met_as : (us vs : List PackageUnit) (u v : PackageUnit) → paths us ≡ paths vs → written u ≡ written v → IsMet us u → IsMet vs v
met_as us vs u v e w m path h = stands_as us vs path e (m path (subst (λ (ps : List (List ℕ)). Has ps path) (sym (same_needs u v w)) h))

path_of_written : (u v : PackageUnit) → written u ≡ written v → u.path ≡ v.path
path_of_written u v e = ap (λ (w : Written). w.path) e

map_back : (us : List PackageUnit) (u : PackageUnit) → paths (us ++ u ∷ []) ≡ paths us ++ u.path ∷ []
map_back [] u = refl
map_back (v ∷ us) u = ap (λ (w : List (List ℕ)). v.path ∷ w) (map_back us u)

module _ (a b : List PackageUnit) (to : (u : PackageUnit) → Has a u → (v : PackageUnit) × Has b v × (written v ≡ written u)) (from : (v : PackageUnit) → Has b v → (u : PackageUnit) × Has a u × (written u ≡ written v)) where
  -- no unit of one list that is next in its order comes before that of the other
  not_before : (c d : List PackageUnit) (across : (u : PackageUnit) → Has c u → (v : PackageUnit) × Has d v × (written v ≡ written u)) (s t : List PackageUnit) (u v : PackageUnit)
      → paths s ≡ paths t → Has c u → IsNextUnit (λ w. Has c w) s u → IsNextUnit (λ w. Has d w) t v → Before u.path v.path → ⊥
  not_before c d across s t u v e h i j l =
      let k = across u h in
      let same : u.path ≡ k.0.path = sym (path_of_written k.0 u k.2) in
      j.least k.0 k.1
      (λ f. i.fresh (subst (Stands s) (sym same) (stands_as t s k.0.path (sym e) f)))
      (met_as s t u k.0 e (sym k.2) i.met)
      (subst (λ (p : List ℕ). Before p v.path) same l)

  same_at : {s t : List PackageUnit} → InOrder (λ w. Has a w) s → InOrder (λ w. Has b w) t → ((x : PackageUnit) → Has s x → Has a x) → ((x : PackageUnit) → Has t x → Has b x) → length s ≡ length t → paths s ≡ paths t
  same_at none none f g e = refl
  same_at none (next {standing = t} {u = v} o i) f g e = absurd (omega (arith, e, longer t v))
  same_at (next {standing = s} {u = u} o i) none f g e = absurd (omega (arith, e, longer s u))
  same_at (next {standing = s} {u = u} o i) (next {standing = t} {u = v} p j) f g e =
      let before : paths s ≡ paths t = same_at o p (λ x h. f x (has_left s (u ∷ []) x h)) (λ x h. g x (has_left t (v ∷ []) x h)) (omega (arith, e, longer s u, longer t v)) in
      let here : u.path ≡ v.path = neither_before u.path v.path (not_before a b to s t u v before (f u (has_last s u)) i j) (not_before b a from t s v u (sym before) (g v (has_last t v)) j i) in
      map_back s u ∙ (λ k. before k ++ here k ∷ []) ∙ sym (map_back t v)

-- a list that is whole is no shorter than another
never_longer : (a b : List PackageUnit) (to : (u : PackageUnit) → Has a u → (v : PackageUnit) × Has b v × (written v ≡ written u)) (from : (v : PackageUnit) → Has b v → (u : PackageUnit) × Has a u × (written u ≡ written v))
    → InOrder (λ w. Has a w) a → {t : List PackageUnit} → InOrder (λ w. Has b w) t → ((x : PackageUnit) → Has t x → Has b x) → length a < length t → ⊥
never_longer a b to from o none g less = omega (arith, less)
never_longer a b to from o (next {standing = t} {u = v} p j) g less = elim (below_or (length a) (length t)) [
  | inl more ↦ never_longer a b to from o p (λ x h. g x (has_left t (v ∷ []) x h)) more
  | inr rest ↦
      let same : paths a ≡ paths t = same_at a b to from o p (λ x h. h) (λ x h. g x (has_left t (v ∷ []) x h)) (omega (arith, rest, less, longer t v)) in
      let k = from v (g v (has_last t v)) in
      j.fresh (stands_as a t v.path same (k.0, k.1, path_of_written k.0 v k.2))
]

module _ (a b : List PackageUnit) (to : (u : PackageUnit) → Has a u → (v : PackageUnit) × Has b v × (written v ≡ written u)) (from : (v : PackageUnit) → Has b v → (u : PackageUnit) × Has a u × (written u ≡ written v)) where
  one_paths : AreInOrder a → AreInOrder b → paths a ≡ paths b
  one_paths o p = elim (below_or (length a) (length b)) [
    | inl less ↦ absurd (never_longer a b to from o p (λ x h. h) less)
    | inr rest ↦ elim (below_or (length b) (length a)) [
      | inl less ↦ absurd (never_longer b a from to p o (λ x h. h) less)
      | inr more ↦ same_at a b to from o p (λ x h. h) (λ x h. h) (omega (arith, rest, more))
    ]
  ]

  never : IsProp ⊥
  never x y = absurd x

  pub same_paths : ∥ AreInOrder a ∥₁ → ∥ AreInOrder b ∥₁ → paths a ≡ paths b
  same_paths o p = elim (texts_or (paths a) (paths b)) [
    | inl e ↦ e
    | inr n ↦ absurd (∥∥₁_elim o never (λ x. ∥∥₁_elim p never (λ y. n (one_paths x y))))
  ]

pub all_written : (xs ys : List PackageUnit) → paths xs ≡ paths ys → ((u v : PackageUnit) → Has xs u → Has ys v → u.path ≡ v.path → written u ≡ written v) → map written xs ≡ map written ys
all_written [] [] e f = refl
all_written [] (y ∷ ys) e f = absurd (cc)
all_written (x ∷ xs) [] e f = absurd (cc)
all_written (x ∷ xs) (y ∷ ys) e f =
    let first : written x ≡ written y = f x y (inl refl) (inl refl) (let h : x.path ≡ y.path = cc in h) in
    let rest : map written xs ≡ map written ys = all_written xs ys (let h : paths xs ≡ paths ys = cc in h) (λ u v h k. f u v (inr h) (inr k)) in
    λ i. first i ∷ rest i
