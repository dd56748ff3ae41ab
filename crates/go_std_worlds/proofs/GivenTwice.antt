-- What the items of a list give under two relations that agree, and what two lists of used imports that are made alike hold.
use Rattle.std.proofs.Common.{◌≡◌, ℕ, Option, List, [], ◌∷◌, ◌++◌, refl, sym, ◌∙◌, subst, inl, inr}
use Rattle.go_base.specs.Lists.{Has}
use Rattle.go_imports.proofs.Members.{has_last, has_left}
use Rattle.go_imports.specs.Gives.{Gives, none, next, optional}
use Rattle.go_imports.specs.UsedImports.{AreUsed, none as no_use, used, unused, IsNamed, named_as}
use Rattle.go_imports.specs.declared.used_imports.Import.{Import}
use Rattle.go_imports.specs.declared.used_imports.NamedImport.{NamedImport}
use Rattle.go_typings.proofs.Cells.{none_some, some_once}

module _ {A : Type 0} where
  no_last : (xs : List A) (x : A) → [] ≡ xs ++ x ∷ [] → ⊥
  no_last [] x e = absurd (cc)
  no_last (y ∷ xs) x e = absurd (cc)

  head_same : (x y : A) (xs ys : List A) → x ∷ xs ≡ y ∷ ys → (x ≡ y) × (xs ≡ ys)
  head_same x y xs ys e = (cc, cc)

  last_same : (xs ys : List A) (x y : A) → xs ++ x ∷ [] ≡ ys ++ y ∷ [] → (xs ≡ ys) × (x ≡ y)
  last_same [] [] x y e = (refl, (head_same x y [] [] e).0)
  last_same [] (z ∷ ys) x y e = absurd (no_last ys y (head_same x z [] (ys ++ y ∷ []) e).1)
  last_same (w ∷ xs) [] x y e = absurd (no_last xs x (sym (head_same w y (xs ++ x ∷ []) [] e).1))
  last_same (w ∷ xs) (z ∷ ys) x y e =
      let h = head_same w z (xs ++ x ∷ []) (ys ++ y ∷ []) e in
      let r = last_same xs ys x y h.1 in
      ((λ i. h.0 i ∷ r.0 i), r.1)

-- ---- what items give

module _ {A B : Type 0} (R S : A → Option B → Type 0) where
  given_as : {xs zs : List A} {ys ws : List B} → xs ≡ zs → ((x : A) (r s : Option B) → Has xs x → R x r → S x s → r ≡ s) → Gives R xs ys → Gives S zs ws → ys ≡ ws
  given_as e h none none = refl
  given_as e h none (next {xs = zs} x r g k) = absurd (no_last zs x e)
  given_as e h (next {xs = xs} x r g k) none = absurd (no_last xs x (sym e))
  given_as e h (next {xs = xs} x r g k) (next {xs = zs} y s f l) =
      let t = last_same xs zs x y e in
      let rest = given_as t.0 (λ z q o i. h z q o (has_left xs (x ∷ []) z i)) g f in
      let same = h x r s (has_last xs x) k (subst (λ z. S z s) (sym t.1) l) in
      λ i. rest i ++ optional (same i)

  -- items that give the same under both relations give one list
  pub gives_same : {xs : List A} {ys ws : List B} → ((x : A) (r s : Option B) → Has xs x → R x r → S x s → r ≡ s) → Gives R xs ys → Gives S xs ws → ys ≡ ws
  gives_same h g f = given_as refl h g f

-- ---- used imports

module _ (imports : List Import) where
  one_name : (before : List Import) (i : Import) (s t : List ℕ) → IsNamed imports before i s → IsNamed imports before i t → s ≡ t
  one_name before i s t (inl a) (inl b) = some_once s t (sym a ∙ b)
  one_name before i s t (inl a) (inr b) = none_some _ s b.0.0 a
  one_name before i s t (inr a) (inl b) = none_some _ t a.0.0 b
  one_name before i s t (inr a) (inr b) = sym a.0.1 ∙ b.0.1

  module _ (ps qs : List (List ℕ)) (to : (text : List ℕ) → Has ps text → Has qs text) (from : (text : List ℕ) → Has qs text → Has ps text) where
    uses_as : {before after : List Import} {us vs : List NamedImport} → before ≡ after → AreUsed imports ps before us → AreUsed imports qs after vs → us ≡ vs
    uses_as e no_use no_use = refl
    uses_as e no_use (used {before = b} i s a h) = absurd (no_last b i e)
    uses_as e no_use (unused {before = b} i a h) = absurd (no_last b i e)
    uses_as e (used {before = b} i s a h) no_use = absurd (no_last b i (sym e))
    uses_as e (unused {before = b} i a h) no_use = absurd (no_last b i (sym e))
    uses_as e (used {before = b} i s a h) (used {before = c} j t d k) =
        let f = last_same b c i j e in
        let rest = uses_as f.0 a d in
        let named : IsNamed imports b i t = subst (λ (q : List Import × Import). IsNamed imports q.0 q.1 t) (λ n. (sym f.0 n, sym f.1 n)) k.1 in
        let text = one_name b i s t h.1 named in
        λ n. rest n ++ named_as (text n) (f.1 n) ∷ []
    uses_as e (used {before = b} i s a h) (unused {before = c} j d k) =
        let f = last_same b c i j e in
        absurd (k s (to s h.0, subst (λ (q : List Import × Import). IsNamed imports q.0 q.1 s) (λ n. (f.0 n, f.1 n)) h.1))
    uses_as e (unused {before = b} i a h) (used {before = c} j t d k) =
        let f = last_same b c i j e in
        absurd (h t (from t k.0, subst (λ (q : List Import × Import). IsNamed imports q.0 q.1 t) (λ n. (sym f.0 n, sym f.1 n)) k.1))
    uses_as e (unused {before = b} i a h) (unused {before = c} j d k) = uses_as (last_same b c i j e).0 a d

    -- imports that qualifiers name are one list, whatever the order of the qualifiers
    pub uses_same : {before : List Import} {us vs : List NamedImport} → AreUsed imports ps before us → AreUsed imports qs before vs → us ≡ vs
    uses_same a b = uses_as refl a b
