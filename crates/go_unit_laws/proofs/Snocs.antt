-- Lists that are made item by item.
use Rattle.std.proofs.Common.{◌≡◌, ◌+◌, Option, List, [], ◌∷◌, ◌++◌, length, refl, sym, ap, ◌∙◌, append_assoc, arith, length-append}
use Rattle.std.proofs.lemmas.List.{append-nil}
use Rattle.go_imports.specs.Gives.{Gives, none, next, optional}

pub longer : {A : Type 0} (xs : List A) (x : A) → length (xs ++ x ∷ []) ≡ length xs + 1
longer xs x = omega (arith, length-append xs (x ∷ []))

pub not_nothing : {A : Type 0} (xs : List A) (x : A) → [] ≡ xs ++ x ∷ [] → ⊥
not_nothing xs x e = absurd (omega (arith, ap length e, longer xs x))

-- lists with a last item are one where both parts are
pub same_front : {A : Type 0} (xs ys : List A) (x y : A) → xs ++ x ∷ [] ≡ ys ++ y ∷ [] → xs ≡ ys
same_front [] [] x y e = refl
same_front [] (z ∷ ys) x y e = absurd (omega (arith, ap length e, longer ys y))
same_front (z ∷ xs) [] x y e = absurd (omega (arith, ap length e, longer xs x))
same_front (z ∷ xs) (w ∷ ys) x y e =
    let first : z ≡ w = cc in
    let rest : xs ≡ ys = same_front xs ys x y (cc) in
    λ i. first i ∷ rest i

pub same_last : {A : Type 0} (xs ys : List A) (x y : A) → xs ++ x ∷ [] ≡ ys ++ y ∷ [] → x ≡ y
same_last [] [] x y e = cc
same_last [] (z ∷ ys) x y e = absurd (omega (arith, ap length e, longer ys y))
same_last (z ∷ xs) [] x y e = absurd (omega (arith, ap length e, longer xs x))
same_last (z ∷ xs) (w ∷ ys) x y e = same_last xs ys x y (cc)

-- ---- what items give, by two relations that agree

module _ {A B : Type 0} (R : A → Option B → Type 0) where
  pub Front : List A → List B → Type 0
  Front [] ys = ys ≡ []
  Front (x ∷ xs) ys = (r : Option B) × (zs : List B) × R x r × Front xs zs × (ys ≡ optional r ++ zs)

  front_more : (xs : List A) (ys : List B) (x : A) (r : Option B) → Front xs ys → R x r → Front (xs ++ x ∷ []) (ys ++ optional r)
  unfolding Front
  front_more [] ys x r f k = (r, [], k, refl, ap (λ (w : List B). w ++ optional r) f ∙ sym (append-nil (optional r)))
  front_more (z ∷ xs) ys x r f k = (f.0, f.1 ++ optional r, f.2, front_more xs f.1 x r f.3 k, ap (λ (w : List B). w ++ optional r) f.4 ∙ append_assoc (optional f.0) f.1 (optional r))

  pub to_front : {xs : List A} {ys : List B} → Gives R xs ys → Front xs ys
  unfolding Front
  to_front none = refl
  to_front (next {xs = xs} {ys = ys} x r g k) = front_more xs ys x r (to_front g) k

module _ {A B : Type 0} (R S : A → Option B → Type 0) (one : (x : A) (r s : Option B) → R x r → S x s → r ≡ s) where
  front_both : (xs : List A) (ys zs : List B) → Front R xs ys → Front S xs zs → ys ≡ zs
  unfolding Front
  front_both [] ys zs f g = f ∙ sym g
  front_both (x ∷ xs) ys zs f g = f.4 ∙ (λ i. optional (one x f.0 g.0 f.2 g.2 i) ++ front_both xs f.1 g.1 f.3 g.3 i) ∙ sym g.4

  pub gives_both : (xs : List A) (ys zs : List B) → Gives R xs ys → Gives S xs zs → ys ≡ zs
  gives_both xs ys zs g h = front_both xs ys zs (to_front R g) (to_front S h)
