-- Look-ups by a key, and the members of the list.
use Rattle.std.proofs.Common.{◌≡◌, ℕ, List, [], ◌∷◌, map, refl, sym, ap, ◌∙◌, subst, inl, inr, Bool, true, false, Option, Some, None}
use mathlib.Core.Bool.{true≢false}
use Rattle.std.specs.Prelude.{if◌then◌else◌}
use Rattle.std.specs.Str.{bytes_eq}
use Rattle.std.proofs.lemmas.Slice.Eq.{bytes_eq-Decides}
use Rattle.std.proofs.lemmas.Map.Text.{is_eq-slice_cmp}
use Rattle.std.specs.Ordering.{nat_cmp, is_lt, is_eq}
use Rattle.std.specs.declared.cmp.Ordering.{Ordering}
use Rattle.std.specs.declared.cmp.Ordering.TheVariants.{Less, Equal, Greater}
use Rattle.std.specs.Cmp.Lexicographic.{slice_cmp}
use Rattle.go_base.specs.Lists.{Has, Each, Before, Ascending}
use Rattle.go_base.specs.Keys.{first_with}
use Rattle.go_base.proofs.Ordered.{first_key}

less_differs : (o : Ordering) → is_lt o ≡ true → is_eq o ≡ false
less_differs Less h = refl
less_differs Equal h = absurd (true≢false (sym h))
less_differs Greater h = refl

before_differs : (a b : List ℕ) → Before a b → bytes_eq a b ≡ false
before_differs a b h = sym (is_eq-slice_cmp a b) ∙ less_differs (slice_cmp nat_cmp a b) h

module _ {A : Type 0} (key : A → List ℕ) where
  each_of : (P : List ℕ → Type 0) (xs : List A) (x : A) → Each P (map key xs) → Has xs x → P (key x)
  each_of P [] x e h = absurd h
  each_of P (y ∷ xs) x e (inl s) = subst (λ (w : A). P (key w)) s e.0
  each_of P (y ∷ xs) x e (inr h) = each_of P xs x e.1 h

  first_or : (x y : A) (k : List ℕ) (ys : List A) (b : Bool) → Some x ≡ (if b then Some y else first_with key ys k) → (Some x ≡ first_with key ys k → Has ys x) → Has (y ∷ ys) x
  first_or x y k ys true e f = inl (let i : y ≡ x = cc in i)
  first_or x y k ys false e f = inr (f e)

  -- what was found is a member
  pub first_member : (xs : List A) (k : List ℕ) (x : A) → Some x ≡ first_with key xs k → Has xs x
  first_member [] k x e = absurd (cc)
  first_member (y ∷ ys) k x e = first_or x y k ys (bytes_eq (key y) k) e (first_member ys k x)

  -- a member of a list in order is found
  pub member_first : (xs : List A) (x : A) → Ascending (map key xs) → Has xs x → first_with key xs (key x) ≡ Some x
  member_first [] x a h = absurd h
  member_first (y ∷ ys) x a (inl s) = ap (λ b. if b then Some y else first_with key ys (key x)) ((bytes_eq-Decides (key y) (key x)).1 (ap key s)) ∙ ap (λ w. Some w) s
  member_first (y ∷ ys) x a (inr h) = ap (λ b. if b then Some y else first_with key ys (key x)) (before_differs (key y) (key x) (each_of (Before (key y)) ys x a.0 h)) ∙ member_first ys x a.1 h

  -- where nothing is found, no member has the key
  pub none_member : (xs : List A) (k : List ℕ) (x : A) → Ascending (map key xs) → first_with key xs k ≡ None → Has xs x → key x ≡ k → ⊥
  none_member xs k x a e h s = let f = member_first xs x a h ∙ refl in let g : first_with key xs (key x) ≡ None = ap (first_with key xs) s ∙ e in absurd (cc (f, g))

-- the same of texts by themselves
map_self : (xs : List (List ℕ)) → map (λ (t : List ℕ). t) xs ≡ xs
map_self [] = refl
map_self (x ∷ xs) = ap (λ ys. x ∷ ys) (map_self xs)

pub texts_in_order : (xs : List (List ℕ)) → Ascending xs → Ascending (map (λ (t : List ℕ). t) xs)
texts_in_order xs a = subst Ascending (sym (map_self xs)) a

pub text_found : (xs : List (List ℕ)) (k x : List ℕ) → Some x ≡ first_with (λ (t : List ℕ). t) xs k → Has xs k
text_found xs k x e = subst (Has xs) (first_key (λ (t : List ℕ). t) xs k x e) (first_member (λ (t : List ℕ). t) xs k x e)

pub text_absent : (xs : List (List ℕ)) (k : List ℕ) → Ascending xs → None ≡ first_with (λ (t : List ℕ). t) xs k → Has xs k → ⊥
text_absent xs k a e h = none_member (λ (t : List ℕ). t) xs k k (texts_in_order xs a) (sym e) h refl
