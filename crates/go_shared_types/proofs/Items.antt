-- Items of lists, and tests that all of them pass.
use Rattle.std.proofs.Common.{◌≡◌, ◌⊎◌, inl, inr, Bool, true, false, List, [], ◌∷◌, ◌++◌, map, refl, sym, ap, subst}
use Rattle.std.specs.Prelude.{if◌then◌else◌}
use Rattle.go_base.specs.Gathered.{gather}
use Rattle.go_base.specs.Lists.{Has, Passes}
use Rattle.go_selectors.proofs.Lists.{has-left, has-right}

pub either : {A B C : Type 0} → A ⊎ B → (A → C) → (B → C) → C
either (inl a) f g = f a
either (inr b) f g = g b

pub only_if : {A : Type 0} (b : Bool) (x y : A) → Has (if b then x ∷ [] else []) y → (b ≡ true) × (x ≡ y)
only_if true x y (inl e) = (refl, e)
only_if true x y (inr k) = absurd k
only_if false x y k = absurd k

pub in_map : {A B : Type 0} (f : A → B) (xs : List A) (x : A) → Has xs x → Has (map f xs) (f x)
in_map f [] x k = absurd k
in_map f (y ∷ ys) x (inl e) = inl (ap f e)
in_map f (y ∷ ys) x (inr k) = inr (in_map f ys x k)

pub of_map : {A B : Type 0} (f : A → B) (xs : List A) (y : B) → Has (map f xs) y → (x : A) × Has xs x × (f x ≡ y)
of_map f [] y k = absurd k
of_map f (x ∷ xs) y (inl e) = (x, inl refl, e)
of_map f (x ∷ xs) y (inr k) = let g = of_map f xs y k in (g.0, inr g.1, g.2)

-- what an item gives is among what all give
pub in_gather : {A B : Type 0} (f : A → List B) (xs : List A) (x : A) (y : B) → Has xs x → Has (f x) y → Has (gather f xs) y
in_gather f [] x y h k = absurd h
in_gather f (z ∷ xs) x y (inl e) k = has-left (f z) (gather f xs) y (subst (λ w. Has (f w) y) (sym e) k)
in_gather f (z ∷ xs) x y (inr h) k = has-right (f z) (gather f xs) y (in_gather f xs x y h k)

pub passes : {A : Type 0} (p : A → Bool) (xs : List A) → ((x : A) → Has xs x → p x ≡ true) → Passes p xs
passes p [] h = tt
passes p (x ∷ xs) h = (h x (inl refl), passes p xs (λ y k. h y (inr k)))

pub passing : {A : Type 0} (p : A → Bool) (xs : List A) (x : A) → Passes p xs → Has xs x → p x ≡ true
passing p [] x h k = absurd k
passing p (y ∷ xs) x h (inl e) = subst (λ z. p z ≡ true) e h.0
passing p (y ∷ xs) x h (inr k) = passing p xs x h.1 k

-- a list whose items all stand in another passes what that passes
pub passes_within : {A : Type 0} (p : A → Bool) (xs ys : List A) → Passes p xs → ((x : A) → Has ys x → Has xs x) → Passes p ys
passes_within p xs ys h k = passes p ys (λ x i. passing p xs x h (k x i))
