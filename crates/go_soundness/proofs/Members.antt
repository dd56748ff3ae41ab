-- The members of lists that are joined, filtered or gathered.
use Rattle.std.proofs.Common.{Bool, true, false, List, [], ◌∷◌, ◌++◌, sym, subst, inl, inr}
use Rattle.std.specs.Prelude.{filter, if◌then◌else◌}
use Rattle.go_base.specs.Gathered.{gather}
use Rattle.go_base.specs.Lists.{Has}

pub has_left : {A : Type 0} (xs ys : List A) (x : A) → Has xs x → Has (xs ++ ys) x
has_left [] ys x h = absurd h
has_left (y ∷ xs) ys x (inl e) = inl e
has_left (y ∷ xs) ys x (inr h) = inr (has_left xs ys x h)

pub has_right : {A : Type 0} (xs ys : List A) (x : A) → Has ys x → Has (xs ++ ys) x
has_right [] ys x h = h
has_right (y ∷ xs) ys x h = inr (has_right xs ys x h)

pub gathered : {A B : Type 0} (f : A → List B) (xs : List A) (x : A) (y : B) → Has xs x → Has (f x) y → Has (gather f xs) y
gathered f [] x y h k = absurd h
gathered f (z ∷ xs) x y (inl e) k = has_left (f z) (gather f xs) y (subst (λ w. Has (f w) y) (sym e) k)
gathered f (z ∷ xs) x y (inr h) k = has_right (f z) (gather f xs) y (gathered f xs x y h k)

pub filtered : {A : Type 0} (p : A → Bool) (xs : List A) (x : A) → Has (filter p xs) x → Has xs x
filtered p [] x h = absurd h
filtered p (y ∷ xs) x h = choose (p y) (λ k. filtered p xs x k) h
  where
    choose : (b : Bool) → (Has (filter p xs) x → Has xs x) → Has (if b then y ∷ filter p xs else filter p xs) x → Has (y ∷ xs) x
    choose true f (inl e) = inl e
    choose true f (inr k) = inr (f k)
    choose false f k = inr (f k)
