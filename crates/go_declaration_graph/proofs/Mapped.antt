-- The members of lists that are mapped or filtered, or that a test finds.
use Rattle.std.proofs.Common.{◌≡◌, Bool, true, false, List, [], ◌∷◌, map, refl, ap, sym, ◌∙◌, inl, inr}
use mathlib.Core.Bool.{true≢false}
use Rattle.std.specs.List.{list_any}
use Rattle.std.specs.Prelude.{filter, if◌then◌else◌}
use Rattle.go_base.specs.Lists.{Has}
use Rattle.go_typings.proofs.Cells.{or_false}

pub has_map : {A B : Type 0} (f : A → B) (xs : List A) (x : A) → Has xs x → Has (map f xs) (f x)
has_map f [] x h = absurd h
has_map f (y ∷ xs) x (inl e) = inl (ap f e)
has_map f (y ∷ xs) x (inr h) = inr (has_map f xs x h)

pub map_has : {A B : Type 0} (f : A → B) (xs : List A) (y : B) → Has (map f xs) y → (x : A) × Has xs x × (f x ≡ y)
map_has f [] y h = absurd h
map_has f (x ∷ xs) y (inl e) = (x, inl refl, e)
map_has f (x ∷ xs) y (inr h) = let k = map_has f xs y h in (k.0, inr k.1, k.2)

-- a member that passes a test is one of those that do
pub filter_has : {A : Type 0} (p : A → Bool) (xs : List A) (x : A) → Has xs x → p x ≡ true → Has (filter p xs) x
filter_has p [] x h e = absurd h
filter_has p (y ∷ xs) x h e = choose (p y) refl (λ k. filter_has p xs x k e) h
  where
    choose : (b : Bool) → p y ≡ b → (Has xs x → Has (filter p xs) x) → Has (y ∷ xs) x → Has (if b then y ∷ filter p xs else filter p xs) x
    choose true f more (inl s) = inl s
    choose true f more (inr k) = inr (more k)
    choose false f more (inl s) = absurd (true≢false (sym e ∙ sym (ap p s) ∙ f))
    choose false f more (inr k) = more k

pub filter_passes : {A : Type 0} (p : A → Bool) (xs : List A) (x : A) → Has (filter p xs) x → p x ≡ true
filter_passes p [] x h = absurd h
filter_passes p (y ∷ xs) x h = choose (p y) refl (λ k. filter_passes p xs x k) h
  where
    choose : (b : Bool) → p y ≡ b → (Has (filter p xs) x → p x ≡ true) → Has (if b then y ∷ filter p xs else filter p xs) x → p x ≡ true
    choose true f more (inl s) = sym (ap p s) ∙ f
    choose true f more (inr k) = more k
    choose false f more k = more k

-- where no member passes a test, one doesn't
pub not_any : {A : Type 0} (p : A → Bool) (xs : List A) (x : A) → list_any p xs ≡ false → Has xs x → p x ≡ false
not_any p [] x e h = absurd h
not_any p (y ∷ xs) x e (inl q) = sym (ap p q) ∙ (or_false (p y) (list_any p xs) e).0
not_any p (y ∷ xs) x e (inr h) = not_any p xs x (or_false (p y) (list_any p xs) e).1 h
