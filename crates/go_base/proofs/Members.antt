-- The members of lists, and those that a test finds.
use Rattle.std.proofs.Common.{◌≡◌, List, [], ◌∷◌, ◌++◌, ◌⊎◌, refl, sym, ap, ◌∙◌, subst, inl, inr, Bool, true, false, ◌||◌}
use mathlib.Core.Bool.{true≢false}
use Rattle.std.specs.List.{list_any}
use Rattle.go_base.specs.Lists.{Has, Each}
use Rattle.go_base.specs.Gathered.{gather}

-- what holds of each item holds of a member
pub each_has : {A : Type 0} (P : A → Type 0) (xs : List A) (x : A) → Each P xs → Has xs x → P x
each_has P [] x h k = absurd k
each_has P (y ∷ xs) x h (inl e) = subst P e h.0
each_has P (y ∷ xs) x h (inr k) = each_has P xs x h.1 k

pub has_split : {A : Type 0} (xs ys : List A) (x : A) → Has (xs ++ ys) x → Has xs x ⊎ Has ys x
has_split [] ys x h = inr h
has_split (y ∷ xs) ys x (inl e) = inl (inl e)
has_split (y ∷ xs) ys x (inr h) = elim (has_split xs ys x h) [ inl a ↦ inl (inr a) | inr b ↦ inr b ]

-- what a list gives is given by one of its items
pub gather_of : {A B : Type 0} (f : A → List B) (xs : List A) (y : B) → Has (gather f xs) y → (x : A) × Has xs x × Has (f x) y
gather_of f [] y h = absurd h
gather_of f (x ∷ xs) y h = elim (has_split (f x) (gather f xs) y h) [ inl a ↦ (x, inl refl, a) | inr b ↦ (let k = gather_of f xs y b in (k.0, inr k.1, k.2)) ]

or_true : (b : Bool) → (b || true) ≡ true
or_true true = refl
or_true false = refl

module _ {A : Type 0} (same : A → A → Bool) where
  -- a key that is found is a member
  module _ (is : (a b : A) → same a b ≡ true → a ≡ b) where
    here_or_on : (k x : A) (xs : List A) (b : Bool) → same k x ≡ b → (b || list_any (same k) xs) ≡ true → (list_any (same k) xs ≡ true → Has xs k) → Has (x ∷ xs) k
    here_or_on k x xs true e h rest = inl (sym (is k x e))
    here_or_on k x xs false e h rest = inr (rest h)

    pub found_has : (xs : List A) (k : A) → list_any (same k) xs ≡ true → Has xs k
    found_has [] k h = absurd (true≢false (sym h))
    found_has (x ∷ xs) k h = here_or_on k x xs (same k x) refl h (found_has xs k)

  -- a member is found
  module _ (itself : (a : A) → same a a ≡ true) where
    pub has_found : (xs : List A) (k : A) → Has xs k → list_any (same k) xs ≡ true
    has_found [] k h = absurd h
    has_found (x ∷ xs) k (inl e) = ap (λ b. b || list_any (same k) xs) (ap (same k) e ∙ itself k)
    has_found (x ∷ xs) k (inr h) = ap (λ b. same k x || b) (has_found xs k h) ∙ or_true (same k x)
