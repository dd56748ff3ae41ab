-- One of two things, and an item of a list that is empty where a test fails.
use Rattle.std.proofs.Common.{◌≡◌, ◌⊎◌, inl, inr, Bool, true, false, [], ◌∷◌, refl}
use Rattle.std.specs.Prelude.{if◌then◌else◌}
use Rattle.go_base.specs.Lists.{Has}

pub either : {A B C : Type 0} → A ⊎ B → (A → C) → (B → C) → C
either (inl a) f g = f a
either (inr b) f g = g b

pub only_if : {A : Type 0} (b : Bool) (x y : A) → Has (if b then x ∷ [] else []) y → (b ≡ true) × (x ≡ y)
only_if true x y (inl e) = (refl, e)
only_if true x y (inr k) = absurd k
only_if false x y k = absurd k
