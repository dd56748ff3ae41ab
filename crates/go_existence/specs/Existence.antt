-- That something exists, though nothing need find it; and that only finitely many things have a property.
-- Own: words of the laws. A double negation stands for existence, since the laws use no axiom.
use Rattle.std.specs.Prelude.{◌≡◌, ℕ, List}
use Rattle.go_base.specs.Lists.{Has}

-- it can't be that there is none
abbrev pub NotNone : Type 0 → Type 0
NotNone A = (A → ⊥) → ⊥

-- some list has all things with the property
abbrev pub AreFinite : {A : Type 0} → (A → Type 0) → Type 0
AreFinite {A} P = NotNone ((xs : List A) × ((x : A) → P x → Has xs x))

-- exactly the things with the property
pub record AreAll {A : Type 0} (P : A → Type 0) (xs : List A) : Type 0 where
  pub sound : (x : A) → Has xs x → P x
  pub complete : (x : A) → P x → Has xs x

-- things with the property, and for each one of them one with its text
pub record AreAllTexts {A : Type 0} (text : A → List ℕ) (P : A → Type 0) (xs : List A) : Type 0 where
  pub sound : (x : A) → Has xs x → P x
  pub complete : (x : A) → P x → (y : A) × Has xs y × (text y ≡ text x)
