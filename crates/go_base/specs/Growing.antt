-- Sets that grow, as lists of their members.
-- Own: words on lists.
use Rattle.std.specs.Prelude.{◌≡◌, ◌⊎◌, Bool, true, false, List}
use Rattle.go_base.specs.Lists.{Has}

-- the new list has the members of the old one, and those with the property
pub record Grows {A : Type 0} (P : A → Type 0) (old new : List A) : Type 0 where
  pub sound : (x : A) → Has new x → Has old x ⊎ P x
  pub kept : (x : A) → Has old x → Has new x
  pub complete : (x : A) → P x → Has new x

-- a set got a key; the answer says whether the key is new
pub record Adds {A : Type 0} (old : List A) (key : A) (new : List A) (is_new : Bool) : Type 0 where
  pub grows : Grows (λ x. key ≡ x) old new
  pub fresh : is_new ≡ true → Has old key → ⊥
  pub there : is_new ≡ false → Has old key
