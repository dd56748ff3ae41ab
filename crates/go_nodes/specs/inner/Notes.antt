-- What a name that is seen makes of the names that were seen before.
use Rattle.std.specs.Prelude.{◌≡◌, ℕ, Bool, true, false, List}
use Rattle.go_base.specs.Growing.{Adds}
use Rattle.go_rules.specs.Expressions.{is_blank}

-- the name is put among the others, unless it is the blank one; the answer says whether it is that, or new
pub record Notes (old : List (List ℕ)) (name : List ℕ) (new : List (List ℕ)) (is_first : Bool) : Type 0 where
  pub blank_same : is_blank name ≡ true → new ≡ old
  pub blank_first : is_blank name ≡ true → is_first ≡ true
  pub adds : is_blank name ≡ false → Adds old name new is_first
