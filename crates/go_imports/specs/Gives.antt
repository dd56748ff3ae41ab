-- Lists that follow from others, item by item.
-- Own: words on lists.
use Rattle.std.specs.Prelude.{Option, Some, None, List, [], ◌∷◌, ◌++◌}

-- an item that may be there, as a list
abbrev pub optional : {A : Type 0} → Option A → List A
optional None = []
optional (Some x) = x ∷ []

-- what the items of a list give, each one or none, in their order
pub data Gives {A B : Type 0} (R : A → Option B → Type 0) : List A → List B → Type 0 where
  none : Gives R [] []
  next : {xs : List A} {ys : List B} (x : A) (r : Option B) → Gives R xs ys → R x r → Gives R (xs ++ x ∷ []) (ys ++ optional r)
