-- What the items of a list give.
-- Own: words on lists.
use Rattle.std.specs.Prelude.{List, [], ◌∷◌, ◌++◌}

-- what the items give, one after another
abbrev pub gather : {A B : Type 0} → (A → List B) → List A → List B
gather f [] = []
gather f (x ∷ xs) = f x ++ gather f xs
