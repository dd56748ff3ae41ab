-- The names of a declaration that is left out, but for the first.
use Rattle.std.specs.Prelude.{ℕ, List, [], ◌∷◌, ◌++◌}

-- names, each behind a comma and a blank
abbrev pub names_behind : List (List ℕ) → List ℕ
names_behind [] = []
names_behind (n ∷ ns) = 44 ∷ 32 ∷ n ++ names_behind ns
