-- The names that several methods of a type have.
-- Own: words of the contracts inside this crate.
use Rattle.std.specs.Prelude.{◌≡◌, ◌⊎◌, ℕ, List, [], ◌∷◌, map}
use Rattle.go_base.specs.Lists.{Has}
use Rattle.go_declared.specs.MethodTables.{method_name}
use Rattle.go_declared.specs.declared.methods.MethodRow.{MethodRow}
use Rattle.go_typings.specs.Declarations.{Declaration}

-- the name stands at two places or more
abbrev pub StandsTwice : List (List ℕ) → List ℕ → Type 0
StandsTwice [] name = ⊥
StandsTwice (n ∷ ns) name = ((n ≡ name) × Has ns name) ⊎ StandsTwice ns name

-- the names of the methods of these rows
abbrev pub row_names : List Declaration → List MethodRow → List (List ℕ)
row_names ds rows = map (λ r. method_name ds r.number) rows
