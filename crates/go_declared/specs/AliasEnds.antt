-- Tables that tell what declared names are after the aliases of a package.
-- Public source: Go specification, "Alias declarations".
use Rattle.std.specs.Prelude.{◌≡◌, ◌-◌, ℕ, List, length, map, get_or, Option, None, Some}
use denote.Ref.{Bor}
use Rattle.go_base.specs.Keys.{item_of}
use Rattle.go_syntax.specs.declared.name.QualifiedName.{QualifiedName}
use Rattle.go_declarations.specs.go_typings.Declarations.{Declaration}
use Rattle.go_declarations.specs.go_typings.Receivers.{aliased_by, unaliased}

-- the name that a table has for the declaration of a number
abbrev pub name_at : List (Option (Bor QualifiedName)) → ℕ → Option QualifiedName
name_at names n = item_of (get_or names n None)

abbrev pub aliased_name : Declaration → Option QualifiedName
aliased_name d = aliased_by d.form

-- the name that the declaration of a number makes its own an alias of
abbrev pub aliased_at : List Declaration → ℕ → Option QualifiedName
aliased_at ds n = get_or (map aliased_name ds) n None

-- what a name of which another is an alias is after the further aliases of the package
abbrev pub ended : List Declaration → Option QualifiedName → Option QualifiedName
ended ds None = None
ended ds (Some q) = Some (unaliased ds (length ds - 1) q)

-- the table tells of each declaration that is an alias of a name what its own name is after the aliases of the package
abbrev pub AreEnds : List Declaration → List (Option (Bor QualifiedName)) → Type 0
AreEnds ds ends = (n : ℕ) → name_at ends n ≡ ended ds (aliased_at ds n)
