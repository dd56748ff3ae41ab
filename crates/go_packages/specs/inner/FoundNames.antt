-- Where names are declared, as the code has it.
-- Own: words of the contracts inside this crate.
use Rattle.std.specs.Prelude.{◌≡◌, List, [], ◌∷◌, Option, None, Some}
use Rattle.go_declarations.specs.Forms.{form_of}
use Rattle.go_declared.specs.NameTables.{place_of}
use Rattle.go_declared.specs.declared.names.ListedName.{ListedName}
use Rattle.go_packages.specs.declared.found.FoundName.{FoundName}
use Rattle.go_typings.specs.Declarations.{declared, Declaration, Declared}

abbrev pub declared_of : Option FoundName → Option Declared
declared_of None = None
declared_of (Some n) = Some (record { number = n.number; form = form_of n.form; place = n.place })

-- the name is declared at its place
abbrev pub IsPlaced : List Declaration → ListedName → Type 0
IsPlaced ds n = place_of (declared ds n.name.now) ≡ Some n.place

-- each of the names is declared at its place
abbrev pub ArePlaced : List Declaration → List ListedName → Type 0
ArePlaced ds [] = Unit {0}
ArePlaced ds (n ∷ ns) = IsPlaced ds n × ArePlaced ds ns
