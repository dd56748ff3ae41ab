-- Names that are borrowed one by one, where there is one.
-- Own: words of the contracts.
use Rattle.std.specs.Prelude.{List, map, Option, None, Some}
use denote.Ref.{Bor}
use Rattle.go_syntax.specs.declared.name.Name.{Name}

abbrev pub name_in : Option (Bor Name) → Option Name
name_in None = None
name_in (Some n) = Some n.now

abbrev pub names_in : List (Option (Bor Name)) → List (Option Name)
names_in ns = map name_in ns
