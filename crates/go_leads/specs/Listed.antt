-- Names that are borrowed, and lists of all that a fact holds of.
-- Own: words of the contracts.
use Rattle.std.specs.Prelude.{◌↔◌, List, map}
use denote.Ref.{Bor}
use Rattle.go_base.specs.Lists.{Has}
use Rattle.go_syntax.specs.declared.name.Name.{Name}

abbrev pub name_of : Bor Name → Name
name_of name = name.now

-- the names that were borrowed
abbrev pub names_of : List (Bor Name) → List Name
names_of names = map name_of names

-- the list has exactly what the fact holds of
abbrev pub Lists : {A : Type 0} → (A → Type 0) → List A → Type 0
Lists {A} P xs = (x : A) → Has xs x ↔ P x
