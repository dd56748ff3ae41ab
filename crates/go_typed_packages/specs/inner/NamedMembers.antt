-- The names that struct and interface types declare as they are written, where each of these is well formed.
use Rattle.std.specs.Prelude.{◌≡◌, false}
use Rattle.go_base.specs.Lists.{Each}
use Rattle.go_rules.specs.Asks.{AreDistinctNames, fields_names, methods_names}
use Rattle.go_rules.specs.Expressions.{is_blank}
use Rattle.go_rules.specs.Nodes.{Node, Stands, TypeLayer, type}
use Rattle.go_syntax.specs.declared.types.«Type».{«Type-F» as Typ-F, «out-Type» as out-Typ}

-- the names of a struct's fields are distinct, and no method that stands in an interface itself is blank
abbrev pub NamesMembers : TypeLayer → Type 0
NamesMembers (Typ-F.Struct ds) = AreDistinctNames (fields_names ds)
NamesMembers (Typ-F.Interface xs) = Each (λ n. is_blank n ≡ false) (methods_names xs)
NamesMembers l = Unit {0}

abbrev pub NodeNamed : Node → Type 0
NodeNamed (type t) = NamesMembers (out-Typ t)
NodeNamed b = Unit {0}

-- so is it in each type form in a tree
abbrev pub AreNamed : Node → Type 0
AreNamed at = (b : Node) → Stands at b → NodeNamed b
