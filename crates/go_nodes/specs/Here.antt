-- What a tree by itself is asked, apart from its parts.
-- Public source: Go specification, "Struct types", "Interface types", "Map types" and "Function types".
use Rattle.go_rules.specs.Asks.{AreDistinctNames, TypeMeets, signature_names}
use Rattle.go_rules.specs.Environments.{Env}
use Rattle.go_rules.specs.Nodes.{Node, expression, post, value, type, signature}
use Rattle.go_syntax.specs.declared.types.«Type».{«out-Type» as out-Typ}

-- what a tree by itself is asked is met
abbrev pub MeetsHere : Env → Node → Type 0
MeetsHere E (expression e) = Unit {0}
MeetsHere E (post p) = Unit {0}
MeetsHere E (value v) = Unit {0}
MeetsHere E (type t) = TypeMeets E (out-Typ t)
MeetsHere E (signature g) = AreDistinctNames (signature_names g)
