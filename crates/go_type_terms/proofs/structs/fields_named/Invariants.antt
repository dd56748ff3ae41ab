use Rattle.std.proofs.Common.{◌≡◌, take, map, false}
use Rattle.go_rules.specs.Expressions.{field_of}
use Rattle.go_rules.specs.Scopes.{env_of}
use Rattle.go_type_terms.proofs.structs.fields_named.Given as goal

abbrev pub invariant-loop-name : goal.invariant-loop-name
invariant-loop-name l = l.fields ≡ map (field_of (env_of l.env) false l.term l.tag) (take l.name-index l.names)
