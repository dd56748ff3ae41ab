use Rattle.std.proofs.Common.{◌≡◌, ◌++◌, drop, map}
use Rattle.go_statement_rules.specs.Scopes.{local_of}
use Rattle.go_local_scopes.proofs.slots.push_entities.Given as goal

abbrev pub invariant-loop-entity : goal.invariant-loop-entity
invariant-loop-entity l = l.meanings ++ map local_of (drop l.entity-index l.entities) ≡ l.initial.meanings ++ map local_of l.entities
