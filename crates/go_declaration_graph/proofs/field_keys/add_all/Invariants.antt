use Rattle.std.proofs.Common.{take}
use Rattle.go_base.specs.Growing.{Grows}
use Rattle.go_leads.specs.inner.Some.{SomeIn}
use Rattle.go_declaration_graph.specs.inner.FieldKeys.{IsKeyOf}
use Rattle.go_declaration_graph.proofs.field_keys.add_all.Given as goal

abbrev pub invariant-loop-name : goal.invariant-loop-name
invariant-loop-name l = Grows (SomeIn IsKeyOf (take l.name-index l.names)) l.initial.keys.keys l.keys.keys
