use Rattle.std.proofs.Common.{take}
use Rattle.go_base.specs.Growing.{Grows}
use Rattle.go_leads.specs.inner.Some.{SomeIn}
use Rattle.go_rules.specs.Scopes.{env_of}
use Rattle.go_declaration_graph.specs.inner.FieldKeys.{KeysField}
use Rattle.go_declaration_graph.proofs.field_keys.add_in_each.Given as goal

abbrev pub invariant-loop-tree : goal.invariant-loop-tree
invariant-loop-tree l = Grows (SomeIn (KeysField (env_of l.env)) (take l.tree-index l.trees)) l.initial.keys.keys l.keys.keys
