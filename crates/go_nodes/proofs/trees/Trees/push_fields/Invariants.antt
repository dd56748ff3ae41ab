use Rattle.std.proofs.Common.{◌≡◌, ◌++◌, drop}
use Rattle.go_nodes.specs.Trees.{nodes_in}
use Rattle.go_rules.specs.Nodes.{fields_parts}
use Rattle.go_nodes.proofs.trees.Trees.push_fields.Given as goal

abbrev pub invariant-loop-decl : goal.invariant-loop-decl
invariant-loop-decl l = nodes_in l.self ++ fields_parts (drop l.decl-index l.decls) ≡ nodes_in l.initial.self ++ fields_parts l.decls
