use Rattle.std.proofs.Common.{◌≡◌, ◌++◌, drop}
use Rattle.go_nodes.specs.Trees.{nodes_in}
use Rattle.go_rules.specs.Nodes.{parameter_parts}
use Rattle.go_nodes.proofs.trees.Trees.push_parameters.Given as goal

abbrev pub invariant-loop-decl : goal.invariant-loop-decl
invariant-loop-decl l = nodes_in l.self ++ parameter_parts (drop l.decl-index l.decls) ≡ nodes_in l.initial.self ++ parameter_parts l.decls
