use Rattle.std.proofs.Common.{◌≡◌, ◌++◌, drop}
use Rattle.go_nodes.specs.Trees.{nodes_in}
use Rattle.go_rules.specs.Nodes.{elems_parts}
use Rattle.go_nodes.proofs.trees.Trees.push_interface.Given as goal

abbrev pub invariant-loop-element : goal.invariant-loop-element
invariant-loop-element l = nodes_in l.self ++ elems_parts (drop l.element-index l.elements) ≡ nodes_in l.initial.self ++ elems_parts l.elements
