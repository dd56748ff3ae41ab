use Rattle.std.proofs.Common.{◌≡◌, ◌++◌, drop}
use Rattle.go_nodes.specs.Trees.{nodes_in}
use Rattle.go_rules.specs.Nodes.{element_parts}
use Rattle.go_nodes.proofs.trees.Trees.push_elements.Given as goal

abbrev pub invariant-loop-element : goal.invariant-loop-element
invariant-loop-element l = nodes_in l.self ++ element_parts (drop l.element-index l.elements) ≡ nodes_in l.initial.self ++ element_parts l.elements
