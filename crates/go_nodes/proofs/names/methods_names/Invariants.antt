use Rattle.std.proofs.Common.{◌≡◌, ◌++◌, drop}
use Rattle.go_nodes.specs.Trees.{texts_of}
use Rattle.go_rules.specs.Asks.{methods_names}
use Rattle.go_nodes.proofs.names.methods_names.Given as goal

abbrev pub invariant-loop-element : goal.invariant-loop-element
invariant-loop-element l = texts_of l.gathered ++ methods_names (drop l.element-index l.elements) ≡ texts_of l.initial.gathered ++ methods_names l.elements
