use Rattle.std.proofs.Common.{◌≡◌, ◌++◌, drop}
use Rattle.go_nodes.specs.Trees.{texts_of}
use Rattle.go_rules.specs.Asks.{texts}
use Rattle.go_nodes.proofs.names.push_names.Given as goal

abbrev pub invariant-loop-name : goal.invariant-loop-name
invariant-loop-name l = texts_of l.gathered ++ texts (drop l.name-index l.names) ≡ texts_of l.initial.gathered ++ texts l.names
