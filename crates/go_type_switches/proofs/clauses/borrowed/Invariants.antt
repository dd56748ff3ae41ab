use Rattle.std.proofs.Common.{◌≡◌, ◌++◌, drop}
use Rattle.go_nodes.specs.Trees.{texts_of}
use Rattle.go_type_switches.proofs.clauses.borrowed.Given as goal

abbrev pub invariant-loop-text : goal.invariant-loop-text
invariant-loop-text l = texts_of l.names ++ drop l.text-index l.texts ≡ l.texts
