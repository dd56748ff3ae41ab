use Rattle.std.proofs.Common.{◌≡◌, ◌++◌, drop}
use Rattle.go_nodes.specs.Trees.{texts_of}
use Rattle.go_rules.specs.Asks.{fields_names}
use Rattle.go_nodes.proofs.names.fields_names.Given as goal

abbrev pub invariant-loop-decl : goal.invariant-loop-decl
invariant-loop-decl l = texts_of l.gathered ++ fields_names (drop l.decl-index l.decls) ≡ texts_of l.initial.gathered ++ fields_names l.decls
