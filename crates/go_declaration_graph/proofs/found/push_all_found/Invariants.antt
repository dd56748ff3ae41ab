use Rattle.std.proofs.Common.{◌≡◌, ◌++◌, drop}
use Rattle.go_base.specs.Gathered.{gather}
use Rattle.go_declaration_graph.specs.inner.FoundNumbers.{found}
use Rattle.go_declaration_graph.proofs.found.push_all_found.Given as goal

abbrev pub invariant-loop-method : goal.invariant-loop-method
invariant-loop-method l = l.row ++ gather (found l.path l.names l.index.tables) (drop l.method-index l.methods) ≡ l.initial.row ++ gather (found l.path l.names l.index.tables) l.methods
