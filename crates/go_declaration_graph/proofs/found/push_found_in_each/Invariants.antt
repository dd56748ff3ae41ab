use Rattle.std.proofs.Common.{take}
use Rattle.go_base.specs.Growing.{Grows}
use Rattle.go_leads.specs.inner.Some.{SomeIn}
use Rattle.go_rules.specs.Scopes.{env_of}
use Rattle.go_declaration_graph.specs.inner.FoundNumbers.{FindsNumberIn}
use Rattle.go_declaration_graph.proofs.found.push_found_in_each.Given as goal

abbrev pub invariant-loop-tree : goal.invariant-loop-tree
invariant-loop-tree l = Grows (SomeIn (FindsNumberIn (env_of l.env) l.names l.index.tables) (take l.tree-index l.trees)) l.initial.row l.row
