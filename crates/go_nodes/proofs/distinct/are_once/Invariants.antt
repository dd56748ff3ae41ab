use Rattle.std.proofs.Common.{drop}
use Rattle.go_nodes.specs.Trees.{texts_of}
use Rattle.go_nodes.proofs.DistinctNames.{OnceFrom}
use Rattle.go_nodes.proofs.distinct.are_once.Given as goal

abbrev pub invariant-loop-name : goal.invariant-loop-name
invariant-loop-name l = OnceFrom l.seen.keys (texts_of (drop l.name-index l.names)) (texts_of l.names)
