use Rattle.std.proofs.Common.{drop}
use Rattle.go_literals.proofs.KeyNames.{OnceFrom}
use Rattle.go_literals.proofs.once.are_keyed_once.Given as goal

abbrev pub invariant-loop-element : goal.invariant-loop-element
invariant-loop-element l = OnceFrom l.seen.keys (drop l.element-index l.elements) l.elements
