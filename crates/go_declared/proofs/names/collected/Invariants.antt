use Rattle.std.proofs.Common.{◌≡◌, take, []}
use Rattle.go_declarations.specs.Listings.{declarations_of}
use Rattle.go_declared.specs.inner.Adding.{with_declarations}
use Rattle.go_declared.proofs.names.collected.Given as goal

abbrev pub invariant-loop-number : goal.invariant-loop-number
invariant-loop-number l = l.entries.items ≡ with_declarations [] 0 (declarations_of (take l.number l.declarations))
