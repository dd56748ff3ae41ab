use Rattle.std.proofs.Common.{◌≡◌, take}
use Rattle.go_clients.specs.inner.Told.{lists_of}
use Rattle.go_clients.proofs.bodies.all_blocks.Given as goal

abbrev pub invariant-loop-list : goal.invariant-loop-list
invariant-loop-list l = lists_of l.all ≡ take l.list-index l.lists
