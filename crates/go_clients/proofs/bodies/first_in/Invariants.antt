use Rattle.std.proofs.Common.{take}
use Rattle.go_clients.proofs.LookedThrough.{Looking}
use Rattle.go_clients.specs.inner.Told.{lists_of}
use Rattle.go_declarations.specs.Listings.{declarations_of}
use Rattle.go_clients.proofs.bodies.first_in.Given as goal

abbrev pub invariant-loop-declaration : goal.invariant-loop-declaration
invariant-loop-declaration l = Looking l.fn.env (lists_of l.all) (declarations_of (take l.declaration-index l.declarations)) l.env l.found
