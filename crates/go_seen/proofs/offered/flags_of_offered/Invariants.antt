use Rattle.std.proofs.Common.{◌≡◌, map, take}
use Rattle.go_declarations.specs.Listings.{declarations_of}
use Rattle.go_seen.specs.Offered.{offers}
use Rattle.go_seen.proofs.offered.flags_of_offered.Given as goal

abbrev pub invariant-loop-declaration : goal.invariant-loop-declaration
invariant-loop-declaration l = l.flags.items ≡ map (offers l.from_std l.public) (declarations_of (take l.declaration-index l.declarations))
