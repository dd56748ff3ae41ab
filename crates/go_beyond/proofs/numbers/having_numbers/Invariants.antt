use Rattle.go_beyond.specs.Numbers.{HasNumberAt}
use Rattle.go_declarations.specs.Listings.{declarations_of}
use Rattle.go_graphs.specs.Flags.{AreFlagsOf}
use Rattle.go_beyond.proofs.numbers.having_numbers.Given as goal

abbrev pub invariant-loop-number : goal.invariant-loop-number
invariant-loop-number l = AreFlagsOf l.number (HasNumberAt (declarations_of l.declarations)) l.flags.items
