use Rattle.std.proofs.Common.{◌≡◌, take}
use Rattle.go_taken_units.proofs.same.are_same_imports.Given as goal

abbrev pub invariant-loop-number : goal.invariant-loop-number
invariant-loop-number l = take l.number l.others ≡ take l.number l.imports
