use Rattle.std.proofs.Common.{◌≡◌, ◌∷◌, take}
use Rattle.go_elements.proofs.selections.before.Given as goal

abbrev pub invariant-loop-other : goal.invariant-loop-other
invariant-loop-other l = l.copied ≡ l.term ∷ take l.other-index l.terms
