use Rattle.std.proofs.Common.{map}
use Rattle.go_model.specs.types.MethodSets.{method_sel}
use Rattle.api_correspond.specs.inner.BySel.{ArePlacesBelow}
use Rattle.api_correspond.proofs.by_sel.method_places.Given as goal

abbrev pub invariant-loop-at : goal.invariant-loop-at
invariant-loop-at l = ArePlacesBelow l.at (map method_sel l.methods) l.places
