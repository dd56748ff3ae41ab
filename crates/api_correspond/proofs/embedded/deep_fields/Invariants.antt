use Rattle.api_correspond.specs.Publics.{types_of}
use Rattle.go_model.specs.types.Selectors.{start}
use Rattle.api_correspond.proofs.Spreading.{Spreads}
use Rattle.api_correspond.proofs.embedded.deep_fields.Given as goal

abbrev pub invariant-loop-at : goal.invariant-loop-at
invariant-loop-at l = Spreads (types_of l.world) (start (types_of l.world) l.term).term l.at l.all.items l.seen.keys l.sels.items
