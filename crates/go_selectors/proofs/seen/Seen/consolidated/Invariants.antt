use Rattle.std.proofs.Common.{List, [], drop}
use Rattle.go_model.specs.types.Selectors.{Spot}
use Rattle.go_selectors.specs.Search.{Knows}
use Rattle.go_selectors.proofs.Consolidation.{Consolidating}
use Rattle.go_selectors.proofs.seen.Seen.consolidated.Given as goal

abbrev pub invariant-loop-spot : goal.invariant-loop-spot
invariant-loop-spot l = (seen : List Spot) → Knows l.fn.self.once.keys l.fn.self.twice.keys seen [] → Knows l.self.once.keys l.self.twice.keys seen l.kept.items × Consolidating seen l.all.items l.kept.items (drop l.spot-index l.all.items)
