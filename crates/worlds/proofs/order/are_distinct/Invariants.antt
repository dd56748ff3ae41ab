use Rattle.std.proofs.Common.{drop, map}
use Rattle.go_model.specs.types.Members.{AreDistinct, field_sel}
use Rattle.worlds.proofs.order.are_distinct.Given as goal

abbrev pub invariant-loop-at : goal.invariant-loop-at
invariant-loop-at l = AreDistinct (map field_sel (drop l.at l.fields)) → AreDistinct (map field_sel l.fields)
