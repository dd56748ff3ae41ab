use Rattle.std.proofs.Common.{take}
use Rattle.std.specs.List.{AllZip}
use Rattle.go_assignments.specs.inner.Sides.{Takes}
use Rattle.go_type_terms.specs.Answers.{env_in}
use Rattle.go_assignments.proofs.sides.are_assigned.Given as goal

abbrev pub invariant-loop-at : goal.invariant-loop-at
invariant-loop-at l = AllZip (Takes (env_in l.context)) (take l.at l.sides) (take l.at l.values)
