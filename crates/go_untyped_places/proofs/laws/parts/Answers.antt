use Rattle.go_untyped_places.proofs.PartsInside.{of_part, to_part}
use Rattle.go_untyped_places.proofs.laws.parts.Goals as goal

pub returns-clause-only : goal.returns-clause-only
returns-clause-only c E blocks r s k v h = to_part E blocks r s k h

pub returns-clause-each : goal.returns-clause-each
returns-clause-each c E blocks r s k v h = of_part E blocks r s k h
