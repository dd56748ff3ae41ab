use Rattle.go_untyped_places.proofs.PlacesInside.{holds_untyped, inside_place}
use Rattle.go_untyped_places.proofs.laws.inside_untyped.Goals as goal

pub returns-clause-place : goal.returns-clause-place
returns-clause-place c E blocks r s x v p k a least = inside_place E blocks r s x v p k a least

pub returns-clause-untyped : goal.returns-clause-untyped
returns-clause-untyped c E blocks r s t x v p k a l = holds_untyped E blocks r s x v p k a t l
