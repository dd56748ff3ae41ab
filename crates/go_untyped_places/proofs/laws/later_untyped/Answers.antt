use Rattle.go_untyped_places.proofs.PlacesInside.{later_place}
use Rattle.go_untyped_places.proofs.laws.later_untyped.Goals as goal

pub returns : goal.returns
returns c E blocks r s t x xs p l a = later_place E blocks r s x t l xs p a
