use Rattle.go_untyped_places.proofs.PlacesInside.{first_place}
use Rattle.go_untyped_places.proofs.laws.first_untyped.Goals as goal

pub returns : goal.returns
returns c E blocks r s x xs p n a = first_place E blocks r s x n xs p a
