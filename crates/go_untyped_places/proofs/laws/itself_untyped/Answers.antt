use Rattle.go_untyped_places.proofs.PlacesInside.{itself_place}
use Rattle.go_untyped_places.proofs.laws.itself_untyped.Goals as goal

pub returns : goal.returns
returns c E blocks r s x n typed = itself_place E blocks r s x n typed
