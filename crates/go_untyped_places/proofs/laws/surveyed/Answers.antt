use Rattle.go_untyped_places.proofs.Surveying.{surveyed_place}
use Rattle.go_untyped_places.proofs.laws.surveyed.Goals as goal

pub returns : goal.returns
returns c E blocks r s x a n y = surveyed_place E blocks r s x a n y
