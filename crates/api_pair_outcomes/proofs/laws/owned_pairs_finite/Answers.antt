use Rattle.api_pair_outcomes.proofs.OwnedPairs.{owned_finite}
use Rattle.api_pair_outcomes.proofs.laws.owned_pairs_finite.Goals as goal

pub returns : goal.returns
returns c = λ old new. owned_finite old new
