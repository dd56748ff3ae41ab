use Rattle.api_forced.proofs.HeldPairs.{held}
use Rattle.api_forced.proofs.laws.held_pairs.Goals as goal

pub returns : goal.returns
returns c = held
