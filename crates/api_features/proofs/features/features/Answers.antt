use Rattle.std.proofs.Common.{ℕ, List, subst}
use Rattle.api_features.specs.Features.{IsFeatureExcept}
use Rattle.api_lines.specs.Lines.{IsListing}
use Rattle.api_features.proofs.FeatureSets.{all_listed}
use Rattle.api_features.proofs.features.features.Goals as goal

pub returns : goal.returns
returns c =
    all_listed c.args.world.now c.in_ok-listed.listed
    (subst (λ (none : List (List ℕ)). IsListing (IsFeatureExcept none c.args.world.now) c.in_ok-listed.listed) c.new-none.ensures c.in_ok-listed.ensures)
