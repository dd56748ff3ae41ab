-- The features of packages that were typed, which are kept for packages that are taken over from them.
use Rattle.api_features.specs.Features.{IsFeature}
use Rattle.api_findings.specs.declared.next_lines.FeaturedUnits.{FeaturedUnits}
use Rattle.api_lines.specs.Lines.{IsListing}
use Rattle.api_worlds.specs.go_work.TypedUnits.{AreTypedUnits}

-- they were typed together, and the lines are the features of their world
pub record AreFeatured (f : FeaturedUnits) : Type 0 where
  pub typed : AreTypedUnits f.typed
  pub lines : IsListing (IsFeature f.typed.world) f.lines
