-- What was typed on the platform before.
use Rattle.std.specs.Prelude.{IfSome}
use Rattle.api_findings.specs.declared.chain.Chain.{Chain}
use Rattle.api_findings.specs.inner.NextLines.{AreFeatured}
use Rattle.api_worlds.specs.go_work.TypedUnits.{AreTypedUnits}

-- the packages that are kept of either tree were typed together, and those of the first stand beside their features
pub record IsChain (chain : Chain) : Type 0 where
  pub of_first : IfSome chain.of_first AreFeatured
  pub of_second : IfSome chain.of_second AreTypedUnits
