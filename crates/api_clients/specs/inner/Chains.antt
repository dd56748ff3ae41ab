-- What was typed on the platform before.
use Rattle.std.specs.Prelude.{IfSome}
use Rattle.api_clients.specs.declared.chain.Chain.{Chain}
use Rattle.api_worlds.specs.go_work.TypedUnits.{AreTypedUnits}

-- the packages that are kept were typed together
abbrev pub IsChain : Chain → Type 0
IsChain chain = IfSome chain.typed AreTypedUnits
