use Rattle.std.proofs.Common.{subst}
use Rattle.go_sources.specs.UnitSources.{source_of}
use Rattle.go_typings.specs.PackageWorlds.{over}
use Rattle.go_work.specs.inner.EarlierUnits.{IsFound}
use Rattle.go_work.proofs.earlier.EarlierWorlds.take.Goals as goal

pub returns-in-Some-clause-taken : goal.returns-in-Some-clause-taken
returns-in-Some-clause-taken c = λ bits us w own world b. subst (λ found. IsFound (over bits w) (source_of c.args.«unit».now) found) c.in-Some.is (c.in_ok-first.ensures.taken bits us w own world b.first)

pub returns-in-Some-clause-on : goal.returns-in-Some-clause-on
returns-in-Some-clause-on c = λ bits us b. record { first = c.in_ok-first.ensures.on bits us b.first; second = c.in_ok-second.ensures.on bits us b.second }

pub returns-in-None-clause-taken : goal.returns-in-None-clause-taken
returns-in-None-clause-taken c = λ bits us w own world b. c.in_ok-second.ensures.taken bits us w own world b.second

pub returns-in-None-clause-on : goal.returns-in-None-clause-on
returns-in-None-clause-on c = λ bits us b. record { first = c.in_ok-first.ensures.on bits us b.first; second = c.in_ok-second.ensures.on bits us b.second }
