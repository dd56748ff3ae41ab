use Rattle.go_exposed.proofs.WholePackages.{none_missing}
use Rattle.go_sources.specs.UnitSources.{source_of}
use Rattle.go_typings.proofs.FoundImports.{are_found}
use Rattle.go_check.proofs.check.needed_import.Goals as goal

pub returns-in-None-clause-none : goal.returns-in-None-clause-none
returns-in-None-clause-none c = let u = source_of c.args.«unit».now in none_missing u (are_found u c.in-None.ensures.none)
