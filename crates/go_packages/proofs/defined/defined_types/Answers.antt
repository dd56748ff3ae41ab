use Rattle.std.proofs.Common.{arith}
use Rattle.go_entries.specs.HadEntries.{entries_at}
use Rattle.go_declarations.specs.Listings.{declarations_of}
use Rattle.go_packages.proofs.PlacedNames.{placed_at}
use Rattle.go_packages.proofs.NamedDefined.{defined_next, defined_whole}
use Rattle.go_sources.specs.UnitSources.{source_of}
use Rattle.go_typings.specs.PackageEnvironments.{own_defined}
use Rattle.go_packages.proofs.defined.defined_types.Goals as goal

pub loop-name-preserved : goal.loop-name-preserved
loop-name-preserved c =
    defined_next (own_defined (source_of c.args.unit.now) (entries_at c.args.had.now)) c.args.listed.now c.loop-name.name-index c.name-item.result c.loop-name.types c.push_defined.new.types
    c.loop-name-test.true c.name-item.is c.in_ok-push_defined.ensures c.loop-name.invariant

pub returns : goal.returns
returns c = defined_whole (own_defined (source_of c.args.unit.now) (entries_at c.args.had.now)) c.args.listed.now c.loop-name.name-index c.loop-name.types (let h = c.loop-name-test.false in omega (arith, h)) c.loop-name.invariant

pub push_defined-requires-clause-placed : goal.push_defined-requires-clause-placed
push_defined-requires-clause-placed c = placed_at (declarations_of c.args.declarations.now) c.args.listed.now c.loop-name.name-index c.name-item.result c.loop-name-test.true c.name-item.is c.requires.placed
