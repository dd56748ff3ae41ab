use Rattle.std.proofs.Common.{◌≡◌, Option, drop, length}
use Rattle.go_exposed.specs.ExposedDeclarations.{IsExposed}
use Rattle.go_graphs.specs.Flags.{AreFlagsOf}
use Rattle.go_import_uses.proofs.NeededImports.{NeedsFrom}
use Rattle.go_sources.specs.UnitSources.{source_of}
use Rattle.go_syntax.specs.declared.name.Place.{Place}
use Rattle.go_typings.specs.Declarations.{declarations}
use Rattle.go_import_uses.proofs.needed.first_needed.Given as goal

abbrev pub invariant-loop-file : goal.invariant-loop-file
invariant-loop-file l =
    (l.number ≡ l.file-index)
    × (AreFlagsOf (length (declarations (source_of l.«unit»))) (IsExposed (source_of l.«unit»)) l.seen → (r : Option Place) → NeedsFrom (source_of l.«unit») l.file-index (drop l.file-index l.«unit».files) r
    → NeedsFrom (source_of l.«unit») 0 l.«unit».files r)
