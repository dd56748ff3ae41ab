use Rattle.std.proofs.Common.{Option, drop, length}
use Rattle.go_exposed.specs.ExposedDeclarations.{IsExposed}
use Rattle.go_graphs.specs.Flags.{AreFlagsOf}
use Rattle.go_import_uses.specs.inner.FirstNeeded.{NeedsIn}
use Rattle.go_sources.specs.UnitSources.{source_of}
use Rattle.go_syntax.specs.declared.name.Place.{Place}
use Rattle.go_typings.specs.Declarations.{declarations}
use Rattle.go_import_uses.proofs.needed.needed_in.Given as goal

abbrev pub invariant-loop-import : goal.invariant-loop-import
invariant-loop-import l =
    AreFlagsOf (length (declarations (source_of l.«unit»))) (IsExposed (source_of l.«unit»)) l.seen → (r : Option Place) → NeedsIn (source_of l.«unit») l.file (drop l.import-index l.imports) r → NeedsIn (source_of l.«unit») l.file l.imports r
