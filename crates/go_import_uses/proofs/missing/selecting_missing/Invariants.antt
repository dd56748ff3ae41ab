use Rattle.std.proofs.Common.{◌≡◌, map}
use Rattle.go_declarations.specs.Listings.{declarations_of}
use Rattle.go_exposed.specs.BeyondProfile.{SelectsMissing}
use Rattle.go_graphs.specs.Flags.{AreFlagsOf}
use Rattle.go_sources.specs.UnitSources.{import_of, source_of}
use Rattle.go_typings.specs.Assignments.{At}
use Rattle.go_typings.specs.Sources.{imports_of}
use Rattle.go_import_uses.proofs.missing.selecting_missing.Given as goal

abbrev pub invariant-loop-number : goal.invariant-loop-number
invariant-loop-number l =
    AreFlagsOf l.number (λ n. At (declarations_of l.declarations) n (λ d. SelectsMissing (source_of l.«unit») d)) l.flags.items × (map import_of l.imports ≡ imports_of (source_of l.«unit») l.file)
