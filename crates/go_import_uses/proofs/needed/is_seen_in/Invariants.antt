use Rattle.std.proofs.Common.{◌≡◌, ◌<◌, ℕ, true}
use Rattle.go_declarations.specs.Listings.{declarations_of}
use Rattle.go_exposed.specs.ImportUses.{SelectsFrom}
use Rattle.go_graphs.specs.Flags.{is_flagged}
use Rattle.go_sources.specs.UnitSources.{import_of, source_of}
use Rattle.go_typings.specs.Assignments.{At}
use Rattle.go_import_uses.proofs.needed.is_seen_in.Given as goal

abbrev pub invariant-loop-number : goal.invariant-loop-number
invariant-loop-number l = (k : ℕ) → k < l.number → At (declarations_of l.declarations) k (λ d. (is_flagged l.seen k ≡ true) × (d.file ≡ l.file) × SelectsFrom (source_of l.«unit») d (import_of l.«import»)) → ⊥
