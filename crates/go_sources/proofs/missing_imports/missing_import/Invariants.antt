use Rattle.std.proofs.Common.{◌≡◌, Option, drop}
use Rattle.go_syntax.specs.declared.name.Place.{Place}
use Rattle.go_sources.proofs.Missing.{MissesFrom}
use Rattle.go_sources.proofs.missing_imports.missing_import.Given as goal

abbrev pub invariant-loop-file : goal.invariant-loop-file
invariant-loop-file l = (l.number ≡ l.file-index) × ((r : Option Place) → MissesFrom l.file-index (drop l.file-index l.unit.files) r → MissesFrom 0 l.unit.files r)
