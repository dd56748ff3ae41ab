use Rattle.std.proofs.Common.{Option, drop}
use Rattle.go_syntax.specs.declared.name.Place.{Place}
use Rattle.go_sources.specs.inner.MissingImports.{MissesIn}
use Rattle.go_sources.proofs.missing_imports.first_missing.Given as goal

abbrev pub invariant-loop-import : goal.invariant-loop-import
invariant-loop-import l = (r : Option Place) → MissesIn l.file (drop l.import-index l.imports) r → MissesIn l.file l.imports r
