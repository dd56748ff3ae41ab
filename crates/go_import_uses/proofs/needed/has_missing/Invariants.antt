use Rattle.std.proofs.Common.{ℕ, Option, drop}
use Rattle.go_import_uses.specs.inner.FirstNeeded.{NeedsIn}
use Rattle.go_syntax.specs.declared.name.Place.{Place}
use Rattle.go_typings.specs.Sources.{PackageSource}
use Rattle.go_import_uses.proofs.needed.has_missing.Given as goal

abbrev pub invariant-loop-import : goal.invariant-loop-import
invariant-loop-import l = (u : PackageSource) (file : ℕ) (r : Option Place) → NeedsIn u file (drop l.import-index l.imports) r → NeedsIn u file l.imports r
