use Rattle.std.proofs.Common.{◌≡◌, take, None, []}
use Rattle.go_sources.specs.inner.DeclarationSites.{unit_sites_from}
use Rattle.go_sources.specs.inner.KnownNames.{keys_of, Steps}
use Rattle.go_sources.proofs.redeclared.redeclared.Given as goal

abbrev pub invariant-loop-file : goal.invariant-loop-file
invariant-loop-file l = (l.number ≡ l.file-index) × Steps (unit_sites_from 0 (take l.file-index l.unit.files)) [] (keys_of l.known) None
