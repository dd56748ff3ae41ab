use Rattle.std.proofs.Common.{take, None}
use Rattle.go_base.specs.Gathered.{gather}
use Rattle.go_typings.specs.Redeclarations.{import_site}
use Rattle.go_units.specs.declared.unit.UsedImport.{UsedImport}
use Rattle.go_sources.specs.UnitSources.{import_of}
use Rattle.go_sources.specs.inner.KnownNames.{keys_of, Steps}
use Rattle.go_sources.proofs.redeclared.imports.Given as goal

abbrev pub invariant-loop-used : goal.invariant-loop-used
invariant-loop-used l = Steps (gather (λ (i : UsedImport). import_site l.file (import_of i)) (take l.used-index l.imports)) (keys_of l.fn.known) (keys_of l.known) None
