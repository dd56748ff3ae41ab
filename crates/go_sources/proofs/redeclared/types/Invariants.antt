use Rattle.std.proofs.Common.{take, None}
use Rattle.go_base.specs.Gathered.{gather}
use Rattle.go_sources.specs.inner.DeclarationSites.{type_sites}
use Rattle.go_sources.specs.inner.KnownNames.{keys_of, Steps}
use Rattle.go_sources.proofs.redeclared.types.Given as goal

abbrev pub invariant-loop-spec : goal.invariant-loop-spec
invariant-loop-spec l = Steps (gather (type_sites l.file) (take l.spec-index l.specs)) (keys_of l.fn.known) (keys_of l.known) None
