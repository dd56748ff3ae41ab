use Rattle.std.proofs.Common.{take, None}
use Rattle.go_base.specs.Gathered.{gather}
use Rattle.go_typings.specs.Redeclarations.{name_site}
use Rattle.go_sources.specs.inner.KnownNames.{keys_of, Steps}
use Rattle.go_sources.proofs.redeclared.objects.Given as goal

abbrev pub invariant-loop-name : goal.invariant-loop-name
invariant-loop-name l = Steps (gather (name_site l.file) (take l.name-index l.names)) (keys_of l.fn.known) (keys_of l.known) None
