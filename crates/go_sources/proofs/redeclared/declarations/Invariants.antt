use Rattle.std.proofs.Common.{take, None}
use Rattle.go_base.specs.Gathered.{gather}
use Rattle.go_sources.specs.inner.DeclarationSites.{decl_sites}
use Rattle.go_sources.specs.inner.KnownNames.{keys_of, Steps}
use Rattle.go_sources.proofs.redeclared.declarations.Given as goal

abbrev pub invariant-loop-decl : goal.invariant-loop-decl
invariant-loop-decl l = Steps (gather (decl_sites l.file) (take l.decl-index l.decls)) (keys_of l.fn.known) (keys_of l.known) None
