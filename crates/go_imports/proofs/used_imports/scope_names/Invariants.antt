use Rattle.std.proofs.Common.{take, []}
use Rattle.go_base.specs.Growing.{Grows}
use Rattle.go_imports.specs.UsedImports.{IsScopeName}
use Rattle.go_imports.proofs.GrowingSets.{OfSome}
use Rattle.go_imports.proofs.used_imports.scope_names.Given as goal

abbrev pub invariant-loop-import : goal.invariant-loop-import
invariant-loop-import l = Grows (OfSome (IsScopeName) (take l.import-index l.imports)) [] l.set.keys
