use Rattle.std.proofs.Common.{take}
use Rattle.go_imports.specs.inner.Uses.{Using}
use Rattle.go_imports.proofs.used_imports.used_imports.Given as goal

abbrev pub invariant-loop-import : goal.invariant-loop-import
invariant-loop-import l = Using l.imports l.qualifiers.keys (take l.import-index l.imports) l.taken.keys l.uses
