use Rattle.std.proofs.Common.{◌-◌, drop, length}
use Rattle.go_import_uses.specs.inner.NamedImports.{AreNamed}
use Rattle.go_import_uses.proofs.named_imports.named_imports.Given as goal

abbrev pub invariant-loop-done : goal.invariant-loop-done
invariant-loop-done l = AreNamed (drop (length l.imports - l.done) l.imports) l.by_name.entries
