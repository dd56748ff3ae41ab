use Rattle.std.proofs.Common.{ℕ, Option, drop}
use Rattle.go_imports.specs.InternalUses.{IsFirstInternalImport}
use Rattle.go_imports.proofs.used_imports.first_internal.Given as goal

abbrev pub invariant-loop-import : goal.invariant-loop-import
invariant-loop-import l = (r : Option ℕ) → IsFirstInternalImport l.importer l.from_std (drop l.import-index l.uses) r → IsFirstInternalImport l.importer l.from_std l.uses r
