use Rattle.std.proofs.Common.{take}
use Rattle.go_base.specs.Lists.{Has}
use Rattle.go_references.specs.go_syntax.declared.declaration.ImportSpec.{ImportSpec}
use Rattle.go_imports.specs.PackageFiles.{IsC}
use Rattle.go_imports.proofs.package_files.has_c.Given as goal

abbrev pub invariant-loop-import : goal.invariant-loop-import
invariant-loop-import l = (i : ImportSpec) → Has (take l.import-index l.imports) i → IsC i → ⊥
