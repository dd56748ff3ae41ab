use Rattle.std.proofs.Common.{List, subst}
use Rattle.go_references.specs.go_syntax.declared.declaration.ImportSpec.{ImportSpec}
use Rattle.go_imports.specs.PackageFiles.{HasC}
use Rattle.go_imports.specs.Answers.{Decides}
use Rattle.go_imports.proofs.package_files.imports_c.Goals as goal

pub returns : goal.returns
returns c = subst (λ (imports : List ImportSpec). Decides c.has_c.result (HasC imports)) c.items.ensures c.has_c.ensures
