use Rattle.std.proofs.Common.{take}
use Rattle.go_base.specs.Lists.{Has}
use Rattle.go_imports.specs.inner.Files.{IsNamedAs}
use Rattle.go_imports.specs.declared.package_files.SourceFile.{SourceFile}
use Rattle.go_imports.proofs.package_files.are_named_as.Given as goal

abbrev pub invariant-loop-file : goal.invariant-loop-file
invariant-loop-file l = (s : SourceFile) → Has (take l.file-index l.files) s → IsNamedAs l.name s
