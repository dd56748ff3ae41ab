use Rattle.std.proofs.Common.{take}
use Rattle.go_base.specs.Lists.{Has}
use Rattle.go_client_files.specs.declared.parsed.ParsedFile.{ParsedFile}
use Rattle.go_client_files.specs.inner.Making.{IsNamedAs}
use Rattle.go_client_files.proofs.client.are_named_as.Given as goal

abbrev pub invariant-loop-file : goal.invariant-loop-file
invariant-loop-file l = (s : ParsedFile) → Has (take l.file-index l.files) s → IsNamedAs l.name s
