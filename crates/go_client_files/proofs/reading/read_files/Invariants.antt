use Rattle.std.proofs.Common.{take}
use Rattle.go_client_files.specs.inner.Heads.{GivesHeaded}
use Rattle.go_imports.specs.Gives.{Gives}
use Rattle.go_client_files.proofs.reading.read_files.Given as goal

abbrev pub invariant-loop-file : goal.invariant-loop-file
invariant-loop-file l = Gives GivesHeaded (take l.file-index l.files) l.parsed
