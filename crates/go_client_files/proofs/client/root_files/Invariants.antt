use Rattle.std.proofs.Common.{◌≡◌, take}
use Rattle.go_client_files.specs.ClientFiles.{root_files}
use Rattle.go_reading.specs.inner.Groups.{lent}
use Rattle.go_client_files.proofs.client.root_files.Given as goal

abbrev pub invariant-loop-file : goal.invariant-loop-file
invariant-loop-file l = lent l.found.items ≡ root_files (take l.file-index l.files)
