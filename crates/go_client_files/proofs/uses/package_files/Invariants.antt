use Rattle.std.proofs.Common.{vec_len}
use Rattle.go_client_files.proofs.MadeFiles.{Making}
use Rattle.go_client_files.proofs.uses.package_files.Given as goal

abbrev pub invariant-loop-file : goal.invariant-loop-file
invariant-loop-file l = Making l.module_path l.folders l.fn.parsed l.left.items l.list

abbrev pub decreases-loop-file : goal.decreases-loop-file
decreases-loop-file l = vec_len l.left
