use Rattle.std.proofs.Common.{take}
use Rattle.go_client_files.specs.ClientFiles.{GivesNamed}
use Rattle.go_imports.specs.Gives.{Gives}
use Rattle.go_client_files.proofs.uses.named_imports.Given as goal

abbrev pub invariant-loop-import : goal.invariant-loop-import
invariant-loop-import l = Gives GivesNamed (take l.import-index l.imports) l.uses
