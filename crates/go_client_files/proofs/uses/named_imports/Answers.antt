use Rattle.std.proofs.Common.{Some, arith}
use Rattle.go_client_files.specs.ClientFiles.{GivesNamed}
use Rattle.go_units.proofs.Giving.{gives_first, gives_more, gives_whole}
use Rattle.go_client_files.proofs.uses.named_imports.Goals as goal

pub loop-import-init : goal.loop-import-init
loop-import-init c = gives_first GivesNamed c.args.imports.now c.new-uses.result c.new-uses.ensures

pub loop-import-preserved : goal.loop-import-preserved
loop-import-preserved c =
    gives_more GivesNamed c.args.imports.now c.loop-import.import-index c.import-item.result (Some _) c.loop-import.uses c.push.new.self c.loop-import-test.true c.import-item.is c.in_ok-named_import.ensures c.in_ok-push.ensures.ok c.loop-import.invariant

pub returns : goal.returns
returns c = gives_whole GivesNamed c.args.imports.now c.loop-import.import-index c.loop-import.uses (omega arith) c.loop-import.invariant
