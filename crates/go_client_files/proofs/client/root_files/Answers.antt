use Rattle.std.proofs.Common.{arith}
use Rattle.go_client_files.proofs.RootFiles.{root_next, root_whole}
use Rattle.go_reading.specs.inner.Groups.{lent}
use Rattle.go_client_files.proofs.client.root_files.Goals as goal

pub loop-file-preserved : goal.loop-file-preserved
loop-file-preserved c =
    root_next c.args.files.now c.loop-file.file-index c.file-item.result (lent c.loop-file.found.items) (lent c.add_root.new.found.items) c.loop-file-test.true c.file-item.is c.in_ok-add_root.ensures c.loop-file.invariant

pub returns : goal.returns
returns c = root_whole c.args.files.now c.loop-file.file-index (lent c.loop-file.found.items) (omega arith) c.loop-file.invariant
