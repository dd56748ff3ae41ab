use Rattle.std.proofs.Common.{rules}
use Rattle.go_client_files.proofs.MadeFiles.{making_first, making_last, making_next}
use Rattle.go_client_files.proofs.uses.package_files.Goals as goal

pub loop-file-init : goal.loop-file-init
loop-file-init c = making_first c.args.module_path.now c.args.folders.now c.args.parsed c.reversed-left.result.items c.new-list.result c.reversed-left.ensures c.new-list.ensures.files c.new-list.ensures.blocks

pub loop-file-preserved : goal.loop-file-preserved
loop-file-preserved c =
    making_next c.args.module_path.now c.args.folders.now c.args.parsed c.loop-file.left.items c.pop.new.self.items c.in-Some.file c.in_ok-made.made c.loop-file.list c.add.new.list c.in-Some.ensures.items c.in_ok-made.ensures c.in_ok-add.ensures c.loop-file.invariant

pub returns : goal.returns
returns c = making_last c.args.module_path.now c.args.folders.now c.args.parsed c.loop-file.left.items c.loop-file.list (search rules) c.loop-file.invariant
