use Rattle.std.proofs.Common.{arith}
use Rattle.go_sources.specs.UnitSources.{file_of}
use Rattle.go_taken_units.proofs.AlikeLists.{alike_more}
use Rattle.go_taken_units.proofs.same.are_same_files.Goals as goal

pub loop-number-preserved : goal.loop-number-preserved
loop-number-preserved c =
    alike_more file_of c.args.files.now c.args.others.now c.loop-number.number c.index-files-number.result c.index-others-number.result c.loop-number-test.true (omega arith) c.index-files-number.is c.index-others-number.is
    (c.is_same_file.ensures c.if-not-is_same_file.false) c.loop-number.invariant
