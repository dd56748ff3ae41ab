use Rattle.std.proofs.Common.{[]}
use Rattle.api_lines.proofs.Growing.{grows_next}
use Rattle.api_lines.proofs.AddedLines.{IsCommonText, common_step, common_all}
use Rattle.api_lines.proofs.merge.common_texts.Goals as goal

pub loop-line-preserved : goal.loop-line-preserved
loop-line-preserved c =
    grows_next (IsCommonText c.in_ok-all.all.items) c.args.first.now c.loop-line.line-index c.line-item.result [] c.loop-line.common c.add_common.new.common c.loop-line-test.true c.line-item.is c.loop-line.invariant
    (common_step c.in_ok-all.all.items c.deref.result.now c.line-item.result c.in_ok-printed.field-0 c.loop-line.common c.add_common.new.common c.deref.ensures.value c.in_ok-printed.ensures c.in_ok-add_common.ensures)

pub returns : goal.returns
returns c = common_all c.args.first.now c.args.others.now c.in_ok-all.all.items c.loop-line.common c.loop-line.line-index c.loop-line-test.false c.in_ok-all.ensures c.loop-line.invariant
