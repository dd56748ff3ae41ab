use Rattle.api_lines.proofs.CopiedItems.{copied_all, copied_next}
use Rattle.api_lines.proofs.copies.lines_copied.Goals as goal

pub loop-line-preserved : goal.loop-line-preserved
loop-line-preserved c =
    copied_next c.args.lines.now c.loop-line.line-index c.line-item.result c.in_ok-same.same c.loop-line.copy c.push.new.self c.loop-line-test.true c.line-item.is c.in_ok-same.ensures c.in_ok-push.ensures.ok c.loop-line.invariant

pub returns : goal.returns
returns c = copied_all c.args.lines.now c.loop-line.line-index c.loop-line.copy c.loop-line-test.false c.loop-line.invariant
