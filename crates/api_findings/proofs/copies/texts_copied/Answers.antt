use Rattle.api_lines.proofs.CopiedItems.{copied_all, copied_next}
use Rattle.api_findings.proofs.copies.texts_copied.Goals as goal

pub loop-text-preserved : goal.loop-text-preserved
loop-text-preserved c =
    copied_next c.args.texts.now c.loop-text.text-index c.text-item.result c.in_ok-same.same c.loop-text.copy c.push.new.self c.loop-text-test.true c.text-item.is c.in_ok-same.ensures c.in_ok-push.ensures.ok c.loop-text.invariant

pub returns : goal.returns
returns c = copied_all c.args.texts.now c.loop-text.text-index c.loop-text.copy c.loop-text-test.false c.loop-text.invariant
