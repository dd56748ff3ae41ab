use Rattle.api_gate.proofs.DecisionEnds.{judge_decides}
use Rattle.api_gate.proofs.reports.judging.judge_report.Goals as goal

pub returns-in-Ok : goal.returns-in-Ok
returns-in-Ok c = λ i lists.
    judge_decides c.args.request.now i lists c.args.verdicts.now c.args.left_out.now c.report.result c.in-Ok.text c.is_any_broken.result c.report.ensures c.is_any_broken.ensures (rw c.items.ensures at c.in-Ok.ensures) c.requires
