use Rattle.api_gate.proofs.DecisionEnds.{advise_decides}
use Rattle.api_gate.proofs.reports.judging.advise_with.Goals as goal

pub returns-in-Ok : goal.returns-in-Ok
returns-in-Ok c = λ i lists. advise_decides c.args.request.now i lists c.args.verdicts.now c.args.left_out.now c.in-Ok.text c.args.advice.now c.requires.mode c.requires.advice c.in-Ok.ensures
