use Rattle.api_gate.proofs.DecisionEnds.{gate_decides}
use Rattle.api_gate.proofs.reports.gating.gate_advised.Goals as goal

pub returns-in-Ok : goal.returns-in-Ok
returns-in-Ok c =
    gate_decides c.args.request.now c.args.inputs.now c.args.lists c.args.verdicts.now c.args.left_out.now c.gate_with.result c.in-Ok.signed.lost c.in-Ok.signed.text c.args.advice.now c.requires.mode
    c.in-Ok.ensures c.requires.advice c.gate_with.ensures
