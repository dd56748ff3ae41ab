use Rattle.api_gate.proofs.DecisionEnds.{told_decides, untold_decides}
use Rattle.api_gate.proofs.requests.on_client.Goals as goal

pub returns-in-Err-clause-decision : goal.returns-in-Err-clause-decision
returns-in-Err-clause-decision g c =
    untold_decides c.args.request.now c.args.inputs.now c.args.modules.now c.args.client.now _ c.in-Err.error c.unfound.result c.requires.given c.requires.modules c.items-platforms.ensures c.unfound.ensures c.in-Err.ensures.answer

pub returns-in-Ok-clause-decision : goal.returns-in-Ok-clause-decision
returns-in-Ok-clause-decision g c =
    told_decides c.args.request.now c.args.inputs.now c.args.modules.now c.args.client.now _ _ c.in-Ok.answers c.client_report.result c.requires.given c.requires.modules c.items-platforms.ensures c.items.ensures c.in-Ok.ensures.answer c.client_report.ensures
