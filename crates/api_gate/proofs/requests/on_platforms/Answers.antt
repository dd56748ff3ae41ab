use Rattle.api_gate.proofs.DecisionEnds.{found_decides, unfound_decides}
use Rattle.api_gate.proofs.requests.on_platforms.Goals as goal

pub returns-in-Err-clause-decision : goal.returns-in-Err-clause-decision
returns-in-Err-clause-decision g c = unfound_decides c.args.request.now c.args.inputs.now _ _ _ c.in-Err.error c.unfound.result c.requires.alone c.requires.modules c.as_ref.ensures.value c.items.ensures c.unfound.ensures c.in-Err.ensures.answer

pub returns-in-Ok-clause-decision : goal.returns-in-Ok-clause-decision
returns-in-Ok-clause-decision g c = found_decides c.args.request.now c.args.inputs.now _ _ _ c.in-Ok.found c.report.result c.requires.alone c.requires.modules c.as_ref.ensures.value c.items.ensures c.in-Ok.ensures.answer c.in-Ok.ensures.left_out c.report.ensures

pub report-requires-clause-finds : goal.report-requires-clause-finds
report-requires-clause-finds g c = λ m. c.requires.finds c.requires.alone m
