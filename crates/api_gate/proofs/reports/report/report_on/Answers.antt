use Rattle.api_gate.specs.runs.Outcomes.{frozen_report}
use Rattle.api_gate.proofs.DecisionEnds.{features_decide, make_decides, report_decides, skipped_decides}
use Rattle.api_gate.proofs.reports.report.report_on.Goals as goal

pub returns-in-Ok : goal.returns-in-Ok
returns-in-Ok c = features_decide c.args.request.now c.args.inputs.now c.args.lists c.args.verdicts.now c.args.left_out.now c.in-Ok.text c.in-Features.is c.in-Ok.ensures

pub returns-in-Ok-signed_report : goal.returns-in-Ok-signed_report
returns-in-Ok-signed_report c =
    report_decides c.args.request.now c.args.inputs.now c.args.lists c.args.verdicts.now c.args.left_out.now c.in-Ok-signed_report.signed.lost c.in-Ok-signed_report.signed.text c.decision.result c.decision.ensures
    (frozen_report c.in-Frozen.is c.in-Ok-signed_report.ensures)

pub returns-in-Judge : goal.returns-in-Judge
returns-in-Judge c = c.judge_report.ensures c.args.inputs.now c.args.lists

pub returns-in-Advise : goal.returns-in-Advise
returns-in-Advise c = c.advise_report.ensures c.args.inputs.now c.args.lists

pub returns-in-Ok-make_report : goal.returns-in-Ok-make_report
returns-in-Ok-make_report c = make_decides c.args.request.now c.args.inputs.now c.args.lists c.args.verdicts.now c.args.left_out.now c.in-Ok-make_report.text c.in-Make.is c.in-Ok-make_report.ensures

pub returns-in-Ok-skipped_text : goal.returns-in-Ok-skipped_text
returns-in-Ok-skipped_text c = skipped_decides c.args.request.now c.args.inputs.now c.args.lists c.args.verdicts.now c.args.left_out.now c.in-Ok-skipped_text.text c.in-Skipped.is (rw c.items.ensures at c.in-Ok-skipped_text.ensures)

pub unreachable-requires : goal.unreachable-requires
unreachable-requires c = c.requires.finds c.in-Vet.is
