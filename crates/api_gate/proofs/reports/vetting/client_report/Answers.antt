use Rattle.std.proofs.Common.{inl, refl}
use Rattle.api_gate.proofs.DecisionEnds.{client_decides}
use Rattle.api_gate.proofs.reports.vetting.client_report.Goals as goal

pub returns-in-Ok : goal.returns-in-Ok
returns-in-Ok c = client_decides c.args.platforms.now c.args.answers.now c.has_untyped.result c.in-Ok.text c.report.result c.has_untyped.ensures c.in-Ok.ensures c.report.ensures

pub returns-in-Err : goal.returns-in-Err
returns-in-Err c = inl refl
