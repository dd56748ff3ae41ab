use Rattle.std.proofs.Common.{List, subst}
use Rattle.api_gate.specs.inner.Decisions.{IsOfFindings}
use Rattle.api_judge.specs.declared.verdict.Verdict.{Verdict}
use Rattle.api_lines.specs.declared.line.Line.{Line}
use Rattle.api_texts.specs.declared.left_out.LeftOut.{LeftOut}
use Rattle.api_gate.proofs.reports.report.report.Goals as goal

pub returns : goal.returns
returns c =
    subst (λ (p : List (List Line) × List Verdict × List LeftOut). IsOfFindings c.args.request.now c.args.inputs.now p.0 p.1 p.2 c.report_on.result) (λ i. (c.replace-features.ensures.value i, c.items-verdicts.ensures i, c.items-left_out.ensures i))
    c.report_on.ensures
