use Rattle.std.proofs.Common.{◌≡◌, ℕ, List, subst}
use Rattle.std.specs.Result.{IfOk}
use Rattle.api_reports.specs.Reports.{signed}
use Rattle.api_reports.proofs.TextLines.{text_done, text_next}
use Rattle.api_reports.proofs.reports.signed_text.Goals as goal

pub loop-line-preserved : goal.loop-line-preserved
loop-line-preserved c = text_next signed c.args.lines.now c.loop-line.line-index c.line-item.result c.loop-line.text.items c.add_signed.new.text.items c.loop-line-test.true c.line-item.is c.in_ok-add_signed.ensures c.loop-line.invariant

pub returns : goal.returns
returns c =
    subst (λ (w : List ℕ). IfOk c.from_vec.result (λ text. text ≡ w))
    (text_done signed c.args.lines.now c.loop-line.line-index c.loop-line.text.items c.loop-line-test.false c.loop-line.invariant)
    c.from_vec.ensures
