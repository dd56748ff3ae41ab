use Rattle.std.proofs.Common.{List, subst}
use Rattle.go_base.specs.Growing.{Grows}
use Rattle.api_frozen.specs.declared.signed.Signed.{Signed}
use Rattle.api_frozen.specs.inner.SignedLines.{IsLossOf}
use Rattle.api_frozen.proofs.Compared.{report_all}
use Rattle.api_frozen.proofs.compare.compare.Goals as goal

pub returns : goal.returns
returns c =
    report_all c.args.features.now c.args.required.now c.args.exceptions.now c.in_ok-held.held c.in_ok-excepted.excepted c.in_ok-asked.asked c.add_losses.new.lines c.add_gains.new.lines c.in_ok-lines.lines
    c.in_ok-held.ensures c.in_ok-excepted.ensures c.in_ok-asked.ensures
    (subst (λ (w : List Signed). Grows (IsLossOf c.in_ok-held.held c.in_ok-excepted.excepted c.args.required.now) w c.add_losses.new.lines) c.new-lines.ensures c.in_ok-add_losses.ensures)
    c.in_ok-add_gains.ensures c.in_ok-lines.ensures
