use Rattle.std.proofs.Common.{subst}
use Rattle.std.specs.Prelude.{IfOk}
use Rattle.api_lines.specs.OrderedTexts.{IsArranged}
use Rattle.api_lines.proofs.printed.by_texts.Goals as goal

pub returns : goal.returns
returns g c = subst (λ w. IfOk c.in_order.result (IsArranged g.T.Printable.text w)) c.in_ok-all.ensures c.in_order.ensures
