use Rattle.std.proofs.Common.{subst, inl}
use Rattle.go_selectors.specs.Answers.{Decides}
use Rattle.api_correspond.specs.Publics.{IsExported}
use Rattle.api_correspond.specs.Rules.{is_std_sel}
use Rattle.api_breaks.proofs.PairLosses.{either_told}
use Rattle.api_breaks.proofs.interfaces.counts.Goals as goal

pub returns-then-is_exported : goal.returns-then-is_exported
returns-then-is_exported c = inl (subst (λ b. Decides b (IsExported c.args.sel.now)) c.if-is_exported.true c.is_exported.ensures)

pub returns : goal.returns
returns c = either_told (IsExported c.args.sel.now) (is_std_sel c.args.world.now c.args.sel.now) c.is_std_sel.result c.is_std_sel.ensures (subst (λ b. Decides b (IsExported c.args.sel.now)) c.if-is_exported.false c.is_exported.ensures)
