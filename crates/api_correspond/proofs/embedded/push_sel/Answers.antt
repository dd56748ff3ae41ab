use Rattle.std.proofs.Common.{subst}
use Rattle.go_selectors.specs.Answers.{Decides}
use Rattle.go_model.specs.types.Members.{field_sel}
use Rattle.api_correspond.specs.Publics.{IsExported}
use Rattle.api_correspond.proofs.Leading.{sel_pushed}
use Rattle.api_correspond.proofs.embedded.push_sel.Goals as goal

pub returns : goal.returns
returns c = sel_pushed c.args.field.now c.args.sels.now.items c.push.new.self.items c.in_ok-sel.sel (subst (λ b. Decides b (IsExported (field_sel c.args.field.now))) c.if-not-is_exported.false c.is_exported.ensures) c.in_ok-sel.ensures c.in_ok-push.ensures.items
