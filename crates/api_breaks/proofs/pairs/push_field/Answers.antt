use Rattle.std.proofs.Common.{subst}
use Rattle.go_model.specs.types.Members.{field_sel}
use Rattle.go_selectors.specs.Answers.{Decides}
use Rattle.api_correspond.specs.Publics.{IsExported}
use Rattle.api_breaks.specs.inner.Pairs.{HasField}
use Rattle.api_breaks.proofs.PairLosses.{field_hidden, field_kept, field_lost}
use Rattle.api_breaks.proofs.pairs.push_field.Goals as goal

pub returns-then-not-is_exported : goal.returns-then-not-is_exported
returns-then-not-is_exported c = field_hidden c.args.after.now c.args.field.now c.args.losses.now.items (subst (λ b. Decides b (IsExported (field_sel c.args.field.now))) c.if-not-is_exported.true c.is_exported.ensures)

pub returns-then-has_field : goal.returns-then-has_field
returns-then-has_field c = field_kept c.args.after.now c.args.field.now c.args.losses.now.items (subst (λ b. Decides b (HasField c.args.after.now (field_sel c.args.field.now))) c.if-has_field.true c.has_field.ensures)

pub returns : goal.returns
returns c = field_lost c.args.after.now c.args.field.now c.args.losses.now.items c.push.new.self.items c.in_ok-name.name (subst (λ b. Decides b (IsExported (field_sel c.args.field.now))) c.if-not-is_exported.false c.is_exported.ensures) (subst (λ b. Decides b (HasField c.args.after.now (field_sel c.args.field.now))) c.if-has_field.false c.has_field.ensures) c.in_ok-name.ensures c.in_ok-push.ensures.items
