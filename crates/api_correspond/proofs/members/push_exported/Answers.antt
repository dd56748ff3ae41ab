use Rattle.std.proofs.Common.{subst}
use Rattle.go_model.specs.types.Members.{field_sel}
use Rattle.go_selectors.specs.Answers.{Decides}
use Rattle.api_correspond.specs.Publics.{IsExported}
use Rattle.api_correspond.proofs.Leading.{fields_hidden, fields_placed}
use Rattle.api_correspond.proofs.members.push_exported.Goals as goal

pub returns-then-not-is_exported : goal.returns-then-not-is_exported
returns-then-not-is_exported c = fields_hidden c.args.field.now c.args.after.now c.args.pairs.now.items (subst (λ b. Decides b (IsExported (field_sel c.args.field.now))) c.if-not-is_exported.true c.is_exported.ensures)

pub returns : goal.returns
returns c = fields_placed c.args.field.now c.args.after.now c.args.places.now c.places_at-same.result.now c.args.pairs.now.items c.push_field.new.pairs.items c.requires c.places_at-same.ensures (subst (λ b. Decides b (IsExported (field_sel c.args.field.now))) c.if-not-is_exported.false c.is_exported.ensures) c.in_ok-push_field.ensures
