use Rattle.std.proofs.Common.{subst}
use Rattle.go_model.specs.declared.types.names.TypeName.{TypeName}
use Rattle.api_further_breaks.specs.inner.Partners.{AddsName}
use Rattle.api_further_breaks.proofs.SharedNames.{note_new, note_again}
use Rattle.api_further_breaks.proofs.partners.note.Goals as goal

pub returns-then-fresh : goal.returns-then-fresh
returns-then-fresh c = note_new c.args.once.now.keys c.args.twice.now.keys c.args.name.now c.add.new.names.keys c.in_ok-fresh.fresh c.if-fresh.true (subst (λ (k : TypeName). AddsName c.args.once.now.keys c.add.new.names.keys k c.in_ok-fresh.fresh) c.again.ensures c.in_ok-fresh.ensures)

pub returns : goal.returns
returns c = note_again c.args.once.now.keys c.args.twice.now.keys c.args.name.now c.add.new.names.keys c.add-2.new.names.keys c.in_ok-fresh.fresh c.in_ok-_fresh._fresh c.if-fresh.false (subst (λ (k : TypeName). AddsName c.args.once.now.keys c.add.new.names.keys k c.in_ok-fresh.fresh) c.again.ensures c.in_ok-fresh.ensures) (subst (λ (k : TypeName). AddsName c.args.twice.now.keys c.add-2.new.names.keys k c.in_ok-_fresh._fresh) c.again-2.ensures c.in_ok-_fresh.ensures)
