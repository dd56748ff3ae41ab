use Rattle.std.proofs.Common.{subst}
use Rattle.go_selectors.specs.Answers.{Decides}
use Rattle.api_correspond.specs.Publics.{IsExported}
use Rattle.api_breaks.specs.inner.Selecting.{KeepsPointer}
use Rattle.api_breaks.proofs.SelectableLosses.{sel_hidden, sel_shallow, sel_kept, sel_lost}
use Rattle.api_breaks.proofs.selectable.push_sel.Goals as goal

pub returns-then-not-is_exported : goal.returns-then-not-is_exported
returns-then-not-is_exported c = sel_hidden c.args.old.now c.args.new.now c.args.pair.now c.args.sel.now c.args.losses.now.items (subst (λ b. Decides b (IsExported c.args.sel.now)) c.if-not-is_exported.true c.is_exported.ensures)

pub returns-in-None : goal.returns-in-None
returns-in-None c = sel_shallow c.args.old.now c.args.new.now c.args.pair.now c.args.sel.now c.args.losses.now.items c.in_ok-found.found c.in-None.is c.in_ok-found.ensures

pub returns-then-keeps_pointer : goal.returns-then-keeps_pointer
returns-then-keeps_pointer c = sel_kept c.args.old.now c.args.new.now c.args.pair.now c.args.sel.now c.args.losses.now.items c.in_ok-found.found c.in-Some.before c.in_ok-after-in-Some.after c.in-Some.is c.in_ok-found.ensures c.in_ok-after-in-Some.ensures (subst (λ b. Decides b (KeepsPointer c.in-Some.before c.in_ok-after-in-Some.after)) c.if-keeps_pointer.true c.keeps_pointer.ensures)

pub returns-in_ok-push_name-in-Some : goal.returns-in_ok-push_name-in-Some
returns-in_ok-push_name-in-Some c = sel_lost c.args.old.now c.args.new.now c.args.pair.now c.args.sel.now c.args.losses.now.items c.push_name.new.losses.items c.in_ok-found.found c.in-Some.before c.in_ok-after-in-Some.after (subst (λ b. Decides b (IsExported c.args.sel.now)) c.if-not-is_exported.false c.is_exported.ensures) c.in-Some.is c.in_ok-found.ensures c.in_ok-after-in-Some.ensures (subst (λ b. Decides b (KeepsPointer c.in-Some.before c.in_ok-after-in-Some.after)) c.if-keeps_pointer.false c.keeps_pointer.ensures) c.in_ok-push_name-in-Some.ensures
