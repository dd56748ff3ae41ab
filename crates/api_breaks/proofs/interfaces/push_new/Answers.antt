use Rattle.std.proofs.Common.{subst}
use Rattle.go_model.specs.types.MethodSets.{method_sel}
use Rattle.go_selectors.specs.Answers.{Decides}
use Rattle.api_breaks.specs.inner.Interfaces.{HasSel}
use Rattle.api_breaks.proofs.InterfaceLosses.{not_new, new_lost}
use Rattle.api_breaks.proofs.interfaces.push_new.Goals as goal

pub returns-then-has_sel : goal.returns-then-has_sel
returns-then-has_sel c = not_new c.args.losses.now.items c.args.before.now c.args.method.now (subst (λ b. Decides b (HasSel c.args.before.now (method_sel c.args.method.now))) c.if-has_sel.true c.has_sel.ensures)

pub returns : goal.returns
returns c = new_lost c.args.losses.now.items c.push_method.new.losses.items c.args.before.now c.args.method.now (subst (λ b. Decides b (HasSel c.args.before.now (method_sel c.args.method.now))) c.if-has_sel.false c.has_sel.ensures) c.in_ok-push_method.ensures
