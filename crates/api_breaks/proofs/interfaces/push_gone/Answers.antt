use Rattle.std.proofs.Common.{subst}
use Rattle.go_model.specs.types.MethodSets.{method_sel}
use Rattle.go_selectors.specs.Answers.{Decides}
use Rattle.api_correspond.specs.Rules.{Counts}
use Rattle.api_breaks.specs.inner.Interfaces.{HasServing}
use Rattle.api_breaks.proofs.InterfaceLosses.{uncounted, served, gone_lost}
use Rattle.api_breaks.proofs.interfaces.push_gone.Goals as goal

pub returns-then-not-counts : goal.returns-then-not-counts
returns-then-not-counts c = uncounted c.args.old.now c.args.after.now c.args.method.now c.args.losses.now.items (subst (λ b. Decides b (Counts c.args.old.now (method_sel c.args.method.now))) c.if-not-counts.true c.counts.ensures)

pub returns-then-has_serving : goal.returns-then-has_serving
returns-then-has_serving c = served c.args.old.now c.args.after.now c.args.method.now c.args.losses.now.items (subst (λ b. Decides b (HasServing c.args.old.now c.args.after.now c.args.method.now)) c.if-has_serving.true c.has_serving.ensures)

pub returns : goal.returns
returns c = gone_lost c.args.old.now c.args.after.now c.args.method.now c.args.losses.now.items c.push_method.new.losses.items (subst (λ b. Decides b (Counts c.args.old.now (method_sel c.args.method.now))) c.if-not-counts.false c.counts.ensures) (subst (λ b. Decides b (HasServing c.args.old.now c.args.after.now c.args.method.now)) c.if-has_serving.false c.has_serving.ensures) c.in_ok-push_method.ensures
