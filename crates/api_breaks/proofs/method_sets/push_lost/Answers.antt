use Rattle.std.proofs.Common.{subst}
use Rattle.go_model.specs.types.MethodSets.{method_sel}
use Rattle.go_selectors.specs.Answers.{Decides}
use Rattle.api_correspond.specs.Rules.{Counts}
use Rattle.api_breaks.specs.inner.MethodSets.{KeptIn}
use Rattle.api_breaks.proofs.MethodSetLosses.{method_uncounted, method_kept, method_lost}
use Rattle.api_breaks.proofs.method_sets.push_lost.Goals as goal

pub returns-then-not-counts : goal.returns-then-not-counts
returns-then-not-counts c = method_uncounted c.args.old.now c.args.callable.now c.args.method.now c.args.losses.now.items (subst (λ b. Decides b (Counts c.args.old.now (method_sel c.args.method.now))) c.if-not-counts.true c.counts.ensures)

pub returns-then-keeps_method : goal.returns-then-keeps_method
returns-then-keeps_method c = method_kept c.args.old.now c.args.callable.now c.args.method.now c.args.losses.now.items (subst (λ b. Decides b (KeptIn c.args.old.now c.args.callable.now c.args.method.now)) c.if-keeps_method.true c.keeps_method.ensures)

pub returns : goal.returns
returns c = method_lost c.args.old.now c.args.callable.now c.args.method.now c.args.losses.now.items c.push.new.self.items c.in_ok-sel.sel (subst (λ b. Decides b (Counts c.args.old.now (method_sel c.args.method.now))) c.if-not-counts.false c.counts.ensures) (subst (λ b. Decides b (KeptIn c.args.old.now c.args.callable.now c.args.method.now)) c.if-keeps_method.false c.keeps_method.ensures) c.in_ok-sel.ensures c.in_ok-push.ensures.items
