use Rattle.std.proofs.Common.{sym, ◌∙◌, subst}
use Rattle.go_model.specs.declared.types.term.Term.{out-Term}
use Rattle.go_selectors.specs.Answers.{Decides}
use Rattle.api_breaks.specs.inner.Pairs.{KeepsLayer}
use Rattle.api_breaks.proofs.PairLosses.{underlying_foreign, underlying_kept, underlying_lost}
use Rattle.api_breaks.proofs.pairs.push_underlying.Goals as goal

pub returns-then-not-are_of_module : goal.returns-then-not-are_of_module
returns-then-not-are_of_module c = underlying_foreign c.args.old.now c.args.new.now c.args.pair.now c.args.losses.now.items (sym c.are_of_module.ensures ∙ c.if-not-are_of_module.true)

pub returns-then-keeps_layer : goal.returns-then-keeps_layer
returns-then-keeps_layer c = underlying_kept c.args.old.now c.args.new.now c.args.pair.now c.args.losses.now.items c.under-before.result.now c.under-after.result.now c.under-before.ensures c.under-after.ensures (subst (λ b. Decides b (KeepsLayer c.args.old.now c.args.new.now (out-Term c.under-before.result.now) (out-Term c.under-after.result.now))) c.if-keeps_layer.true c.keeps_layer.ensures)

pub returns : goal.returns
returns c = underlying_lost c.args.old.now c.args.new.now c.args.pair.now c.args.losses.now.items c.push.new.self.items c.under-before.result.now c.under-after.result.now c.in_ok-first.first c.in_ok-second.second (sym c.are_of_module.ensures ∙ c.if-not-are_of_module.false) c.under-before.ensures c.under-after.ensures (subst (λ b. Decides b (KeepsLayer c.args.old.now c.args.new.now (out-Term c.under-before.result.now) (out-Term c.under-after.result.now))) c.if-keeps_layer.false c.keeps_layer.ensures) c.in_ok-first.ensures c.in_ok-second.ensures c.in_ok-push.ensures.items
