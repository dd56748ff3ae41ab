use Rattle.std.proofs.Common.{sym, ◌∙◌, subst}
use Rattle.go_selectors.specs.Answers.{Decides}
use Rattle.api_further_breaks.specs.inner.Partners.{HasOthers}
use Rattle.api_further_breaks.proofs.SharedNames.{partners_foreign, partners_kept, partners_lost}
use Rattle.api_further_breaks.proofs.partners.push_partners.Goals as goal

pub returns-then-not-are_of_module : goal.returns-then-not-are_of_module
returns-then-not-are_of_module c = partners_foreign c.args.pairs.now c.requires.once c.args.pair.now c.requires.there c.args.old.now c.args.new.now c.args.olds.now.keys c.args.news.now.keys c.requires.olds c.requires.news c.args.losses.now.items (sym c.are_of_module.ensures ∙ c.if-not-are_of_module.true)

pub returns-then-not-has_others : goal.returns-then-not-has_others
returns-then-not-has_others c = partners_kept c.args.pairs.now c.requires.once c.args.pair.now c.requires.there c.args.old.now c.args.new.now c.args.olds.now.keys c.args.news.now.keys c.requires.olds c.requires.news c.args.losses.now.items (sym c.are_of_module.ensures ∙ c.if-not-are_of_module.false) (subst (λ b. Decides b (HasOthers c.args.olds.now.keys c.args.news.now.keys c.args.pair.now)) c.if-not-has_others.true c.has_others.ensures)

pub returns : goal.returns
returns c = partners_lost c.args.pairs.now c.requires.once c.args.pair.now c.requires.there c.args.old.now c.args.new.now c.args.olds.now.keys c.args.news.now.keys c.requires.olds c.requires.news c.args.losses.now.items c.push.new.self.items c.in_ok-before.before c.in_ok-after.after (sym c.are_of_module.ensures ∙ c.if-not-are_of_module.false) (subst (λ b. Decides b (HasOthers c.args.olds.now.keys c.args.news.now.keys c.args.pair.now)) c.if-not-has_others.false c.has_others.ensures) c.in_ok-before.ensures c.in_ok-after.ensures c.in_ok-push.ensures.items
