use Rattle.std.proofs.lemmas.Result.{IfOk-weaker}
use Rattle.go_declared.proofs.AliasWalks.{are_ends_read}
use Rattle.go_declared.proofs.aliases.alias_ends.Goals as goal

pub returns : goal.returns
returns c = IfOk-weaker c.names_at.result _ _ (λ ends are.
    are_ends_read c.args.declarations.now c.args.names.now c.in_ok-aliased.aliased.items c.deref.result.now c.deref-3.result.now c.in_ok-numbers.numbers.items c.deref-2.result.now c.in_ok-lasts.lasts.items c.deref-4.result.now ends.items c.saturating_sub.result
    c.deref.ensures.value c.deref-3.ensures.value c.deref-2.ensures.value c.deref-4.ensures.value c.requires c.in_ok-aliased.ensures c.in_ok-numbers.ensures c.saturating_sub.ensures c.in_ok-lasts.ensures are) c.names_at.ensures
