use Rattle.std.proofs.Common.{subst, sym, List, []}
use Rattle.api_breaks.specs.declared.broken.Lost.{Lost}
use Rattle.api_breaks.specs.inner.Telling.{Tells}
use Rattle.api_further_breaks.specs.inner.Losses.{KeepsAll, IsSomeLoss}
use Rattle.api_further_breaks.proofs.AllBreaks.{all_exact}
use Rattle.api_further_breaks.proofs.losses.losses_of.Goals as goal

pub returns : goal.returns
returns c =
    let K = KeepsAll c.args.old.now c.args.new.now c.args.pair.now in
    let P = IsSomeLoss c.args.old.now c.args.new.now c.args.pair.now in
    subst (Tells K P []) (sym c.from_vec.ensures) (subst (λ (w : List Lost). Tells K P w c.push_among.new.losses.items) c.new-losses.ensures.items (all_exact c.args.old.now c.args.new.now c.args.pairs.now c.requires.owned c.args.pair.now c.new-losses.result.items c.push_pair.new.losses.items c.push_among.new.losses.items c.in_ok-push_pair.ensures c.in_ok-push_among.ensures))
