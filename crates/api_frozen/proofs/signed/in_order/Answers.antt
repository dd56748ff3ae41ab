use Rattle.std.proofs.Common.{◌∙◌, sym, subst, map}
use Rattle.api_frozen.specs.inner.SignedLines.{ArrangesLines}
use Rattle.api_frozen.proofs.Arranged.{in_order}
use Rattle.api_frozen.proofs.signed.in_order.Goals as goal

pub returns : goal.returns
returns c =
    subst (ArrangesLines (map (λ s. s.signed) c.args.all.items)) (sym (c.from_vec.ensures ∙ c.in_ok-lines.ensures))
    (in_order c.args.all.items c.sort_unstable.new.self.items c.dedup.new.self.items c.sort_unstable.ensures.permutation c.sort_unstable.ensures.sorted c.dedup.ensures.filtered)
