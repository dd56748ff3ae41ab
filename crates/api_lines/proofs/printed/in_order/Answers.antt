use Rattle.std.proofs.Common.{◌∙◌, sym, subst, map}
use Rattle.api_lines.specs.OrderedTexts.{IsArranged}
use Rattle.api_lines.proofs.OrderedTexts.{values_arranged}
use Rattle.api_lines.proofs.printed.in_order.Goals as goal

pub returns : goal.returns
returns g c =
    subst (IsArranged g.T.Printable.text (map (λ p. p.value) c.args.all.items)) (sym (c.from_vec.ensures ∙ c.in_ok-values.ensures))
    (values_arranged g.T.Printable.text c.args.all.items c.sort.new.self.items c.dedup.new.self.items (λ p. p.text) (λ p. p.value) (λ p. p.shown) c.sort.ensures.permutation c.in_ok-sort.ensures.sorted c.dedup.ensures.filtered)
