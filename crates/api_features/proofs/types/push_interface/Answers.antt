use Rattle.std.proofs.Common.{ℕ, List, ◌++◌, map, sym, ap, ◌∙◌, codes}
use Rattle.api_features.specs.TypeTexts.{commas, name_of_method}
use Rattle.api_features.proofs.TypeParts.{interface_some, three_pieces}
use Rattle.api_features.proofs.types.push_interface.Goals as goal

pub returns : goal.returns
returns c =
    three_pieces (codes "interface{ ") (commas (map name_of_method c.args.methods.now)) (codes " }") c.args.out.now.items c.extend_from_slice-2.new.self.items c.push_names.new.out.items c.extend_from_slice-3.new.self.items c.in_ok-extend_from_slice-2.ensures.items c.in_ok-push_names.ensures c.in_ok-extend_from_slice-3.ensures.items
    ∙ ap (λ (w : List ℕ). c.args.out.now.items ++ w) (interface_some c.args.methods.now (sym c.is_empty.ensures ∙ c.if-is_empty.false))
