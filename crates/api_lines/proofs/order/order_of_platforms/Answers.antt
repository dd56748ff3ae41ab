use Rattle.std.proofs.Common.{◌++◌, sym, ◌∙◌}
use Rattle.std.specs.Prelude.{codes}
use Rattle.go_model.specs.files.Platforms.{name_of}
use Rattle.api_lines.proofs.PathOrder.{turned_texts}
use Rattle.api_lines.proofs.TextSets.{order}
use Rattle.api_lines.proofs.order.order_of_platforms.Goals as goal

pub returns-then-is_name_before-2 : goal.returns-then-is_name_before-2
returns-then-is_name_before-2 c = λ x y.
    turned_texts (name_of c.args.platform ++ codes ")" ++ x) (name_of c.args.other ++ codes ")" ++ y)
    ((λ j. order (sym c.name-3.ensures j ++ codes ")" ++ y) (sym c.name-4.ensures j ++ codes ")" ++ x)) ∙ c.is_name_before-2.ensures c.if-is_name_before-2.true y x)
