use Rattle.std.proofs.Common.{sym, ◌∙◌}
use Rattle.api_lines.proofs.PathOrder.{turned}
use Rattle.api_lines.proofs.TextSets.{tie_is}
use Rattle.api_lines.proofs.order.known_order.Goals as goal

pub order_in_package-requires : goal.order_in_package-requires
order_in_package-requires c = tie_is c.args.line.now.path c.args.other.now.path (sym c.cmp.ensures ∙ c.in-Equal.is)

pub returns-then-is_path_before-2 : goal.returns-then-is_path_before-2
returns-then-is_path_before-2 c =
    turned c.args.line.now.path c.args.other.now.path c.bytes-in-Greater.result.now c.bytes-in-Greater-2.result.now c.bytes-in-Greater.ensures c.bytes-in-Greater-2.ensures c.args.line.now.context c.args.other.now.context c.args.line.now.rest c.args.other.now.rest
    (c.is_path_before-in-Greater.ensures c.if-is_path_before-2.true c.args.other.now.context c.args.line.now.context c.args.other.now.rest c.args.line.now.rest)
