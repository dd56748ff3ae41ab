use Rattle.std.proofs.Common.{◌∙◌, rules}
use Rattle.go_base.proofs.Orders.{by_words}
use Rattle.go_base.proofs.order.order_of_words.Goals as goal

pub returns : goal.returns
returns c =
    c.cmp.ensures
    ∙ by_words c.args.left.now c.args.right.now c.from_be_bytes-left.result c.from_be_bytes-right.result (search rules) (search rules)
    c.fits-left c.fits-right c.from_be_bytes-left.ensures c.from_be_bytes-right.ensures
