use Rattle.std.proofs.Common.{ap, sym, ◌∙◌}
use Rattle.go_inexact.proofs.Arguments.{called_post, dotted, no_argument, only_argument}
use Rattle.go_syntax.specs.declared.expression.Post.{Post-F, out-Post}
use Rattle.go_syntax.specs.declared.expression.Post.TheVariants.{outs-Call}
use Rattle.go_inexact.proofs.conversions.argument.Goals as goal

pub returns-then-dots : goal.returns-then-dots
returns-then-dots c = dotted c.args.post.now c.in-Call.arguments c.in-Call.dots (ap out-Post c.in-Call.is ∙ outs-Call c.in-Call.arguments c.in-Call.dots) c.if-dots.true

pub returns-else-dots : goal.returns-else-dots
returns-else-dots c =
    let i = ap out-Post c.in-Call.is ∙ outs-Call c.in-Call.arguments c.in-Call.dots ∙ ap (λ y. Post-F.Call y c.in-Call.dots) (sym c.items.ensures) in
    only_argument c.args.post.now c.items.result.now c.in-Call.dots i c.if-dots.false c.only.result c.only.ensures

pub returns-in_default : goal.returns-in_default
returns-in_default c = no_argument c.args.post.now (λ xs d e. c.in_default.not-Call xs d (called_post c.args.post.now xs d e))
