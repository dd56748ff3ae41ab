use Rattle.std.proofs.Common.{ap, sym, ◌∙◌}
use Rattle.std.proofs.lemmas.Result.{IfOk-weaker}
use Rattle.go_inexact.proofs.Adding.{adds_other, adds_primary}
use Rattle.go_inexact.specs.inner.Added.{AddsArgument, AddsConverted}
use Rattle.go_nodes.specs.Trees.{nodes_in}
use Rattle.go_syntax.specs.declared.expression.Expr.{Expr-F, out-Expr}
use Rattle.go_syntax.specs.declared.expression.Expr.TheVariants.{outs-Primary}
use Rattle.go_type_terms.specs.Answers.{env_in}
use Rattle.go_inexact.proofs.conversions.add_converted.Goals as goal

pub returns-in-Primary : goal.returns-in-Primary
returns-in-Primary c =
    let E = env_in c.args.context.now in
    let e = c.args.expr.now in
    let x = c.value.result.now in
    let ps = c.items.result.now in
    let old = nodes_in c.args.trees.now in
    let new = nodes_in c.add_of.new.trees in
    let i = ap out-Expr c.in-Primary.is ∙ outs-Primary c.in-Primary.operand c.in-Primary.posts ∙ ap (λ y. Expr-F.Primary y c.in-Primary.posts) (sym c.value.ensures) ∙ ap (Expr-F.Primary x) (sym c.items.ensures) in
    IfOk-weaker c.add_of.result (AddsArgument E x ps old new) (AddsConverted E e old new) (λ b. adds_primary E e x ps old new b i) c.add_of.ensures

pub returns-in_default : goal.returns-in_default
returns-in_default c = adds_other (env_in c.args.context.now) c.args.expr.now (nodes_in c.args.trees.now) (nodes_in c.args.trees.now) c.in_default.not-Primary
