use Rattle.std.proofs.Common.{◌++◌, Bool, sym, subst}
use Rattle.go_base.specs.Keys.{item_of}
use Rattle.go_calls.proofs.go_elements_proofs.Posts.{post_slices}
use Rattle.go_calls.specs.go_elements.SliceExpressions.{HasWhere, SlicesSimply}
use Rattle.go_calls.proofs.go_operators_proofs.Answers.{found_none, found_some}
use Rattle.go_rules.specs.Expressions.{HasPost}
use Rattle.go_rules.specs.Nodes.{expression, optional}
use Rattle.go_syntax.specs.declared.expression.Post.{Post-F}
use Rattle.go_literals.specs.go_type_terms.Answers.{env_in}
use Rattle.go_literals.specs.go_type_terms.Loudness.{AreLoud}
use Rattle.go_literals.proofs.go_type_terms_proofs.Handed.{handed}
use Rattle.go_literals.proofs.go_type_terms_proofs.LoudTrees.{join_loud}
use Rattle.go_expr.proofs.Slicing.{borrowed, simple_none, simple_some}
use Rattle.go_expr.proofs.exprs.Exprs.sliced.Goals as goal

pub returns-in_err-low : goal.returns-in_err-low
returns-in_err-low g c =
    let E = env_in c.args.self.now.literals.operations.typing.context.now in
    let low = c.args.low.now in
    let high = c.args.high.now in
    handed E (HasWhere E low) (HasPost E c.args.operand.now (Post-F.«Post::Slice» low high)) (optional expression low) (optional expression low ++ optional expression high) c.in_err-low.field-0.0 c.from_residual.result c.from_residual.ensures.1 c.in_err-low.ensures (λ r h. let p = post_slices h in (p.0, p.2))

pub returns-in_err-high : goal.returns-in_err-high
returns-in_err-high g c =
    let E = env_in c.args.self.now.literals.operations.typing.context.now in
    let low = c.args.low.now in
    let high = c.args.high.now in
    handed E (HasWhere E high) (HasPost E c.args.operand.now (Post-F.«Post::Slice» low high)) (optional expression high) (optional expression low ++ optional expression high) c.in_err-high.field-0.0 c.from_residual-in_err-high.result c.from_residual-in_err-high.ensures.1 c.in_err-high.ensures (λ r h. let p = post_slices h in (p.1, p.3))

pub returns-in-Some : goal.returns-in-Some
returns-in-Some g c =
    let E = env_in c.args.self.now.literals.operations.typing.context.now in
    let o = c.args.operand.now in
    let low = c.args.low.now in
    let high = c.args.high.now in
    let a = item_of c.as_ref.result in
    let b = item_of c.as_ref-2.result in (
      simple_some E o c.in-Some.result low high c.in_ok-low.low c.in_ok-high.high a b (borrowed c.as_ref.result c.in_ok-low.low c.as_ref.ensures.value) (borrowed c.as_ref-2.result c.in_ok-high.high c.as_ref-2.ensures.value) c.in_ok-low.ensures.0 c.in_ok-high.ensures.0
          (found_some (SlicesSimply E o a b) c.in_ok-result.field-0 c.in-Some.result c.in-Some.is c.in_ok-result.ensures),
      subst (λ (f : Bool). AreLoud E (optional expression low ++ optional expression high) f) (sym c.either.ensures) (join_loud E (optional expression low) (optional expression high) c.in_ok-low.loud c.in_ok-high.louder c.in_ok-low.ensures.1 c.in_ok-high.ensures.1),
    )

pub returns : goal.returns
returns g c =
    let E = env_in c.args.self.now.literals.operations.typing.context.now in
    let o = c.args.operand.now in
    let a = item_of c.as_ref.result in
    let b = item_of c.as_ref-2.result in
    simple_none E o c.args.low.now c.args.high.now c.in_ok-low.low c.in_ok-high.high a b (borrowed c.as_ref.result c.in_ok-low.low c.as_ref.ensures.value) (borrowed c.as_ref-2.result c.in_ok-high.high c.as_ref-2.ensures.value) c.in_ok-low.ensures.0 c.in_ok-high.ensures.0
    (found_none (SlicesSimply E o a b) c.in_ok-result.field-0 c.in-None.is c.in_ok-result.ensures)
