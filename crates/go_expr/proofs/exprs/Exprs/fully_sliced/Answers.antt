use Rattle.std.proofs.Common.{◌∷◌, [], ◌++◌, ◌||◌, Bool, sym, subst}
use Rattle.go_base.specs.Keys.{item_of}
use Rattle.go_calls.proofs.go_elements_proofs.Posts.{post_full_slices}
use Rattle.go_calls.specs.go_elements.SliceExpressions.{HasWhere, SlicesFully}
use Rattle.go_calls.proofs.go_operators_proofs.Answers.{found_none, found_some}
use Rattle.go_rules.specs.Expressions.{Has, HasPost}
use Rattle.go_rules.specs.Nodes.{expression, optional}
use Rattle.go_syntax.specs.declared.expression.Post.{Post-F}
use Rattle.go_literals.specs.go_type_terms.Answers.{env_in}
use Rattle.go_literals.specs.go_type_terms.Loudness.{AreLoud}
use Rattle.go_literals.proofs.go_type_terms_proofs.Handed.{handed}
use Rattle.go_literals.proofs.go_type_terms_proofs.LoudTrees.{join_loud}
use Rattle.go_expr.proofs.Slicing.{borrowed, full_none, full_some}
use Rattle.go_expr.proofs.exprs.Exprs.fully_sliced.Goals as goal

pub returns-in_err-low : goal.returns-in_err-low
returns-in_err-low g c =
    let E = env_in c.args.self.now.literals.operations.typing.context.now in
    let low = c.args.low.now in
    let e = c.args.high.now in
    let f = c.args.bound.now in
    handed E (HasWhere E low) (HasPost E c.args.operand.now (Post-F.FullSlice low e f)) (optional expression low) (optional expression low ++ expression e ∷ expression f ∷ []) c.in_err-low.field-0.0 c.from_residual.result c.from_residual.ensures.1 c.in_err-low.ensures (λ r h. let p = post_full_slices h in (p.0, p.3))

pub returns-in_err-high : goal.returns-in_err-high
returns-in_err-high g c =
    let E = env_in c.args.self.now.literals.operations.typing.context.now in
    let low = c.args.low.now in
    let e = c.args.high.now in
    let f = c.args.bound.now in
    handed E (Has E e) (HasPost E c.args.operand.now (Post-F.FullSlice low e f)) (expression e ∷ []) (optional expression low ++ expression e ∷ expression f ∷ []) c.in_err-high.field-0.0 c.from_residual-in_err-high.result c.from_residual-in_err-high.ensures.1 c.in_err-high.ensures (λ r h. let p = post_full_slices h in (p.1, p.4))

pub returns-in_err-bound : goal.returns-in_err-bound
returns-in_err-bound g c =
    let E = env_in c.args.self.now.literals.operations.typing.context.now in
    let low = c.args.low.now in
    let e = c.args.high.now in
    let f = c.args.bound.now in
    handed E (Has E f) (HasPost E c.args.operand.now (Post-F.FullSlice low e f)) (expression f ∷ []) (optional expression low ++ expression e ∷ expression f ∷ []) c.in_err-bound.field-0.0 c.from_residual-in_err-bound.result c.from_residual-in_err-bound.ensures.1 c.in_err-bound.ensures (λ r h. let p = post_full_slices h in (p.2, p.5))

pub returns-in-Some : goal.returns-in-Some
returns-in-Some g c =
    let E = env_in c.args.self.now.literals.operations.typing.context.now in
    let o = c.args.operand.now in
    let low = c.args.low.now in
    let e = c.args.high.now in
    let f = c.args.bound.now in
    let a = item_of c.as_ref.result in (
      full_some E o c.in-Some.result c.in_ok-high.high c.in_ok-bound.bound low e f c.in_ok-low.low a (borrowed c.as_ref.result c.in_ok-low.low c.as_ref.ensures.value) c.in_ok-low.ensures.0 c.in_ok-high.ensures.0 c.in_ok-bound.ensures.0
          (found_some (SlicesFully E o a c.in_ok-high.high c.in_ok-bound.bound) c.in_ok-result.field-0 c.in-Some.result c.in-Some.is c.in_ok-result.ensures),
      subst (λ (b : Bool). AreLoud E (optional expression low ++ expression e ∷ expression f ∷ []) b) (sym c.either-in-Some.ensures)
          (subst (λ (b : Bool). AreLoud E (optional expression low ++ expression e ∷ expression f ∷ []) (c.in_ok-low.at_low || b)) (sym c.either.ensures)
          (join_loud E (optional expression low) (expression e ∷ expression f ∷ []) c.in_ok-low.at_low (c.in_ok-high.at_high || c.in_ok-bound.at_bound) c.in_ok-low.ensures.1
          (join_loud E (expression e ∷ []) (expression f ∷ []) c.in_ok-high.at_high c.in_ok-bound.at_bound c.in_ok-high.ensures.1 c.in_ok-bound.ensures.1))),
    )

pub returns : goal.returns
returns g c =
    let E = env_in c.args.self.now.literals.operations.typing.context.now in
    let o = c.args.operand.now in
    let a = item_of c.as_ref.result in
    full_none E o c.in_ok-high.high c.in_ok-bound.bound c.args.low.now c.args.high.now c.args.bound.now c.in_ok-low.low a (borrowed c.as_ref.result c.in_ok-low.low c.as_ref.ensures.value) c.in_ok-low.ensures.0 c.in_ok-high.ensures.0 c.in_ok-bound.ensures.0
    (found_none (SlicesFully E o a c.in_ok-high.high c.in_ok-bound.bound) c.in_ok-result.field-0 c.in-None.is c.in_ok-result.ensures)
