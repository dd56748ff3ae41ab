use Rattle.std.proofs.Common.{ap, ◌∙◌, sym}
use Rattle.go_syntax.specs.declared.expression.Post.{Post-F, out-Post}
use Rattle.go_syntax.specs.declared.expression.Post.TheVariants.{outs-Call, outs-CallReceiveChan, outs-FullSlice, outs-Index, outs-Slice, outs-TypeAssertion}
use Rattle.go_literals.specs.go_type_terms.Answers.{env_in}
use Rattle.go_expr.proofs.Handing.{post_form}
use Rattle.go_expr.proofs.exprs.Exprs.post.Goals as goal

pub returns-in-TypeAssertion : goal.returns-in-TypeAssertion
returns-in-TypeAssertion g c =
    let E = env_in c.args.self.now.literals.operations.typing.context.now in
    let i = ap out-Post c.in-TypeAssertion.is ∙ outs-TypeAssertion c.in-TypeAssertion.form ∙ ap Post-F.TypeAssertion (sym c.value.ensures) in
    post_form E c.args.operand.now c.args.post.now (Post-F.TypeAssertion c.value.result.now) i c.asserted.result c.asserted.ensures

pub returns-in-Index : goal.returns-in-Index
returns-in-Index g c =
    let E = env_in c.args.self.now.literals.operations.typing.context.now in
    let i = ap out-Post c.in-Index.is ∙ outs-Index c.in-Index.expr ∙ ap Post-F.Index (sym c.value-in-Index.ensures) in
    post_form E c.args.operand.now c.args.post.now (Post-F.Index c.value-in-Index.result.now) i c.indexed.result c.indexed.ensures

pub returns-in-Slice : goal.returns-in-Slice
returns-in-Slice g c =
    let E = env_in c.args.self.now.literals.operations.typing.context.now in
    let i = ap out-Post c.in-Slice.is ∙ outs-Slice c.in-Slice.low c.in-Slice.high in
    post_form E c.args.operand.now c.args.post.now (Post-F.«Post::Slice» c.in-Slice.low c.in-Slice.high) i c.sliced.result c.sliced.ensures

pub returns-in-FullSlice : goal.returns-in-FullSlice
returns-in-FullSlice g c =
    let E = env_in c.args.self.now.literals.operations.typing.context.now in
    let i = ap out-Post c.in-FullSlice.is ∙ outs-FullSlice c.in-FullSlice.low c.in-FullSlice.high c.in-FullSlice.bound ∙ (λ j. Post-F.FullSlice c.in-FullSlice.low (sym c.value-in-FullSlice.ensures j) (sym c.value-in-FullSlice-2.ensures j)) in
    post_form E c.args.operand.now c.args.post.now (Post-F.FullSlice c.in-FullSlice.low c.value-in-FullSlice.result.now c.value-in-FullSlice-2.result.now) i c.fully_sliced.result c.fully_sliced.ensures

pub returns-in-Call : goal.returns-in-Call
returns-in-Call g c =
    let E = env_in c.args.self.now.literals.operations.typing.context.now in
    let i = ap out-Post c.in-Call.is ∙ outs-Call c.in-Call.exprs c.in-Call.dots ∙ ap (λ y. Post-F.Call y c.in-Call.dots) (sym c.items.ensures) in
    post_form E c.args.operand.now c.args.post.now (Post-F.Call c.items.result.now c.in-Call.dots) i c.call.result c.call.ensures

pub returns-in-CallReceiveChan : goal.returns-in-CallReceiveChan
returns-in-CallReceiveChan g c =
    let E = env_in c.args.self.now.literals.operations.typing.context.now in
    let i = ap out-Post c.in-CallReceiveChan.is ∙ outs-CallReceiveChan c.in-CallReceiveChan.element c.in-CallReceiveChan.exprs c.in-CallReceiveChan.dots ∙ (λ j. Post-F.CallReceiveChan (sym c.value-in-CallReceiveChan.ensures j) (sym c.items-in-CallReceiveChan.ensures j) c.in-CallReceiveChan.dots) in
    post_form E c.args.operand.now c.args.post.now (Post-F.CallReceiveChan c.value-in-CallReceiveChan.result.now c.items-in-CallReceiveChan.result.now c.in-CallReceiveChan.dots) i c.call_with_type.result c.call_with_type.ensures
