use Rattle.std.proofs.Common.{◌≡◌, ◌-◌, List, [], ◌∷◌, ◌++◌, length, subst, sym, take, ◌∙◌}
use Rattle.go_syntax.specs.declared.expression.Post.{Post}
use Rattle.go_type_terms.specs.Answers.{env_in}
use Rattle.go_assignments.proofs.Calls.{last_in, last_no_call, last_to, no_last}
use Rattle.go_assignments.proofs.Chains.{last_none, last_some, last_split}
use Rattle.go_assignments.proofs.Decided.{decided_as}
use Rattle.go_assignments.specs.inner.Calls.{EndsInCall, MayCall}
use Rattle.go_assignments.proofs.alone.ends_in_call.Goals as goal

pub returns-then-not-is_call : goal.returns-then-not-is_call
returns-then-not-is_call c =
    let ps = c.args.posts.now in
    let x = c.in-Some.last.now in
    last_no_call (env_in c.args.context.now) c.args.expr.now ps (take (length ps - 1) ps) x (last_split ps x (sym c.in-Some.ensures.value)) (sym c.is_call.ensures ∙ c.if-not-is_call.true)

pub without_last-requires : goal.without_last-requires
without_last-requires c = last_some c.args.posts.now c.in-Some.last.now (sym c.in-Some.ensures.value)

pub returns-else-not-is_call : goal.returns-else-not-is_call
returns-else-not-is_call c =
    let E = env_in c.args.context.now in
    let ps = c.args.posts.now in
    let x = c.in-Some.last.now in
    let i = subst (λ (qs : List Post). ps ≡ qs ++ x ∷ []) (sym c.without_last.ensures) (last_split ps x (sym c.in-Some.ensures.value)) in
    let qs = c.without_last.result.now in
    decided_as (MayCall E c.args.expr.now qs) (EndsInCall E c.args.expr.now ps) c.may_call.result (last_to E c.args.expr.now ps qs x i (sym c.is_call.ensures ∙ c.if-not-is_call.false)) (last_in E c.args.expr.now ps qs x i) c.may_call.ensures

pub returns-in-None : goal.returns-in-None
returns-in-None c = no_last (env_in c.args.context.now) c.args.expr.now c.args.posts.now (last_none c.args.posts.now (sym c.in-None.ensures.value))
