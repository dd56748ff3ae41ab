use Rattle.std.proofs.Common.{ℕ, List, sym, subst}
use Rattle.go_calls.proofs.go_elements_proofs.Posts.{post_selects, selects_post}
use Rattle.go_calls.specs.go_elements.Selections.{Selects}
use Rattle.go_calls.proofs.go_operators_proofs.Answers.{found_none, found_some}
use Rattle.go_literals.specs.go_type_terms.Answers.{env_in}
use Rattle.go_expr.proofs.post.selected.Goals as goal

pub returns-in-Some : goal.returns-in-Some
returns-in-Some c =
    let E = env_in c.args.context.now in
    let s = found_some (Selects E c.bytes.result.now c.args.operand.now) c.in_ok-result.field-0 c.in-Some.result c.in-Some.is c.in_ok-result.ensures in
    selects_post (subst (λ (t : List ℕ). Selects E t c.args.operand.now c.in-Some.result) c.bytes.ensures s)

pub returns-in-None : goal.returns-in-None
returns-in-None c =
    let E = env_in c.args.context.now in
    λ r h. found_none (Selects E c.bytes.result.now c.args.operand.now) c.in_ok-result.field-0 c.in-None.is c.in_ok-result.ensures r (subst (λ (t : List ℕ). Selects E t c.args.operand.now r) (sym c.bytes.ensures) (post_selects h))
