use Rattle.std.proofs.Common.{◌-◌, drop, length, sym, take}
use Rattle.go_asks.specs.go_expr.Chains.{NamesImported}
use Rattle.go_rules.specs.Expressions.{HasPosts}
use Rattle.go_type_terms.specs.Answers.{env_in}
use Rattle.go_type_terms.proofs.Handed.{told_told}
use Rattle.go_type_terms.proofs.NamedTypes.{same_tells}
use Rattle.go_assignments.specs.inner.Calls.{ImportedAlong}
use Rattle.go_assignments.proofs.Chains.{front_none, front_split, imported_alone, imported_first, imported_in, imported_to}
use Rattle.go_assignments.proofs.alone.imported_along.Goals as goal

pub returns-in_err-first-in-Some : goal.returns-in_err-first-in-Some
returns-in_err-first-in-Some c =
    let E = env_in c.args.context.now in
    let ps = c.args.posts.now in
    let x = c.in-Some.post.now in
    told_told (NamesImported E c.args.expr.now x) (ImportedAlong E c.args.expr.now ps) c.in_err-first-in-Some.field-0.0 c.from_residual.result c.from_residual.ensures.1 c.in_err-first-in-Some.ensures
    (imported_first E c.args.expr.now ps (take (length ps - 1) (drop 1 ps)) x (front_split ps x (sym c.in-Some.ensures.value)))

pub returns-in_ok-first-in-Some : goal.returns-in_ok-first-in-Some
returns-in_ok-first-in-Some c =
    let E = env_in c.args.context.now in
    let ps = c.args.posts.now in
    let x = c.in-Some.post.now in
    let i = front_split ps x (sym c.in-Some.ensures.value) in
    let o = c.in_ok-first-in-Some.first in
    same_tells (HasPosts E o (take (length ps - 1) (drop 1 ps))) (ImportedAlong E c.args.expr.now ps) c.along.result
    (imported_to E c.args.expr.now ps (take (length ps - 1) (drop 1 ps)) x o i c.in_ok-first-in-Some.ensures) (imported_in E c.args.expr.now ps (take (length ps - 1) (drop 1 ps)) x o i c.in_ok-first-in-Some.ensures) c.along.ensures

pub returns-in-None : goal.returns-in-None
returns-in-None c = imported_alone (env_in c.args.context.now) c.args.expr.now c.args.posts.now (front_none c.args.posts.now (sym c.in-None.ensures.value))
