use Rattle.std.proofs.Common.{inl, inr}
use Rattle.go_asks.proofs.EmbeddedTypes.{none_told}
use Rattle.go_rules.specs.Expressions.{Has, HasPosts}
use Rattle.go_type_terms.specs.Answers.{env_in}
use Rattle.go_type_terms.proofs.NamedTypes.{same_tells}
use Rattle.go_assignments.specs.inner.Calls.{ImportedAlong, IsAlong}
use Rattle.go_assignments.proofs.Chains.{along_imported, along_in}
use Rattle.go_assignments.proofs.alone.expr_along.Goals as goal

pub returns-in-Ok : goal.returns-in-Ok
returns-in-Ok c =
    let E = env_in c.args.context.now in
    let e = c.args.expr.now in
    let ps = c.args.posts.now in
    let o = c.in-Ok.first in
    same_tells (HasPosts E o ps) (IsAlong E e ps) c.along.result (λ r h. inl (o, c.in-Ok.ensures, h)) (along_in E e ps o c.in-Ok.ensures) c.along.ensures

pub returns-in-Err-Untyped : goal.returns-in-Err-Untyped
returns-in-Err-Untyped c =
    let E = env_in c.args.context.now in
    let e = c.args.expr.now in
    let ps = c.args.posts.now in
    same_tells (ImportedAlong E e ps) (IsAlong E e ps) c.imported_along.result (λ r h. inr h)
    (along_imported E e ps (none_told (Has E e) c.in-Err-Untyped.field-0 c.in-Err-Untyped.field-0-is c.in-Err-Untyped.ensures)) c.imported_along.ensures
