use Rattle.std.proofs.Common.{◌-◌, drop, length, sym, take}
use Rattle.go_literals.specs.go_type_terms.Answers.{env_in}
use Rattle.go_expr.proofs.PrimaryExprs.{alone_at, behind_first, qualified_at, unqualified_at}
use Rattle.go_expr.proofs.exprs.Exprs.primary.Goals as goal

pub returns-in-None : goal.returns-in-None
returns-in-None g c = λ e i. alone_at (env_in c.args.self.now.literals.operations.typing.context.now) e c.args.operand.now c.args.posts.now (sym c.in-None.ensures.value) i c.unqualified.result c.unqualified.ensures

pub returns-in-Some-imported_name : goal.returns-in-Some-imported_name
returns-in-Some-imported_name g c =
    let ps = c.args.posts.now in
    λ e i. qualified_at (env_in c.args.self.now.literals.operations.typing.context.now) e c.args.operand.now ps (take (length ps - 1) (drop 1 ps)) c.in-Some.post.now c.in-Some-imported_name.package.now c.in-Some-imported_name.name.now (sym c.in-Some.ensures.value) (behind_first ps) i c.in-Some-imported_name.ensures c.qualified.result c.qualified.ensures

pub returns-in-None-imported_name : goal.returns-in-None-imported_name
returns-in-None-imported_name g c = λ e i. unqualified_at (env_in c.args.self.now.literals.operations.typing.context.now) e c.args.operand.now c.args.posts.now c.in-Some.post.now (sym c.in-Some.ensures.value) i c.in-None-imported_name.ensures c.unqualified-in-None-imported_name.result c.unqualified-in-None-imported_name.ensures
