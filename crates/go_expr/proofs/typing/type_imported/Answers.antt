use Rattle.go_literals.specs.go_type_terms.Answers.{env_in}
use Rattle.go_expr.proofs.ChainSteps.{imported_named, imported_none}
use Rattle.go_expr.proofs.typing.type_imported.Goals as goal

pub returns-in-Some : goal.returns-in-Some
returns-in-Some c =
    imported_named (env_in c.args.context.now) c.args.expr.now c.args.post.now c.in-Some.package.now c.in-Some.name.now c.in-Some.ensures c.imported_within.result c.imported_within.ensures

pub returns-in-None : goal.returns-in-None
returns-in-None c =
    imported_none (env_in c.args.context.now) c.args.expr.now c.args.post.now c.in-None.ensures
