use Rattle.std.proofs.Common.{drop}
use Rattle.go_literals.specs.go_type_terms.Answers.{env_in}
use Rattle.go_expr.proofs.Running.{Going}
use Rattle.go_expr.proofs.exprs.Exprs.posts.Given as goal

abbrev pub invariant-loop-post : goal.invariant-loop-post
invariant-loop-post g l = Going (env_in l.self.literals.operations.typing.context.now) l.fn.first l.posts l.operand (drop l.post-index l.posts) l.loud
