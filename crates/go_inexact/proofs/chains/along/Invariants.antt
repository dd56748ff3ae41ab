use Rattle.std.proofs.Common.{drop}
use Rattle.go_inexact.proofs.Chained.{Goes}
use Rattle.go_type_terms.specs.Answers.{env_in}
use Rattle.go_inexact.proofs.chains.along.Given as goal

abbrev pub invariant-loop-post : goal.invariant-loop-post
invariant-loop-post l = Goes (env_in l.context) l.fn.first l.posts l.operand (drop l.post-index l.posts)
