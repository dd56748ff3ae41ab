use Rattle.std.proofs.Common.{drop}
use Rattle.go_assignments.proofs.Chains.{Follows}
use Rattle.go_type_terms.specs.Answers.{env_in}
use Rattle.go_assignments.proofs.alone.along.Given as goal

abbrev pub invariant-loop-post : goal.invariant-loop-post
invariant-loop-post l = Follows (env_in l.context) l.fn.first l.posts l.operand (drop l.post-index l.posts)
