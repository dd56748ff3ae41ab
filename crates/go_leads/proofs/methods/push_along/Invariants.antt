use Rattle.std.proofs.Common.{drop}
use Rattle.go_leads.proofs.GrownMethods.{Follows}
use Rattle.go_type_terms.specs.Answers.{env_in}
use Rattle.go_leads.proofs.methods.push_along.Given as goal

abbrev pub invariant-loop-post : goal.invariant-loop-post
invariant-loop-post l = Follows (env_in l.context) l.fn.first l.posts l.initial.methods l.operand (drop l.post-index l.posts) l.methods
