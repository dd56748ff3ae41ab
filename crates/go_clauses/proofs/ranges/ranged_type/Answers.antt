use Rattle.std.proofs.Common.{List, subst}
use Rattle.go_model.specs.declared.types.term.Term.{Term}
use Rattle.go_model.specs.types.Terms.{Layer}
use Rattle.go_type_terms.specs.Answers.{Tells, env_in}
use Rattle.go_clauses.specs.inner.Levels.{RangesLevel}
use Rattle.go_clauses.proofs.ranges.ranged_type.Goals as goal

pub returns : goal.returns
returns c = subst (λ (l : Layer). Tells {A = List Term} (RangesLevel (env_in c.args.context.now) l) c.ranged_level.result) c.under.ensures c.ranged_level.ensures
