use Rattle.std.proofs.Common.{subst}
use Rattle.go_model.specs.types.Comparison.{Comparable}
use Rattle.go_rules.specs.Scopes.{env_of}
use Rattle.go_types.specs.go_selectors.Answers.{Decides}
use Rattle.go_usability.proofs.table.comparable.Goals as goal

pub returns : goal.returns
returns c = subst (λ x. Decides c.in_ok-answer.answer (Comparable (env_of x).table c.args.term.now)) c.args.context.now.same c.in_ok-answer.ensures
