use Rattle.std.proofs.Common.{subst}
use Rattle.go_model.specs.types.Comparison.{Comparable}
use Rattle.go_selectors.specs.Answers.{Decides}
use Rattle.go_types.proofs.comparison.comparable_in.Goals as goal

pub returns : goal.returns
returns g c = subst (λ x. Decides c.in_ok-answer.answer (Comparable (g.T.TypeTable.lookup x) c.args.term.now)) c.new-lookup.ensures c.in_ok-answer.ensures
