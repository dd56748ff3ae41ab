use Rattle.std.proofs.Common.{take}
use Rattle.std.specs.List.{AllZip}
use Rattle.go_assignments.specs.inner.Results.{IsResult}
use Rattle.go_type_terms.specs.Answers.{env_in}
use Rattle.go_assignments.proofs.returned.are_results_of.Given as goal

abbrev pub invariant-loop-at : goal.invariant-loop-at
invariant-loop-at l = AllZip (IsResult (env_in l.context)) (take l.at l.terms) (take l.at l.results)
