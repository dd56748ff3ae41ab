use Rattle.std.proofs.Common.{take}
use Rattle.go_assignments.specs.inner.Definitions.{AreOffers}
use Rattle.go_type_terms.specs.Answers.{env_in}
use Rattle.go_assignments.proofs.defined.offers.Given as goal

abbrev pub invariant-loop-at : goal.invariant-loop-at
invariant-loop-at l = AreOffers (env_in l.context) (take l.at l.names) (take l.at l.values) l.all
