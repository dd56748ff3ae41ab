use Rattle.std.proofs.Common.{subst}
use Rattle.go_rules.proofs.OneOperand.{type_once}
use Rattle.go_type_terms.specs.Answers.{env_in}
use Rattle.go_entries.specs.inner.Constants.{HoldsConstants}
use Rattle.go_entries.proofs.constants.type_of_constants.Goals as goal

pub returns-then-not-holds_constants : goal.returns-then-not-holds_constants
returns-then-not-holds_constants c =
    let E = env_in c.args.context.now in
    λ u h. c.if-not-holds_constants.ensures (subst (HoldsConstants E) (type_once E h.0 c.in_ok-term.ensures) h.1)
