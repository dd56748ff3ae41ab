use Rattle.go_rules.specs.Scopes.{env_of}
use Rattle.go_usability.proofs.Entering.{Enters}
use Rattle.go_usability.proofs.comparison.entered_below.Given as goal

abbrev pub invariant-loop-at : goal.invariant-loop-at
invariant-loop-at l = Enters (env_of l.context.env.now) l.term l.at l.list.all.items l.list.seen.keys
