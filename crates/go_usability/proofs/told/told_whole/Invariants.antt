use Rattle.go_rules.specs.Scopes.{env_of}
use Rattle.go_usability.proofs.Whole.{Tells}
use Rattle.go_usability.proofs.told.told_whole.Given as goal

abbrev pub invariant-loop-at : goal.invariant-loop-at
invariant-loop-at l = Tells (env_of l.context.env.now) l.methods l.term l.at l.list.all.items l.list.seen.keys
