use Rattle.go_rules.specs.Scopes.{env_of}
use Rattle.go_usability.proofs.Walked.{Walked}
use Rattle.go_usability.proofs.told.told_down.Given as goal

abbrev pub invariant-loop-level : goal.invariant-loop-level
invariant-loop-level l = Walked (env_of l.context.env.now) l.sel l.term l.level l.from l.list.all.items l.list.seen.keys
