use Rattle.std.proofs.Common.{take, true}
use Rattle.go_rules.specs.Scopes.{env_of}
use Rattle.go_usability.specs.inner.Levels.{Visits}
use Rattle.go_usability.proofs.told.visit.Given as goal

abbrev pub invariant-loop-part : goal.invariant-loop-part
invariant-loop-part l = Visits (env_of l.context.env.now) l.sel (take l.part-index l.layer.items) l.fn.list.all.items l.fn.list.seen.keys l.list.all.items l.list.seen.keys true
