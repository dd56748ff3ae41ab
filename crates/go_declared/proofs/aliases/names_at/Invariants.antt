use Rattle.go_declared.specs.AliasEnds.{name_at}
use Rattle.go_declared.specs.inner.NextAliases.{AreNames, step}
use Rattle.go_declared.proofs.aliases.names_at.Given as goal

abbrev pub invariant-loop-number : goal.invariant-loop-number
invariant-loop-number l = AreNames l.number (λ i. name_at l.aliased (step l.lasts i)) l.ends.items
