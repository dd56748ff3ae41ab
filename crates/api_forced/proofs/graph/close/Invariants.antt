use Rattle.api_correspond.specs.inner.Tables.{InStep}
use Rattle.api_forced.proofs.Following.{Following}
use Rattle.api_forced.proofs.graph.close.Given as goal

abbrev pub invariant-loop-at : goal.invariant-loop-at
invariant-loop-at l = record { step : InStep l.table.codes.keys l.table.pairs.items; following : Following l.old l.new l.fn.table.pairs.items l.at l.table.pairs.items l.next.items }
