use Rattle.std.proofs.Common.{vec_len}
use Rattle.api_correspond.specs.inner.Tables.{InStep}
use Rattle.api_correspond.proofs.Tabling.{Adding}
use Rattle.api_forced.proofs.graph.add_all.Given as goal

abbrev pub invariant-loop-pair : goal.invariant-loop-pair
invariant-loop-pair l = record { step : InStep l.table.codes.keys l.table.pairs.items; adding : Adding l.fn.pairs.items l.pairs.items l.fn.table.pairs.items l.table.pairs.items l.numbers }

abbrev pub decreases-loop-pair : goal.decreases-loop-pair
decreases-loop-pair l = vec_len l.pairs
