use Rattle.std.proofs.Common.{vec_len}
use Rattle.api_correspond.specs.inner.Tables.{InStep, KeepsTexts}
use Rattle.api_forced.proofs.Entering.{Entering}
use Rattle.api_forced.proofs.forced.enter.Given as goal

abbrev pub invariant-loop-one : goal.invariant-loop-one
invariant-loop-one l = record { step : InStep l.table.codes.keys l.table.pairs.items; keeps : KeepsTexts l.fn.texts.keys l.texts.keys; entering : Entering l.fn.found.items l.found.items l.texts.keys l.table.pairs.items l.roots.items }

abbrev pub decreases-loop-one : goal.decreases-loop-one
decreases-loop-one l = vec_len l.found
