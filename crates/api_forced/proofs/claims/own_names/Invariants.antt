use Rattle.std.proofs.Common.{take}
use Rattle.api_forced.specs.inner.Graphs.{OwnNames}
use Rattle.api_correspond.specs.inner.Tables.{KeepsTexts}
use Rattle.api_forced.proofs.claims.own_names.Given as goal

abbrev pub invariant-loop-pair : goal.invariant-loop-pair
invariant-loop-pair l = record { keeps : KeepsTexts l.fn.texts.keys l.texts.keys; names : OwnNames l.world l.texts.keys (take l.pair-index l.pair-items) l.own.items }
