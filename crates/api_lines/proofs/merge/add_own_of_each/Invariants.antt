use Rattle.std.proofs.Common.{take}
use Rattle.std.specs.List.{zip}
use Rattle.go_base.specs.Growing.{Grows}
use Rattle.api_lines.specs.inner.AddedLines.{IsAddedFromSome}
use Rattle.api_lines.proofs.merge.add_own_of_each.Given as goal

abbrev pub invariant-loop-i : goal.invariant-loop-i
invariant-loop-i l = Grows (IsAddedFromSome l.common (take l.i (zip l.lists l.platforms))) l.fn.merged l.merged
