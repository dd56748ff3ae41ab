use Rattle.std.proofs.Common.{◌≡◌, ◌++◌, length}
use Rattle.std.specs.List.{zip}
use Rattle.std.specs.Vec.Iter.{into_iter_items}
use Rattle.go_base.specs.Growing.{Grows}
use Rattle.api_lines.specs.inner.MergedLines.{IsOwnOfSome}
use Rattle.api_lines.proofs.ordered.add_own.Given as goal

abbrev pub invariant-loop-lines : goal.invariant-loop-lines
invariant-loop-lines l = Grows (IsOwnOfSome l.common (zip l.yielded l.platforms)) l.fn.merged l.merged × (l.i ≡ length l.yielded) × (l.yielded ++ into_iter_items l.lines-iterator ≡ l.fn.lists)
