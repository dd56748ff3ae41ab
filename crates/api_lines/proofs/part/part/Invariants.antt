use Rattle.std.proofs.Common.{◌≡◌, ◌++◌, ℕ, List, take}
use Rattle.std.specs.Vec.Iter.{into_iter_items}
use Rattle.go_base.specs.Growing.{Grows}
use Rattle.api_lines.specs.Lines.{HasText}
use Rattle.api_lines.specs.inner.MergedLines.{AreBefore, AreExactly, IsOwn}
use Rattle.api_lines.proofs.Parts.{IsShared}
use Rattle.api_lines.proofs.part.part.Given as goal

abbrev pub invariant-loop-line : goal.invariant-loop-line
invariant-loop-line l =
    AreExactly (IsShared l.others l.yielded) l.common × Grows (IsOwn (HasText l.others) l.platform l.yielded) l.fn.merged l.merged
    × ((text : List ℕ) → AreBefore text l.yielded → AreBefore text (take l.passed l.others)) × (l.yielded ++ into_iter_items l.line-iterator ≡ l.fn.lines)
