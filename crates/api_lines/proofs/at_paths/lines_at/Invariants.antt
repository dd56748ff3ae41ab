use Rattle.std.proofs.Common.{◌≡◌, ◌++◌}
use Rattle.std.specs.Prelude.{Decides}
use Rattle.std.specs.Vec.Iter.{into_iter_items}
use Rattle.go_base.specs.Lists.{Has}
use Rattle.api_lines.specs.inner.MergedLines.{AreExactly}
use Rattle.api_lines.specs.Lines.{IsLineAt}
use Rattle.api_lines.proofs.at_paths.lines_at.Given as goal

abbrev pub invariant-loop-line : goal.invariant-loop-line
invariant-loop-line l = AreExactly (IsLineAt l.paths l.yielded) l.kept × Decides l.found (Has l.paths l.last) × (l.yielded ++ into_iter_items l.line-iterator ≡ l.fn.lines)
