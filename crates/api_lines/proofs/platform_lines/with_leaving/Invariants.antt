use Rattle.std.proofs.Common.{◌≡◌, ◌++◌}
use Rattle.std.specs.Vec.Iter.{into_iter_items}
use Rattle.api_lines.specs.inner.Shares.{AreJoined}
use Rattle.api_lines.proofs.platform_lines.with_leaving.Given as goal

abbrev pub invariant-loop-lines : goal.invariant-loop-lines
invariant-loop-lines l = AreJoined l.leaving l.yielded l.all × (l.yielded ++ into_iter_items l.lines-iterator ≡ l.fn.own)
