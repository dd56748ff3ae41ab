use Rattle.std.proofs.Common.{◌≡◌, [], drop}
use Rattle.api_worlds.specs.inner.KeptLines.{kept_lines}
use Rattle.api_worlds.proofs.left_out.left_out.Given as goal

abbrev pub invariant-loop-unit : goal.invariant-loop-unit
invariant-loop-unit l = kept_lines l.tree l.std_tree l.packages.items (drop l.unit-index l.kept) ≡ kept_lines l.tree l.std_tree [] l.kept
