use Rattle.std.proofs.Common.{◌<◌, ◌≤◌, ℕ}
use Rattle.std.specs.Prelude.{slice_index}
use Rattle.go_levels.proofs.numbers.height.Given as goal

abbrev pub invariant-loop-at : goal.invariant-loop-at
invariant-loop-at l = record {
  above : (n : ℕ) → n < l.at → slice_index l.levels n < l.height;
  few : l.height ≤ 4294967296;
}
