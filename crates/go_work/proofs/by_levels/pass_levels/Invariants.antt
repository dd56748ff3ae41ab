use Rattle.std.proofs.Common.{◌≤◌, ◌+◌}
use Rattle.go_levels.specs.LevelNumbers.{below_level}
use Rattle.go_work.specs.inner.Progresses.{IsReached}
use Rattle.go_work.proofs.by_levels.pass_levels.Given as goal

abbrev pub invariant-loop-level : goal.invariant-loop-level
invariant-loop-level g l = record {
  reached : IsReached l.plan l.level l.progress;
  steps : l.steps ≤ l.initial.steps + below_level l.levels l.level;
}
