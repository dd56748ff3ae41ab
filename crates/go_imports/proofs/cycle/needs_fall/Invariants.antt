use Rattle.std.proofs.Common.{ℕ, ◌≤◌, take, get_or}
use Rattle.go_base.specs.Lists.{Has}
use Rattle.go_imports.proofs.cycle.needs_fall.Given as goal

abbrev pub invariant-loop-need : goal.invariant-loop-need
invariant-loop-need l = (n : ℕ) → Has (take l.need-index l.needs) n → get_or l.levels n 0 ≤ l.level
