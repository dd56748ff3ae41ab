use Rattle.std.proofs.Common.{◌≡◌, take}
use Rattle.go_work.proofs.copied.copied.Given as goal

abbrev pub invariant-loop-one : goal.invariant-loop-one
invariant-loop-one l = l.copied ≡ take l.one-index l.skipped
