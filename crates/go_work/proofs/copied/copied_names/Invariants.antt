use Rattle.std.proofs.Common.{◌≡◌, take}
use Rattle.go_work.proofs.copied.copied_names.Given as goal

abbrev pub invariant-loop-name : goal.invariant-loop-name
invariant-loop-name l = l.copied ≡ take l.name-index l.names
