use Rattle.std.proofs.Common.{◌≡◌, ◌++◌, drop}
use Rattle.go_rules.specs.Asks.{texts}
use Rattle.go_left_out.proofs.skipped.copied.Given as goal

abbrev pub invariant-loop-name : goal.invariant-loop-name
invariant-loop-name l = l.copied ++ texts (drop l.name-index l.names) ≡ texts l.names
