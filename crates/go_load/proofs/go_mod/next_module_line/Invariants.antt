use Rattle.std.proofs.Common.{◌≡◌, length}
use Rattle.go_load.specs.GoMod.{module_lines}
use Rattle.go_load.proofs.go_mod.next_module_line.Given as goal

abbrev pub invariant-loop-line : goal.invariant-loop-line
invariant-loop-line l = module_lines l.bytes ≡ module_lines l.rest

abbrev pub decreases-loop-line : goal.decreases-loop-line
decreases-loop-line l = length l.rest
