use Rattle.std.proofs.Common.{◌≡◌, drop}
use Rattle.go_file_blocks.specs.FileReading.{all_stand}
use Rattle.go_file_blocks.proofs.blocks.all_stand.Given as goal
use Rattle.go_syntax.specs.grammar.Terminals.{terminals}

abbrev pub invariant-loop-place : goal.invariant-loop-place
invariant-loop-place l = all_stand (terminals l.tokens) l.places ≡ all_stand (terminals l.ahead) (drop l.place-index l.places)
