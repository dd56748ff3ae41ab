use Rattle.std.proofs.Common.{◌≡◌, map, take}
use Rattle.go_file_blocks.specs.FileBlocks.{alone}
use Rattle.go_file_blocks.proofs.blocks.file_bodies.Given as goal

abbrev pub invariant-loop-place : goal.invariant-loop-place
invariant-loop-place l = l.alone ≡ map alone (take l.place-index l.place-items)
