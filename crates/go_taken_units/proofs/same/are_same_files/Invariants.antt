use Rattle.std.proofs.Common.{◌≡◌, map, take}
use Rattle.go_sources.specs.UnitSources.{file_of}
use Rattle.go_taken_units.proofs.same.are_same_files.Given as goal

abbrev pub invariant-loop-number : goal.invariant-loop-number
invariant-loop-number l = take l.number (map file_of l.others) ≡ take l.number (map file_of l.files)
