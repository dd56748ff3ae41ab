use Rattle.std.proofs.Common.{◌≡◌, length, None}
use Rattle.std.specs.List.{slice_split}
use Rattle.std.specs.Option.{option_copied}
use Rattle.go_imports.specs.ImportPaths.{last_of, is_slash}
use Rattle.go_imports.proofs.import_paths.last_of.Given as goal

abbrev pub invariant-loop-part : goal.invariant-loop-part
invariant-loop-part l = last_of (option_copied l.before) (slice_split is_slash l.rest) ≡ last_of None (slice_split is_slash l.path)

abbrev pub decreases-loop-part : goal.decreases-loop-part
decreases-loop-part l = length l.rest
