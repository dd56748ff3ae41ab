use Rattle.std.proofs.Common.{◌≡◌, ◌++◌, drop, map}
use Rattle.go_declarations.specs.Listings.{declarations_of}
use Rattle.go_sources.specs.UnitSources.{file_of}
use Rattle.go_typings.specs.Declarations.{declarations_from}
use Rattle.go_check.proofs.declarations.push_files.Given as goal

abbrev pub invariant-loop-file : goal.invariant-loop-file
invariant-loop-file l = declarations_of l.listed ++ declarations_from l.file (map file_of (drop l.file l.files)) ≡ declarations_of l.initial.listed ++ declarations_from 0 (map file_of l.files)
