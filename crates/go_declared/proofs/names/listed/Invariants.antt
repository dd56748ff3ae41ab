use Rattle.std.proofs.Common.{◌≡◌, take}
use Rattle.go_declared.specs.NameTables.{entries_of}
use Rattle.go_declared.proofs.names.listed.Given as goal

abbrev pub invariant-loop-entry : goal.invariant-loop-entry
invariant-loop-entry l = entries_of l.names ≡ take l.entry-index l.entries
