use Rattle.std.proofs.Common.{◌≡◌, ◌++◌, Some, drop, map}
use Rattle.go_local_scopes.specs.Slots.{names_in}
use Rattle.go_local_scopes.proofs.slots.push_names.Given as goal

abbrev pub invariant-loop-name : goal.invariant-loop-name
invariant-loop-name l = names_in l.slots ++ map Some (drop l.name-index l.names) ≡ names_in l.initial.slots ++ map Some l.names
