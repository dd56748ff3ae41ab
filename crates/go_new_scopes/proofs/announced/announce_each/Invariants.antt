use Rattle.std.proofs.Common.{◌≡◌, drop}
use Rattle.go_declared.specs.NameTables.{entries_of}
use Rattle.go_new_scopes.specs.inner.Announced.{with_names}
use Rattle.go_new_scopes.proofs.announced.announce_each.Given as goal

abbrev pub invariant-loop-listed : goal.invariant-loop-listed
invariant-loop-listed l = record l.env { announced = with_names l.env.announced (entries_of (drop l.listed-index l.names)) } ≡ record l.fn.env { announced = with_names l.fn.env.announced (entries_of l.names) }
