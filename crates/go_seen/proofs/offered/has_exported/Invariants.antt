use Rattle.std.proofs.Common.{◌≡◌, drop}
use Rattle.std.specs.List.{list_any}
use Rattle.go_exposed.specs.ExposedDeclarations.{is_exported_name}
use Rattle.go_seen.proofs.offered.has_exported.Given as goal

abbrev pub invariant-loop-name : goal.invariant-loop-name
invariant-loop-name l = list_any is_exported_name (drop l.name-index l.names) ≡ list_any is_exported_name l.names
