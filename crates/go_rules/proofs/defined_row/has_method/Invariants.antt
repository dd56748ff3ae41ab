use Rattle.std.proofs.Common.{◌≡◌, drop}
use Rattle.go_rules.specs.Scopes.{is_had}
use Rattle.go_rules.proofs.defined_row.has_method.Given as goal

abbrev pub invariant-loop-method : goal.invariant-loop-method
invariant-loop-method l = is_had l.sel (drop l.method-index l.methods) ≡ is_had l.sel l.methods
