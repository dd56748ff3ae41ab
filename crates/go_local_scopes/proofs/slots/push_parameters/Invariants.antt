use Rattle.std.proofs.Common.{◌≡◌, ◌++◌, drop}
use Rattle.go_local_scopes.specs.Slots.{names_in}
use Rattle.go_statement_rules.specs.Scopes.{parameter_slots}
use Rattle.go_local_scopes.proofs.slots.push_parameters.Given as goal

abbrev pub invariant-loop-decl : goal.invariant-loop-decl
invariant-loop-decl l = names_in l.slots ++ parameter_slots (drop l.decl-index l.decls) ≡ names_in l.initial.slots ++ parameter_slots l.decls
