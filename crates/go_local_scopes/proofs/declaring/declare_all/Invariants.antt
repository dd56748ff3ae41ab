use Rattle.std.proofs.Common.{◌≡◌, [], drop}
use Rattle.go_local_scopes.specs.Slots.{names_in}
use Rattle.go_local_scopes.specs.States.{Kept}
use Rattle.go_local_scopes.proofs.Declared.{Onwards}
use Rattle.go_local_scopes.proofs.declaring.declare_all.Given as goal

abbrev pub invariant-loop-at : goal.invariant-loop-at
invariant-loop-at l = record {
  kept : Kept l.fn.env l.env;
  some : l.env.opened ≡ [] → ⊥;
  on : Onwards l.fn.env.opened (names_in l.names) l.meanings l.env.opened (drop l.at (names_in l.names)) (drop l.at l.meanings);
}
