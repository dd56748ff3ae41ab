use Rattle.go_clients.proofs.vet.vet_unit.Goals as goal

pub refused-requires-clause-refused : goal.refused-requires-clause-refused
refused-requires-clause-refused c = c.in-Err.ensures

pub bodies_inside-requires-clause-typed : goal.bodies_inside-requires-clause-typed
bodies_inside-requires-clause-typed c = (_, c.in-Ok.ensures)
