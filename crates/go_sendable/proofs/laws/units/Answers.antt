use Rattle.go_sendable.proofs.Units.{unit_send, unit_sync}
use Rattle.go_sendable.proofs.laws.units.Goals as goal

pub returns-clause-sent : goal.returns-clause-sent
returns-clause-sent c = unit_send

pub returns-clause-shared : goal.returns-clause-shared
returns-clause-shared c = unit_sync
