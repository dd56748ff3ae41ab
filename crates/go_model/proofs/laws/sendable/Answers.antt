use Rattle.go_model.proofs.Sendable.{package_send, package_sync, world_send, world_sync}
use Rattle.go_model.proofs.laws.sendable.Goals as goal

pub returns-clause-packages_sent : goal.returns-clause-packages_sent
returns-clause-packages_sent c = package_send

pub returns-clause-packages_shared : goal.returns-clause-packages_shared
returns-clause-packages_shared c = package_sync

pub returns-clause-worlds_sent : goal.returns-clause-worlds_sent
returns-clause-worlds_sent c = world_send

pub returns-clause-worlds_shared : goal.returns-clause-worlds_shared
returns-clause-worlds_shared c = world_sync
