use Rattle.go_sendable.proofs.Files.{file_send, file_sync}
use Rattle.go_sendable.proofs.laws.files.Goals as goal

pub returns-clause-sent : goal.returns-clause-sent
returns-clause-sent c = file_send

pub returns-clause-shared : goal.returns-clause-shared
returns-clause-shared c = file_sync
