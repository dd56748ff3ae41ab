use Rattle.go_client_typings.proofs.Unflagged.{client_without}
use Rattle.go_client_typings.proofs.laws.typed_without_flag.Goals as goal

pub returns : goal.returns
returns c s u blocks a = client_without s u blocks a
