use Rattle.go_client_packages.proofs.TypingsKept.{typing_kept}
use Rattle.go_client_packages.proofs.laws.kept_typings.Goals as goal

pub returns : goal.returns
returns c s t u r pairs std is_open K a typing = typing_kept s t u r pairs std is_open K a typing
