use Rattle.go_client_packages.proofs.EntriesKept.{entries_reached, images_had}
use Rattle.go_client_packages.proofs.laws.kept_entries.Goals as goal

pub returns-clause-reached : goal.returns-clause-reached
returns-clause-reached c = λ s t u r pairs std is_open K within a typing. entries_reached s t u r pairs std is_open K within a typing

pub returns-clause-had : goal.returns-clause-had
returns-clause-had c = λ s t u r pairs std is_open K within a typing. images_had s t u r pairs std is_open K within a typing
