use Rattle.go_client_operators.proofs.Names.{imported_kept, name_kept}
use Rattle.go_client_operators.proofs.laws.kept_names.Goals as goal

pub returns-clause-own : goal.returns-clause-own
returns-clause-own c = λ E F r pairs std is_open K n o d. name_kept E F r pairs std is_open K n o d

pub returns-clause-imported : goal.returns-clause-imported
returns-clause-imported c = λ E F r pairs std is_open K q n o d. imported_kept E F r pairs std is_open K q n o d
