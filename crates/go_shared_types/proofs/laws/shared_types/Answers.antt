use Rattle.go_model.specs.types.Terms.{is_error}
use Rattle.go_shared_types.specs.Sharing.{is_exported_sel}
use Rattle.go_shared_types.proofs.Predeclared.{predeclared}
use Rattle.go_shared_types.proofs.Sharing.{preserves}
use Rattle.go_shared_types.proofs.laws.shared_types.Goals as goal

pub returns-clause-shared : goal.returns-clause-shared
returns-clause-shared c = λ T U std is_open S. preserves T U std is_open S

pub returns-clause-predeclared : goal.returns-clause-predeclared
returns-clause-predeclared c = λ T U. preserves T U is_error is_exported_sel (predeclared T U)
