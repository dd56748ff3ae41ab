use Rattle.go_types.proofs.Profile.{assigns_elsewhere, converts_elsewhere}
use Rattle.go_types.proofs.laws.profile_permits_less.Goals as goal

pub returns-clause-assignable : goal.returns-clause-assignable
returns-clause-assignable c = assigns_elsewhere

pub returns-clause-convertible : goal.returns-clause-convertible
returns-clause-convertible c = converts_elsewhere
