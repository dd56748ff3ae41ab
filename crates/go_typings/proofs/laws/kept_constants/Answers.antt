use Rattle.go_typings.proofs.ConstantKinds.{entries_kept}
use Rattle.go_typings.proofs.HeldImports.{found_held}
use Rattle.go_typings.proofs.ReachedConstants.{reached_kept}
use Rattle.go_typings.proofs.laws.kept_constants.Goals as goal

pub returns-clause-reached : goal.returns-clause-reached
returns-clause-reached c = λ s u reached S a absent f r k t. reached_kept s u absent reached r (found_held s.world u reached f r) k S a t.had

pub returns-clause-all : goal.returns-clause-all
returns-clause-all c = λ s u S a absent imports t. entries_kept s u absent imports S a t.had
