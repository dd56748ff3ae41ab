use Rattle.go_client_types.proofs.Operands.{kind_kept, typed_after, untyped_after, within_after}
use Rattle.go_client_types.proofs.laws.followed_operands.Goals as goal

pub returns-clause-typed : goal.returns-clause-typed
returns-clause-typed c = λ r pairs std is_open o p t a i. typed_after r pairs std is_open a i

pub returns-clause-untyped : goal.returns-clause-untyped
returns-clause-untyped c = λ r pairs std is_open o p k a i. untyped_after r pairs std is_open a i

pub returns-clause-within : goal.returns-clause-within
returns-clause-within c = λ r pairs std is_open o p a s. within_after r pairs std is_open a s

pub returns-clause-kind : goal.returns-clause-kind
returns-clause-kind c = λ E F r pairs std is_open K b k h i. kind_kept E F r pairs std is_open K h i
