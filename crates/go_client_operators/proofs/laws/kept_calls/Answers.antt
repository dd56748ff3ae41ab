use Rattle.go_client_operators.proofs.Calls.{arguments_kept, converts_kept, makes_kept, may_hold_kept, printed_kept, slices_kept}
use Rattle.go_client_operators.proofs.laws.kept_calls.Goals as goal

pub returns-clause-converts : goal.returns-clause-converts
returns-clause-converts c = λ E F r pairs std is_open K o p s t a h x. converts_kept E F r pairs std is_open K a h x

pub returns-clause-slices : goal.returns-clause-slices
returns-clause-slices c = λ E F r pairs std is_open K simple o p s n a x. slices_kept E F r pairs std is_open K a x

pub returns-clause-may_hold : goal.returns-clause-may_hold
returns-clause-may_hold c = λ E F r pairs std is_open K t u h k x. may_hold_kept E F r pairs std is_open K t u h k x

pub returns-clause-makes : goal.returns-clause-makes
returns-clause-makes c = λ E F r pairs std is_open K t n h x. makes_kept E F r pairs std is_open K t n h x

pub returns-clause-printed : goal.returns-clause-printed
returns-clause-printed c = λ E F r pairs std is_open K o p a x. printed_kept E F r pairs std is_open K a x

pub returns-clause-arguments : goal.returns-clause-arguments
returns-clause-arguments c = λ E F r pairs std is_open K variadic dots ts os ps a h x. arguments_kept E F r pairs std is_open K ps a h x
