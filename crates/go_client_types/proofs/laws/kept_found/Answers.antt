use Rattle.go_client_types.proofs.FoundTypes.{found_kept, method_kept}
use Rattle.go_client_types.proofs.laws.kept_found.Goals as goal

pub returns-clause-found : goal.returns-clause-found
returns-clause-found c = λ E F r pairs std is_open K t h s x n q g f. found_kept E F r pairs std is_open K t s q g h x n f

pub returns-clause-method : goal.returns-clause-method
returns-clause-method c = λ E F r pairs std is_open K x t h s o g m. method_kept E F r pairs std is_open K x t s g h o m
