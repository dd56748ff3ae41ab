use Rattle.go_client_operators.proofs.Operators.{comparison_kept, computes_kept, product_kept}
use Rattle.go_client_operators.proofs.laws.kept_operators.Goals as goal

pub returns-clause-computes : goal.returns-clause-computes
returns-clause-computes c = λ E F r pairs std is_open K op l o m p s a b x. computes_kept E F r pairs std is_open K a b x

pub returns-clause-product : goal.returns-clause-product
returns-clause-product c = λ E F r pairs std is_open K kind l o m p s a b x. product_kept E F r pairs std is_open K kind a b x

pub returns-clause-comparison : goal.returns-clause-comparison
returns-clause-comparison c = λ E F r pairs std is_open K op l o m p s a b x. comparison_kept E F r pairs std is_open K a b x
