use Rattle.go_client_types.proofs.Views.{form_kept}
use Rattle.go_client_types.proofs.laws.kept_levels.Goals as goal

pub returns : goal.returns
returns c = λ E F r pairs std is_open K t l h n e. form_kept E F r pairs std is_open K t l h n e
