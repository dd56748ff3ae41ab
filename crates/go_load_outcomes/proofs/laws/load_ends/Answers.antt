use Rattle.go_existence.proofs.DoubleNegation.{so}
use Rattle.go_load_outcomes.proofs.LoadOutcomes.{files_end, module_end}
use Rattle.go_load_outcomes.proofs.laws.load_ends.Goals as goal

pub returns-clause-of_module : goal.returns-clause-of_module
returns-clause-of_module c = λ m root. so (module_end m root) (λ k. (k.0, k.1.0, k.1.1, k.1.2))

pub returns-clause-of_files : goal.returns-clause-of_files
returns-clause-of_files c = λ m kind root. so (files_end m kind root) (λ k. (k.0, k.1.0, k.1.1, k.1.2))
