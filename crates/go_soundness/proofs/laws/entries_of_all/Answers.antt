use Rattle.go_soundness.proofs.Unsound.{all_once, same_entries}
use Rattle.go_soundness.proofs.laws.entries_of_all.Goals as goal

pub returns-clause-one : goal.returns-clause-one
returns-clause-one c = λ s u a b A B n. all_once s u a b A B n

pub returns-clause-shared : goal.returns-clause-shared
returns-clause-shared c = λ s u a S b n A t i. same_entries s u a A S b t.had n i
