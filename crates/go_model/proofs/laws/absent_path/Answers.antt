use Rattle.go_model.proofs.Paths.{absent_name, absent_selector}
use Rattle.go_model.proofs.laws.absent_path.Goals as goal

pub returns-clause-names : goal.returns-clause-names
returns-clause-names c = λ w path i some none n h. absent_name w path i some none n h

pub returns-clause-selectors : goal.returns-clause-selectors
returns-clause-selectors c = λ w path i some none s h. absent_selector w path i some none s h
