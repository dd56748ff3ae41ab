use Rattle.go_model.specs.types.Terms.{client_path}
use Rattle.go_model.proofs.Paths.{absent_name, absent_selector, no_client, client_some}
use Rattle.go_model.proofs.laws.client_absent.Goals as goal

pub returns-clause-packages : goal.returns-clause-packages
returns-clause-packages c = no_client

pub returns-clause-names : goal.returns-clause-names
returns-clause-names c = λ w i n h. absent_name w client_path i client_some (no_client w i) n h

pub returns-clause-selectors : goal.returns-clause-selectors
returns-clause-selectors c = λ w i s h. absent_selector w client_path i client_some (no_client w i) s h
