use Rattle.go_statement_rules.proofs.OneRun.{body_run, enters_body_once, enters_once, literal_run}
use Rattle.go_statement_rules.proofs.laws.one_run.Goals as goal

pub returns-clause-body : goal.returns-clause-body
returns-clause-body c E blocks f v w = enters_body_once E blocks

pub returns-clause-literal : goal.returns-clause-literal
returns-clause-literal c E blocks r s g b v w = enters_once E blocks

pub returns-clause-typed_body : goal.returns-clause-typed_body
returns-clause-typed_body c = body_run

pub returns-clause-typed_literal : goal.returns-clause-typed_literal
returns-clause-typed_literal c = literal_run
