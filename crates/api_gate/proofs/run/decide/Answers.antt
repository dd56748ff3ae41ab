use Rattle.api_gate.specs.runs.Outcomes.{bad_words}
use Rattle.api_gate.specs.runs.Runs.{defined, no_memory}
use Rattle.api_gate.proofs.RequestFacts.{client_given, few_made, some_platform}
use Rattle.api_gate.proofs.run.decide.Goals as goal

pub on_request-requires-clause-platforms : goal.on_request-requires-clause-platforms
on_request-requires-clause-platforms g c κs within = some_platform _ c.in-Ok-Some.request (rw c.in-Ok-Some.field-0-is at c.in-Ok-Some.ensures)

pub on_request-requires-clause-few : goal.on_request-requires-clause-few
on_request-requires-clause-few g c κs within = few_made _ c.in-Ok-Some.request (rw c.in-Ok-Some.field-0-is at c.in-Ok-Some.ensures)

pub returns-in-Err-clause-written : goal.returns-in-Err-clause-written
returns-in-Err-clause-written g c = no_memory

pub returns-in-Ok-None-clause-written : goal.returns-in-Ok-None-clause-written
returns-in-Ok-None-clause-written g c = defined (bad_words (rw c.in-Ok-None.field-0-is at c.in-Ok-None.ensures))

pub returns-in-Ok-Some-clause-written : goal.returns-in-Ok-Some-clause-written
returns-in-Ok-Some-clause-written g c = c.on_request.ensures.written _ (rw c.in-Ok-Some.field-0-is at c.in-Ok-Some.ensures)

pub returns-in-Ok-Some-clause-steps : goal.returns-in-Ok-Some-clause-steps
returns-in-Ok-Some-clause-steps g c = c.on_request.ensures.steps _ (rw c.in-Ok-Some.field-0-is at c.in-Ok-Some.ensures)

pub on_request-requires-clause-client : goal.on_request-requires-clause-client
on_request-requires-clause-client g c κs within = client_given _ c.in-Ok-Some.request (rw c.in-Ok-Some.field-0-is at c.in-Ok-Some.ensures)
