use Rattle.api_gate.proofs.RunEnds.{ends_bad_words, ends_complete, ends_read, ends_words, ends_write}
use Rattle.api_gate.proofs.run.run.Goals as goal

pub returns-clause-outcome : goal.returns-clause-outcome
returns-clause-outcome g c = (_, c.decide-decision.ensures.written, c.deliver.ensures.written)

pub returns-clause-complete : goal.returns-clause-complete
returns-clause-complete g c = ends_complete c.one_outcome.ensures _ _ _ (_, c.decide-decision.ensures.written, c.deliver.ensures.written)

pub returns-clause-words : goal.returns-clause-words
returns-clause-words g c = ends_words _ _ _ (_, c.decide-decision.ensures.written, c.deliver.ensures.written)

pub returns-clause-bad_words : goal.returns-clause-bad_words
returns-clause-bad_words g c = ends_bad_words _ _ _ (_, c.decide-decision.ensures.written, c.deliver.ensures.written)

pub returns-clause-read : goal.returns-clause-read
returns-clause-read g c = ends_read _ _ _ (_, c.decide-decision.ensures.written, c.deliver.ensures.written)

pub returns-clause-write : goal.returns-clause-write
returns-clause-write g c = ends_write _ _ _ (_, c.decide-decision.ensures.written, c.deliver.ensures.written)

pub returns-clause-clients : goal.returns-clause-clients
returns-clause-clients g c = c.clients_kept.ensures _ _
