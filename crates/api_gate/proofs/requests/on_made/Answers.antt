use Rattle.api_gate.specs.inner.Decisions.{no_space}
use Rattle.api_gate.proofs.requests.on_made.Goals as goal

pub returns-in-Err-clause-decision : goal.returns-in-Err-clause-decision
returns-in-Err-clause-decision g c = no_space
