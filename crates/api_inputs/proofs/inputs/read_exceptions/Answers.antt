use Rattle.api_inputs.proofs.FrozenLists.{no_file}
use Rattle.api_inputs.proofs.inputs.read_exceptions.Goals as goal

pub returns-in-None-clause-answer : goal.returns-in-None-clause-answer
returns-in-None-clause-answer g c = no_file _ _ _ c.in-None.is c.new.ensures
