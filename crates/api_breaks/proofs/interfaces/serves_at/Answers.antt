use Rattle.api_breaks.proofs.InterfaceLosses.{serves_nowhere, serves_there}
use Rattle.api_breaks.proofs.interfaces.serves_at.Goals as goal

pub returns-in-None : goal.returns-in-None
returns-in-None c = serves_nowhere c.args.world.now c.args.methods.now c.args.method.now c.args.at c.in-None.ensures

pub returns-in-Some : goal.returns-in-Some
returns-in-Some c = serves_there c.args.world.now c.args.methods.now c.args.method.now c.in-Some.other.now c.args.at c.serves.result c.in-Some.ensures.0 c.in-Some.ensures.1 c.serves.ensures
