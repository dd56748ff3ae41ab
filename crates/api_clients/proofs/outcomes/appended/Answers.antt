use Rattle.api_clients.proofs.PlatformOutcomes.{appended_is}
use Rattle.api_clients.proofs.outcomes.appended.Goals as goal

pub returns-in-Ok-theirs : goal.returns-in-Ok-theirs
returns-in-Ok-theirs c = appended_is c.joined.result c.args.ours c.args.theirs c.in-Ok.ours c.in-Ok-theirs.theirs c.in-Ok.is c.in-Ok-theirs.is c.joined.ensures
