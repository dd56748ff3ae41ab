use Rattle.api_gate.proofs.DecisionEnds.{no_version_answers}
use Rattle.api_gate.proofs.reports.advice.after.Goals as goal

pub returns-in-None : goal.returns-in-None
returns-in-None c = no_version_answers c.args.version.now c.args.class c.args.last c.no_version.result c.requires c.in-None.ensures c.no_version.ensures
