use Rattle.api_gate.proofs.DecisionEnds.{no_release_answers}
use Rattle.api_gate.proofs.reports.advice.after_version.Goals as goal

pub returns-in-None : goal.returns-in-None
returns-in-None c = no_release_answers c.args.version.now c.args.class c.no_release.result c.in-None.is c.no_release.ensures
