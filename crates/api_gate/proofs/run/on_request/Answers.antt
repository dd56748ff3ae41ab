use Rattle.api_gate.proofs.DecisionEnds.{made_checks, made_writes, told_checks, told_writes}
use Rattle.api_gate.proofs.run.on_request.Goals as goal

pub returns-in-None-clause-written : goal.returns-in-None-clause-written
returns-in-None-clause-written g c = λ words i. told_writes words _ c.args.request.now i c.on_files.result c.in-None.is c.on_files.ensures.decision

pub returns-in-None-clause-steps : goal.returns-in-None-clause-steps
returns-in-None-clause-steps g c = λ words i. told_checks words _ c.args.request.now i _ _ c.in-None.is c.on_files.ensures.steps

pub returns-in-Some-clause-written : goal.returns-in-Some-clause-written
returns-in-Some-clause-written g c = λ words i. made_writes words _ c.args.request.now i c.in-Some.made c.on_made.result c.in-Some.is c.on_made.ensures.decision

pub returns-in-Some-clause-steps : goal.returns-in-Some-clause-steps
returns-in-Some-clause-steps g c = λ words i. made_checks words _ c.args.request.now i _ _ c.in-Some.made c.in-Some.is c.on_made.ensures.steps
