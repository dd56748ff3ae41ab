use Rattle.std.proofs.Common.{◌∙◌, sym}
use Rattle.go_tags.proofs.OneCut.{step_begins}
use Rattle.go_tags.proofs.parts.first_step.Goals as goal

pub returns-in-Some-clause-step : goal.returns-in-Some-clause-step
returns-in-Some-clause-step c = step_begins c.in-Some.step c.args.text.now (sym c.sign_at.ensures ∙ c.in-Some.is)
