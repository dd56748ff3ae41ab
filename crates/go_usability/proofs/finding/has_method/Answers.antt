use Rattle.std.proofs.Common.{◌∙◌}
use Rattle.go_rules.specs.Environments.{HasMethod}
use Rattle.go_rules.specs.Scopes.{env_of}
use Rattle.go_usability.proofs.Finds.{calls, gives_so}
use Rattle.go_usability.proofs.finding.has_method.Goals as goal

pub returns : goal.returns
returns c = gives_so (HasMethod (env_of c.args.context.now.env.now) c.args.addressable c.args.term.now c.args.sel.now) c.in_ok-signature.signature _ (c.in_ok-signature.ensures ∙ c.called.ensures) (calls (env_of c.args.context.now.env.now) c.args.sel.now c.args.term.now c.args.addressable c.in_ok-answer.answer c.in_ok-answer.ensures)
