use Rattle.std.proofs.Common.{sym, ◌∙◌}
use Rattle.go_rules.specs.Scopes.{env_of}
use Rattle.go_usability.proofs.Assigning.{beneath_interface, beneath_other}
use Rattle.go_usability.proofs.assignability.assigns_beneath.Goals as goal

pub returns-then-is_interface : goal.returns-then-is_interface
returns-then-is_interface c = beneath_interface (env_of c.args.context.now.env.now) c.args.from.now c.args.to.now c.is_same_unnamed.result (sym c.is_interface.ensures ∙ c.if-is_interface.true) c.is_same_unnamed.ensures

pub returns : goal.returns
returns c = beneath_other (env_of c.args.context.now.env.now) c.args.from.now c.args.to.now c.in_ok-answer.answer (sym c.is_interface.ensures ∙ c.if-is_interface.false) c.in_ok-answer.ensures
