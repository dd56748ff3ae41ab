use Rattle.std.proofs.Common.{sym, ◌∙◌}
use Rattle.std.proofs.Common.{ap}
use Rattle.go_rules.specs.Scopes.{env_of}
use Rattle.go_model.specs.constants.Classes.{class_of_basic, is_inexact}
use Rattle.go_operators.proofs.Converting.{convert_inexact, convert_exact, convert_name}
use Rattle.go_operators.proofs.conversions.convert_constant.Goals as goal

pub returns-then-is_inexact : goal.returns-then-is_inexact
returns-then-is_inexact c = convert_inexact (env_of c.args.context.now.env.now) c.args.of.now c.args.value.now c.args.to.now _ c.in_ok-inexact.inexact c.in-Some.ensures (sym (c.if-is_inexact.ensures ∙ ap is_inexact c.class.ensures)) c.in_ok-inexact.ensures

pub returns-in-Some : goal.returns-in-Some
returns-in-Some c = convert_exact (env_of c.args.context.now.env.now) c.args.of.now c.args.value.now c.args.to.now _ c.in_ok-exact.exact c.in-Some.ensures (sym (c.if-is_inexact.ensures ∙ ap is_inexact c.class.ensures)) c.in_ok-exact.ensures

pub returns-then-not-is_composed_under : goal.returns-then-not-is_composed_under
returns-then-not-is_composed_under c = convert_name (env_of c.args.context.now.env.now) c.args.of.now c.args.value.now c.args.to.now c.in_default.ensures (sym c.if-not-is_composed_under.ensures)
