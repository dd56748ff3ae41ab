use Rattle.go_rules.specs.Scopes.{env_of}
use Rattle.go_calls.proofs.Calling.{no_dots_fixed, fixed_each, variadic_no_params}
use Rattle.go_calls.proofs.arguments.arguments_fit.Goals as goal

pub returns-then-dots : goal.returns-then-dots
returns-then-dots c = no_dots_fixed (env_of c.args.context.now.env.now) c.args.variadic c.args.dots c.args.params.now c.args.operands.now c.if-not-variadic.true c.if-dots.true

pub returns-then-not-variadic : goal.returns-then-not-variadic
returns-then-not-variadic c = fixed_each (env_of c.args.context.now.env.now) c.args.variadic c.args.dots c.args.params.now c.args.operands.now c.in_ok-each.each c.if-not-variadic.true c.if-dots.false c.in_ok-each.ensures

pub returns-in-None : goal.returns-in-None
returns-in-None c = variadic_no_params (env_of c.args.context.now.env.now) c.args.variadic c.args.dots c.args.params.now c.args.operands.now c.if-not-variadic.false c.in-None.ensures.cases
