use Rattle.go_rules.specs.Scopes.{env_of}
use Rattle.go_calls.proofs.Calling.{rest_decides, rest_none, elements_decides, elements_none}
use Rattle.go_calls.proofs.arguments.rest_fits.Goals as goal

pub returns-in_ok-last-in-Some : goal.returns-in_ok-last-in-Some
returns-in_ok-last-in-Some c = rest_decides (env_of c.args.context.now.env.now) c.args.dots c.args.term.now c.args.operands.now _ c.in_ok-last-in-Some.last c.if-dots.true c.in-Some.ensures c.in_ok-last-in-Some.ensures

pub returns-in-None : goal.returns-in-None
returns-in-None c = rest_none (env_of c.args.context.now.env.now) c.args.dots c.args.term.now c.args.operands.now c.if-dots.true c.in-None.ensures

pub returns-in_ok-all-in-Some-slice_element : goal.returns-in_ok-all-in-Some-slice_element
returns-in_ok-all-in-Some-slice_element c = elements_decides (env_of c.args.context.now.env.now) c.args.dots c.args.term.now c.args.operands.now _ c.in_ok-all-in-Some-slice_element.all c.if-dots.false c.in-Some-slice_element.ensures c.in_ok-all-in-Some-slice_element.ensures

pub returns-in-None-slice_element : goal.returns-in-None-slice_element
returns-in-None-slice_element c = elements_none (env_of c.args.context.now.env.now) c.args.dots c.args.term.now c.args.operands.now c.if-dots.false c.in-None-slice_element.ensures
