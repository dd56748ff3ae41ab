use Rattle.go_rules.specs.Scopes.{env_of}
use Rattle.go_calls.proofs.Calling.{call_unfit, call_fit}
use Rattle.go_calls.proofs.functions.call_signature.Goals as goal

pub returns-then-not-fits : goal.returns-then-not-fits
returns-then-not-fits c = call_unfit (env_of c.args.context.now.env.now) c.args.dots c.args.signature.now c.args.operands.now _ c.in_ok-fits.fits c.items.ensures c.if-not-fits.true c.in_ok-fits.ensures

pub returns : goal.returns
returns c = call_fit (env_of c.args.context.now.env.now) c.args.dots c.args.signature.now c.args.operands.now _ _ c.in_ok-fits.fits _ c.items.ensures c.if-not-fits.false c.in_ok-fits.ensures c.items-2.ensures c.in_ok-results.ensures
