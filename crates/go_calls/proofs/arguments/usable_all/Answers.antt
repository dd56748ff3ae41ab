use Rattle.go_rules.specs.Scopes.{env_of}
use Rattle.go_rules.specs.Usability.{UsableAs}
use Rattle.go_calls.proofs.Each.{each_lacks, each_next}
use Rattle.go_calls.proofs.arguments.usable_all.Goals as goal

pub returns-then-not-fits : goal.returns-then-not-fits
returns-then-not-fits c = each_lacks (λ o. UsableAs (env_of c.args.context.now.env.now) o c.args.term.now) c.args.operands.now c.loop-operand.operand-index c.operand-item.result c.in_ok-fits.fits c.loop-operand-test.true c.operand-item.is c.if-not-fits.true c.in_ok-fits.ensures

pub loop-operand-preserved : goal.loop-operand-preserved
loop-operand-preserved c = each_next (λ o. UsableAs (env_of c.args.context.now.env.now) o c.args.term.now) c.args.operands.now c.loop-operand.operand-index c.operand-item.result c.in_ok-fits.fits c.loop-operand-test.true c.operand-item.is c.if-not-fits.false c.in_ok-fits.ensures c.loop-operand.invariant
