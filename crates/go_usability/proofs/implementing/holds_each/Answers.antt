use Rattle.go_rules.specs.Scopes.{env_of}
use Rattle.go_types.proofs.MethodLists.{lacks, has_next}
use Rattle.go_usability.specs.inner.Methods.{Holds}
use Rattle.go_usability.proofs.implementing.holds_each.Goals as goal

pub returns-then-not-branch : goal.returns-then-not-branch
returns-then-not-branch c = lacks (Holds (env_of c.args.context.now.env.now) c.args.term.now) c.args.methods.now c.loop-method.method-index c.method-item.result c.in_ok-holds.field-0 c.loop-method-test.true c.method-item.is c.if-not-branch.true c.in_ok-holds.ensures

pub loop-method-preserved : goal.loop-method-preserved
loop-method-preserved c = has_next (Holds (env_of c.args.context.now.env.now) c.args.term.now) c.args.methods.now c.loop-method.method-index c.method-item.result c.in_ok-holds.field-0 c.loop-method-test.true c.method-item.is c.if-not-branch.false c.in_ok-holds.ensures c.loop-method.invariant
