use Rattle.go_model.specs.declared.types.term.Method.{Method, out-Method}
use Rattle.go_rules.specs.Environments.{Told}
use Rattle.go_rules.specs.Scopes.{env_of}
use Rattle.go_types.proofs.MethodLists.{lacks, has_next}
use Rattle.go_usability.proofs.told.is_told_each.Goals as goal

pub returns-then-not-is_told : goal.returns-then-not-is_told
returns-then-not-is_told c = lacks (λ (m : Method). Told (env_of c.args.context.now.env.now) (out-Method m).sel c.args.term.now) c.args.methods.now c.loop-method.method-index c.method-item.result c.is_told.result c.loop-method-test.true c.method-item.is c.if-not-is_told.true c.is_told.ensures

pub loop-method-preserved : goal.loop-method-preserved
loop-method-preserved c = has_next (λ (m : Method). Told (env_of c.args.context.now.env.now) (out-Method m).sel c.args.term.now) c.args.methods.now c.loop-method.method-index c.method-item.result c.is_told.result c.loop-method-test.true c.method-item.is c.if-not-is_told.false c.is_told.ensures c.loop-method.invariant
