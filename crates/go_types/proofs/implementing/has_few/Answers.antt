use Rattle.go_model.specs.types.MethodSets.{HasMethod}
use Rattle.go_types.proofs.MethodLists.{lacks, has_next}
use Rattle.go_types.proofs.implementing.has_few.Goals as goal

pub returns-then-not-branch : goal.returns-then-not-branch
returns-then-not-branch g c = lacks (HasMethod (g.T.TypeTable.lookup c.args.types.now.table.now) c.args.term.now) c.args.methods.now c.loop-method.method-index c.method-item.result c.in_ok-has_method.field-0 c.loop-method-test.true c.method-item.is c.if-not-branch.true c.in_ok-has_method.ensures

pub loop-method-preserved : goal.loop-method-preserved
loop-method-preserved g c = has_next (HasMethod (g.T.TypeTable.lookup c.args.types.now.table.now) c.args.term.now) c.args.methods.now c.loop-method.method-index c.method-item.result c.in_ok-has_method.field-0 c.loop-method-test.true c.method-item.is c.if-not-branch.false c.in_ok-has_method.ensures c.loop-method.invariant
