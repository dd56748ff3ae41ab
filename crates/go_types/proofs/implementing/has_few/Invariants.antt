use Rattle.std.proofs.Common.{take}
use Rattle.go_model.specs.types.MethodSets.{HasMethods}
use Rattle.go_types.proofs.implementing.has_few.Given as goal

abbrev pub invariant-loop-method : goal.invariant-loop-method
invariant-loop-method g l = HasMethods (g.T.TypeTable.lookup l.types.table.now) l.term (take l.method-index l.methods)
