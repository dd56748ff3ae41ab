use Rattle.std.proofs.Common.{◌≡◌, ◌++◌, drop}
use Rattle.go_base.specs.Gathered.{gather}
use Rattle.go_model.specs.types.Selectors.{declared_ending}
use Rattle.go_selectors.specs.Endings.{endings_of, owner_of}
use Rattle.go_selectors.proofs.steps.push_each.Given as goal

abbrev pub invariant-loop-method : goal.invariant-loop-method
invariant-loop-method l = endings_of l.found.items ++ gather (declared_ending (owner_of l.owner) l.sel l.through) (drop l.method-index l.methods) ≡ endings_of l.fn.found.items ++ gather (declared_ending (owner_of l.owner) l.sel l.through) l.methods
