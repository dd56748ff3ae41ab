use Rattle.std.proofs.Common.{◌≡◌, take}
use Rattle.std.specs.declared.cmp.Ordering.TheVariants.{Less}
use Rattle.go_base.specs.Lists.{Each}
use Rattle.go_model.specs.types.MethodSets.{sel_order}
use Rattle.worlds.proofs.order.is_least.Given as goal

abbrev pub invariant-loop-method : goal.invariant-loop-method
invariant-loop-method g l = Each (λ m. sel_order l.sel (g.M.Selected.sel m) ≡ Less) (take l.method-index l.methods)
