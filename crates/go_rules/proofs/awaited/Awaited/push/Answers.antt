use Rattle.std.proofs.Common.{List, Some, subst, sym}
use Rattle.std.specs.BTreeMap.{Updates}
use Rattle.go_model.specs.declared.types.names.Sel.{Sel}
use Rattle.go_model.specs.types.MethodSets.{sel_order}
use Rattle.go_rules.specs.inner.Places.{HoldsEach}
use Rattle.go_rules.proofs.MethodPlaces.{holds_more}
use Rattle.go_rules.proofs.awaited.Awaited.push.Goals as goal

pub invariant_of-self-2 : goal.invariant_of-self-2
invariant_of-self-2 c = λ told.
    subst (λ (ss : List Sel). HoldsEach ss c.insert.new.self) (sym c.in_ok-push.ensures.ok)
    (holds_more c.self.inside.selectors c.args.sel c.self.inside.ordered c.insert.new.self (c.self.invariant told)
    (subst (λ (k : Sel). Updates sel_order c.self.inside.ordered c.insert.new.self k (Some tt)) c.in_ok-key.ensures c.in_ok-insert.ensures.updates))
