use Rattle.std.proofs.Common.{◌++◌, ◌∷◌, [], ◌∙◌, sym, ap, List, ℕ}
use Rattle.go_base.proofs.Lists.{take_past}
use Rattle.go_imports.proofs.Worklist.{index_none, take_next}
use Rattle.go_imports.proofs.order.list_of.Goals as goal

pub returns-in-None : goal.returns-in-None
returns-in-None c = c.loop-at.invariant ∙ take_past c.loop-at.at c.args.standing.now.keys (index_none c.args.standing.now.keys c.loop-at.at (sym c.in-None.ensures.key))

pub loop-at-preserved : goal.loop-at-preserved
loop-at-preserved c = c.in_ok-push-in-Some.ensures.ok ∙ ap (λ (xs : List ℕ). xs ++ c.in-Some.node.now ∷ []) c.loop-at.invariant ∙ sym (take_next c.loop-at.at c.args.standing.now.keys c.in-Some.node.now (sym c.in-Some.ensures.key))
