use Rattle.std.proofs.Common.{◌∙◌, ℕ, List, subst, sym, arith, refl, inl}
use Rattle.go_base.specs.Lists.{Has}
use Rattle.go_imports.specs.declared.order.Wait.{Wait}
use Rattle.go_imports.specs.inner.Sorting.{IsWait, IsWokenBy, Sorting}
use Rattle.go_imports.proofs.Members.{has_last}
use Rattle.go_imports.proofs.Sorted.{stood, emptied, woken_held, woken_fresh}
use Rattle.go_imports.proofs.order.stand.Goals as goal

pub add-requires : goal.add-requires
add-requires c = (c.requires.sorting.sound c.args.node (inl refl)).fresh

pub take_row-woken-requires : goal.take_row-woken-requires
take_row-woken-requires c = let is = (c.requires.sorting.sound c.args.node (inl refl)).is in omega (arith, is, c.requires.sorting.rows)

pub wake-requires-clause-held : goal.wake-requires-clause-held
wake-requires-clause-held c x h =
    subst (λ (ks : List ℕ). IsWait c.args.graph.now ks x) (sym c.in_ok-add.ensures)
    (woken_held c.args.graph.now c.args.node c.requires.sorting c.requires.least x (subst (λ (ws : List Wait). Has ws x) (c.items.ensures ∙ c.take_row-woken.ensures.row) h))

pub wake-requires-clause-fresh : goal.wake-requires-clause-fresh
wake-requires-clause-fresh c x h k =
    woken_fresh c.args.graph.now c.args.node c.requires.sorting c.requires.least x (subst (λ (ws : List Wait). Has ws x) (c.items.ensures ∙ c.take_row-woken.ensures.row) h)
    (subst (λ (ks : List ℕ). Has ks x.node) c.in_ok-add.ensures k)

pub wake-requires-clause-sorting : goal.wake-requires-clause-sorting
wake-requires-clause-sorting c =
    let stands = stood c.args.graph.now c.args.node c.requires.sorting c.requires.least in
    let rest = emptied c.args.graph.now c.args.node (has_last c.args.standing.now.keys c.args.node) c.take_row-woken.ensures.emptied stands in
    subst (λ (p : List ℕ × List Wait). Sorting c.args.graph.now p.0 c.args.ready.now.keys c.take_row-woken.new.waits.items (IsWokenBy p.1))
    (λ i. (sym c.in_ok-add.ensures i, sym (c.items.ensures ∙ c.take_row-woken.ensures.row) i)) rest
