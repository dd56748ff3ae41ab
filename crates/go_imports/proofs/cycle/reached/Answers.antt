use Rattle.std.proofs.Common.{◌∙◌, sym, ap, nat_eq, List, ℕ}
use Rattle.indexmap.specs.IndexSet.{insert_all}
use Rattle.go_imports.specs.Orders.{needs_of}
use Rattle.go_imports.specs.inner.Levels.{at_level}
use Rattle.go_imports.proofs.Worklist.{worked_seeds, worked_next, all_sound, all_complete, index_none}
use Rattle.go_imports.proofs.cycle.reached.Goals as goal

pub loop-at-init : goal.loop-at-init
loop-at-init c =
    worked_seeds (λ m. at_level c.args.levels.now c.args.level (needs_of c.args.graph.now m)) (at_level c.args.levels.now c.args.level (needs_of c.args.graph.now c.args.from)) c.add_all.new.seen.keys
    (c.in_ok-add_all.ensures ∙ (λ i. insert_all nat_eq (c.new-seen.ensures.empty i) (at_level c.args.levels.now c.args.level (c.needs_of.ensures i))))

pub returns-in-None-clause-sound : goal.returns-in-None-clause-sound
returns-in-None-clause-sound c = all_sound (λ m. at_level c.args.levels.now c.args.level (needs_of c.args.graph.now m)) _ c.loop-at.seen.keys c.loop-at.at c.loop-at.invariant

pub returns-in-None-clause-complete : goal.returns-in-None-clause-complete
returns-in-None-clause-complete c = all_complete (λ m. at_level c.args.levels.now c.args.level (needs_of c.args.graph.now m)) _ c.loop-at.seen.keys c.loop-at.at c.loop-at.invariant (index_none c.loop-at.seen.keys c.loop-at.at (sym c.in-None.ensures.key))

pub loop-at-preserved : goal.loop-at-preserved
loop-at-preserved c =
    worked_next (λ m. at_level c.args.levels.now c.args.level (needs_of c.args.graph.now m)) (at_level c.args.levels.now c.args.level (needs_of c.args.graph.now c.args.from)) c.loop-at.seen.keys c.add_all-in-Some.new.seen.keys c.loop-at.at c.in-Some.node.now
    c.loop-at.invariant (sym c.in-Some.ensures.key) (c.in_ok-add_all-in-Some.ensures ∙ ap (λ (xs : List ℕ). insert_all nat_eq c.loop-at.seen.keys (at_level c.args.levels.now c.args.level xs)) c.needs_of-in-Some.ensures)
