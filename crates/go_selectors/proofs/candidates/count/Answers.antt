use Rattle.std.proofs.Common.{ap, ◌∙◌, subst, List, [], ◌∷◌, ◌++◌}
use Rattle.go_base.specs.Gathered.{gather}
use Rattle.go_model.specs.types.Selectors.{Spot, steps}
use Rattle.go_selectors.specs.Search.{Consolidates}
use Rattle.go_selectors.proofs.Noting.{no_candidate}
use Rattle.go_selectors.proofs.Counting.{first_count, next_count, counted}
use Rattle.go_selectors.proofs.candidates.count.Goals as goal

pub returns-then-is_done : goal.returns-then-is_done
returns-then-is_done g c = λ counts s h. counted (g.T.TypeTable.lookup c.args.types.now.table.now) c.args.term.now c.loop-depth.depth c.loop-depth.layer.items c.loop-depth.seen.once.keys c.loop-depth.seen.twice.keys c.loop-depth.candidates c.loop-depth.invariant (c.is_done.ensures c.if-is_done.true) counts s h

pub loop-depth-init : goal.loop-depth-init
loop-depth-init g c = first_count (g.T.TypeTable.lookup c.args.types.now.table.now) c.args.term.now c.push.new.self.items c.new-seen.result.once.keys c.new-seen.result.twice.keys c.new-candidates.result (c.in_ok-push.ensures.items ∙ ap (λ spots. spots ++ c.start.result ∷ []) c.new-layer.ensures.items ∙ ap (λ spot. spot ∷ []) c.start.ensures) c.new-seen.ensures.once c.new-seen.ensures.twice (λ s. no_candidate c.new-candidates.result s c.new-candidates.ensures.empty)

pub loop-depth-preserved : goal.loop-depth-preserved
loop-depth-preserved g c = next_count (g.T.TypeTable.lookup c.args.types.now.table.now) c.args.term.now c.loop-depth.depth c.loop-depth.layer.items c.in_ok-layer.layer.items c.loop-depth.seen.once.keys c.loop-depth.seen.twice.keys c.consolidated.new.self.once.keys c.consolidated.new.self.twice.keys c.loop-depth.candidates c.note_layer.new.candidates c.loop-depth.invariant c.in_ok-note_layer.ensures.notes
    (subst (λ (w : List Spot). Consolidates c.loop-depth.seen.once.keys c.loop-depth.seen.twice.keys c.consolidated.new.self.once.keys c.consolidated.new.self.twice.keys w c.in_ok-layer.layer.items) (c.in_ok-note_layer.ensures.steps ∙ ap (λ w. w ++ gather (steps (g.T.TypeTable.lookup c.args.types.now.table.now)) c.loop-depth.layer.items) c.new-all.ensures.items) c.in_ok-layer.ensures)
