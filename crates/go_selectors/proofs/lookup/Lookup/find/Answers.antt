use Rattle.std.proofs.Common.{◌≡◌, sym, ap, ◌∙◌, subst, List, [], ◌∷◌, ◌++◌}
use Rattle.go_base.specs.Gathered.{gather}
use Rattle.go_model.specs.types.Selectors.{Spot, start, steps, endings, Finds}
use Rattle.go_selectors.specs.Endings.{endings_of}
use Rattle.go_selectors.specs.Search.{Consolidates}
use Rattle.go_selectors.proofs.Searching.{first_search, judged_at, next_search, silent}
use Rattle.go_selectors.proofs.lookup.Lookup.find.Goals as goal

pub returns-in-Some : goal.returns-in-Some
returns-in-Some g c =
    let T = g.T.TypeTable.lookup c.args.self.now.table.now in
    let e = c.in_ok-visit_layer.ensures.found ∙ ap (λ w. endings_of w ++ gather (endings T c.args.sel.now) c.loop-depth.layer.items) c.new-found.ensures.items in
    subst (Finds T c.args.sel.now c.args.term.now) (sym c.into_value.ensures) (judged_at T c.args.sel.now c.args.term.now c.loop-depth.depth c.loop-depth.layer.items c.loop-depth.seen.once.keys c.loop-depth.seen.twice.keys c.loop-depth.invariant (endings_of c.visit_layer.new.found.items) c.in_ok-answered.answered c.in-Some.answer c.is_defined_pointer-hidden.result c.in-Some.is c.is_defined_pointer-hidden.ensures e c.in_ok-answered.ensures)

pub loop-depth-init : goal.loop-depth-init
loop-depth-init g c = first_search (g.T.TypeTable.lookup c.args.self.now.table.now) c.args.sel.now (start (g.T.TypeTable.lookup c.args.self.now.table.now) c.args.term.now) c.push.new.self.items c.new-seen.result.once.keys c.new-seen.result.twice.keys (c.in_ok-push.ensures.items ∙ ap (λ spots. spots ++ c.start.result ∷ []) c.new-layer.ensures.items ∙ ap (λ spot. spot ∷ []) c.start.ensures) c.new-seen.ensures.once c.new-seen.ensures.twice

pub loop-depth-preserved : goal.loop-depth-preserved
loop-depth-preserved g c =
    let T = g.T.TypeTable.lookup c.args.self.now.table.now in
    let e = c.in_ok-visit_layer.ensures.found ∙ ap (λ w. endings_of w ++ gather (endings T c.args.sel.now) c.loop-depth.layer.items) c.new-found.ensures.items in
    let n = c.in_ok-visit_layer.ensures.steps ∙ ap (λ w. w ++ gather (steps T) c.loop-depth.layer.items) c.new-all.ensures.items in
    next_search T c.args.sel.now (start T c.args.term.now) c.loop-depth.depth c.loop-depth.layer.items c.in_ok-layer.layer.items c.loop-depth.seen.once.keys c.loop-depth.seen.twice.keys c.consolidated.new.self.once.keys c.consolidated.new.self.twice.keys c.loop-depth.invariant (sym e ∙ silent (endings_of c.visit_layer.new.found.items) c.loop-depth.layer.items c.is_defined_pointer-hidden.result c.loop-depth.depth c.in_ok-answered.answered c.in_default.is c.in_ok-answered.ensures)
    (subst (λ (w : List Spot). Consolidates c.loop-depth.seen.once.keys c.loop-depth.seen.twice.keys c.consolidated.new.self.once.keys c.consolidated.new.self.twice.keys w c.in_ok-layer.layer.items) n c.in_ok-layer.ensures)
