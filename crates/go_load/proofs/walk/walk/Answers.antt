use Rattle.std.proofs.Common.{◌≡◌, refl, arith, sym, ◌∙◌, List, subst}
use Rattle.go_outside.specs.Paths.{Path}
use Rattle.go_model.specs.files.Trees.{IsFolderPath}
use Rattle.go_base.specs.Growing.{Grows}
use Rattle.go_load.proofs.FolderOrder.{none_left}
use Rattle.go_load.proofs.StoreSteps.{told_same, first_state, whole_state, refused_state, next_state, placed_first, placed_of, placed_rest, kept_first}
use Rattle.go_load.proofs.walk.walk.Goals as goal

pub loop-init : goal.loop-init
loop-init g c =
    let none = c.empty.ensures in
    let grows = subst (λ (ks : List Path). Grows (λ x. c.empty.result ≡ x) ks c.insert.new.set.keys) c.new-pending.ensures.empty c.in_default.ensures in
    record {
      later = omega arith;
      same = refl;
      state = first_state (g.F.Files.told c.args.files.now) c.args.kind c.args.root.now c.insert.new.set.keys (record { files = c.new.result; counts = c.new-2.result }) c.empty.result none grows c.new.ensures c.new-2.ensures;
      kept = kept_first (record { files = c.new.result; counts = c.new-2.result }) c.new.ensures c.new-2.ensures;
      placed = placed_first c.insert.new.set.keys c.empty.result none grows;
    }

pub returns-in-None-clause-told : goal.returns-in-None-clause-told
returns-in-None-clause-told g c = told_same _ c.loop.invariant.same (whole_state (g.F.Files.told c.loop.files) c.args.kind c.args.root.now c.loop.pending.keys c.loop.taken (none_left _ c.in-None.ensures.variant.1) c.loop.invariant.state)

pub returns-in-Err-visit-clause-told : goal.returns-in-Err-visit-clause-told
returns-in-Err-visit-clause-told g c = told_same _ c.loop.invariant.same
    (refused_state (g.F.Files.told c.loop.files) c.args.kind c.args.root.now c.in-Some.folder c.loop.pending.keys c.pop_first.new.self.keys c.visit.new.pending.keys c.loop.taken c.visit.new.taken c.in-Some.ensures.removal c.in-Some.ensures.all_above
    c.bytes-path.result.now c.bytes-path.ensures c.in-Err-visit.error c.loop.invariant.state c.in-Err-visit.ensures.told)

pub loop-preserved : goal.loop-preserved
loop-preserved g c =
    let placed = subst (λ (w : Path). IsFolderPath w) (sym c.bytes-path.ensures) (placed_of c.loop.pending.keys c.pop_first.new.self.keys c.in-Some.folder c.in-Some.ensures.removal c.loop.invariant.placed) in
    record {
      later = omega (arith, c.loop.invariant.later, c.in_default-visit.ensures.cause);
      same = c.visit.ensures.same ∙ c.loop.invariant.same;
      state = told_same _ (sym c.visit.ensures.same) (next_state (g.F.Files.told c.loop.files) c.args.kind c.args.root.now c.in-Some.folder c.loop.pending.keys c.pop_first.new.self.keys c.visit.new.pending.keys c.loop.taken c.visit.new.taken
          c.in-Some.ensures.removal c.in-Some.ensures.all_above c.bytes-path.result.now c.bytes-path.ensures c.loop.invariant.state c.in_default-visit.ensures.told);
      kept = c.in_default-visit.ensures.kept placed c.loop.invariant.kept;
      placed = c.in_default-visit.ensures.placed placed (placed_rest c.loop.pending.keys c.pop_first.new.self.keys c.in-Some.folder c.in-Some.ensures.removal c.loop.invariant.placed);
    }
