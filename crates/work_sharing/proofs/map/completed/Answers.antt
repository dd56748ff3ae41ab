use Rattle.std.proofs.Common.{◌≡◌, ◌+◌, ◌++◌, ◌∷◌, [], ℕ, length, slice_get, sym, ap, ◌∙◌, subst₂, append_assoc, length-append, arith, inl, inr}
use Rattle.std.specs.Vec.Iter.{into_iter_items}
use Rattle.work_sharing.proofs.Counts.{empty_front, empty_both}
use Rattle.work_sharing.proofs.Kept.{get_snoc, right_at}
use Rattle.work_sharing.proofs.map.completed.Goals as goal

pub result_of-requires-clause-number : goal.result_of-requires-clause-number
result_of-requires-clause-number g c =
    let parts = ap (λ w. c.loop-row.yielded ++ w) (sym c.in-Some.ensures.steps.0) ∙ c.loop-row.invariant.parts in
    let long = ap length parts in
    omega (arith, long, length-append c.loop-row.yielded (c.in-Some.row ∷ into_iter_items c.next.new.self), c.loop-row.invariant.number, c.requires.count)

pub result_of-requires-clause-right : goal.result_of-requires-clause-right
result_of-requires-clause-right g c κs within =
    let parts = ap (λ w. c.loop-row.yielded ++ w) (sym c.in-Some.ensures.steps.0) ∙ c.loop-row.invariant.parts in
    right_at _ c.loop-row.yielded (into_iter_items c.next.new.self) c.args.rows c.in-Some.row parts c.requires.right c.loop-row.number c.loop-row.invariant.number

pub returns-in_err-found-clause-steps : goal.returns-in_err-found-clause-steps
returns-in_err-found-clause-steps g c =
    let parts = ap (λ w. c.loop-row.yielded ++ w) (sym c.in-Some.ensures.steps.0) ∙ c.loop-row.invariant.parts in
    omega (arith, c.loop-row.invariant.steps, c.result_of.ensures.steps, empty_front c.loop-row.yielded (into_iter_items c.next.new.self) c.args.rows c.in-Some.row parts)

pub returns-in_err-push-clause-steps : goal.returns-in_err-push-clause-steps
returns-in_err-push-clause-steps g c =
    let parts = ap (λ w. c.loop-row.yielded ++ w) (sym c.in-Some.ensures.steps.0) ∙ c.loop-row.invariant.parts in
    omega (arith, c.loop-row.invariant.steps, c.result_of.ensures.steps, empty_front c.loop-row.yielded (into_iter_items c.next.new.self) c.args.rows c.in-Some.row parts)

pub loop-row-preserved : goal.loop-row-preserved
loop-row-preserved g c =
    let parts = ap (λ w. c.loop-row.yielded ++ w) (sym c.in-Some.ensures.steps.0) ∙ c.loop-row.invariant.parts in
    let front = c.loop-row.yielded in
    let row = c.in-Some.row in
    let pushed = c.in_ok-push.ensures.ok in
    let same : c.loop-row.number ≡ length c.loop-row.results = c.loop-row.invariant.number ∙ sym c.loop-row.invariant.len in
    record {
      number = ap (λ n. n + 1) c.loop-row.invariant.number ∙ sym (length-append front (row ∷ []));
      parts = append_assoc front (row ∷ []) (into_iter_items c.next.new.self) ∙ parts;
      len = ap length pushed ∙ length-append c.loop-row.results (c.in_ok-found.found ∷ []) ∙ ap (λ n. n + 1) c.loop-row.invariant.len ∙ sym (length-append front (row ∷ []));
      good = λ j x e. elim (get_snoc c.loop-row.results c.in_ok-found.found x j (ap (λ q. slice_get q j) (sym pushed) ∙ e)) [
        | inl k ↦ c.loop-row.invariant.good j x k
        | inr k ↦ subst₂ (λ (n : ℕ) y. g.J.Jobs.gives c.args.jobs.now n y) (same ∙ sym k.0) k.1 c.in_ok-found.ensures.gives
      ];
      steps = omega (arith, c.loop-row.invariant.steps, c.result_of.ensures.steps, empty_both front (row ∷ []));
    }
