use Rattle.std.proofs.Common.{length, sym, ap, subst, arith}
use Rattle.work_sharing.specs.Results.{IsDone}
use Rattle.work_sharing.proofs.Counts.{at_most_all, few}
use Rattle.work_sharing.proofs.map.dynamic_map.Goals as goal

pub returns-then-not-done-clause-steps : goal.returns-then-not-done-clause-steps
returns-then-not-done-clause-steps g c =
    let fit = c.look.ensures.fit in
    let none = ap (λ m. length m.0.claimed) c.in_ok-table.ensures.worker.1 in
    let same = ap (λ m. length m.0.claimed) c.look.ensures.same.1 in
    omega (arith, c.merge.ensures, c.shared_out-worker.ensures.steps, none, same, few _ c.look.new.worker.me.0.claimed fit.0 fit.1, c.in_ok-table.ensures.rows.0, c.count-count.ensures)

pub returns-in_err-rows-clause-steps : goal.returns-in_err-rows-clause-steps
returns-in_err-rows-clause-steps g c =
    let fit = c.look.ensures.fit in
    let none = ap (λ m. length m.0.claimed) c.in_ok-table.ensures.worker.1 in
    let same = ap (λ m. length m.0.claimed) c.look.ensures.same.1 in
    omega (arith, c.merge.ensures, c.shared_out-worker.ensures.steps, none, same, few _ c.look.new.worker.me.0.claimed fit.0 fit.1, c.in_ok-table.ensures.rows.0, c.count-count.ensures)

pub returns-clause-steps : goal.returns-clause-steps
returns-clause-steps g c =
    let fit = c.look.ensures.fit in
    let none = ap (λ m. length m.0.claimed) c.in_ok-table.ensures.worker.1 in
    let same = ap (λ m. length m.0.claimed) c.look.ensures.same.1 in
    let done : IsDone c.look.new.worker.me.0 = subst IsDone (sym (ap (λ m. m.0) c.look.ensures.same.1)) (c.shared_out-worker.ensures.done c.if-not-done.false) in
    let all = at_most_all c.in_ok-rows.rows c.look.new.worker.me.0.claimed fit.0 (λ j h. let b = fit.1 j h in omega (arith, b, c.in_ok-rows.ensures.len)) (λ j h e. c.in_ok-rows.ensures.rows.1 j (done j h) e) in
    omega (arith, c.completed.ensures.steps, c.merge.ensures, c.shared_out-worker.ensures.steps, none, same, all, c.in_ok-rows.ensures.len, c.in_ok-table.ensures.rows.0, c.count-count.ensures)
