use Rattle.std.proofs.Common.{Bool, subst, sym, ◌+◌}
use Rattle.std.specs.Prelude.{Ok}
use Rattle.go_settling.specs.inner.Passes.{Passed}
use Rattle.go_settling.proofs.Passing.{attempt_below, attempt_then, passed_next, still_same}
use Rattle.go_settling.proofs.settle.settle_each.Goals as goal

pub loop-number-preserved : goal.loop-number-preserved
loop-number-preserved g c =
    let s = g.G.Giver.setting c.args.giver.now in
    let t = g.G.Giver.setting c.loop-number.giver in
    let u = g.G.Giver.source c.args.giver.now in
    let v = g.G.Giver.source c.loop-number.giver in
    let a = g.G.Giver.entries c.loop-number.giver in
    let b = g.G.Giver.entries c.settle.new.self in
    record {
      same = still_same s t (g.G.Giver.setting c.settle.new.self) u v (g.G.Giver.source c.settle.new.self) c.loop-number.invariant.same c.settle.ensures.same_setting c.settle.ensures.same_source;
      held = c.in-Ok.ensures.held;
      below = attempt_below s u a b c.loop-number.number c.settle.result c.loop-number.invariant.below (attempt_then s t u v a b c.loop-number.number c.settle.result c.loop-number.invariant.same c.settle.ensures.attempts);
      passed = subst (λ (m : Bool). Passed s u (g.G.Giver.entries c.args.giver.now) (c.loop-number.number + 1) m b) (sym c.either-moved.ensures)
          (passed_next s u (g.G.Giver.entries c.args.giver.now) a b c.loop-number.number c.loop-number.moved c.in-Ok.settled c.loop-number.invariant.passed (attempt_then s t u v a b c.loop-number.number (Ok c.in-Ok.settled) c.loop-number.invariant.same c.in-Ok.ensures.attempts));
    }

pub returns-in-Err-clause-below : goal.returns-in-Err-clause-below
returns-in-Err-clause-below g c =
    let s = g.G.Giver.setting c.args.giver.now in
    let t = g.G.Giver.setting c.loop-number.giver in
    let u = g.G.Giver.source c.args.giver.now in
    let v = g.G.Giver.source c.loop-number.giver in
    attempt_below s u (g.G.Giver.entries c.loop-number.giver) (g.G.Giver.entries c.settle.new.self) c.loop-number.number c.settle.result c.loop-number.invariant.below
    (attempt_then s t u v (g.G.Giver.entries c.loop-number.giver) (g.G.Giver.entries c.settle.new.self) c.loop-number.number c.settle.result c.loop-number.invariant.same c.settle.ensures.attempts)
