use Rattle.std.proofs.Common.{◌∙◌, Option, subst}
use Rattle.api_lines.specs.declared.line.Line.{Line}
use Rattle.api_lines.specs.inner.Joins.{IsTakenFirst}
use Rattle.api_lines.proofs.Joins.{joining_next, joining_none}
use Rattle.api_lines.proofs.join.joined.Goals as goal

pub loop-init : goal.loop-init
loop-init c =
    joining_none c.args.first c.args.second c.from-first.result.items c.from-second.result.items c.in_ok-all.all.items (c.from-first.ensures.0 ∙ c.into_vec.ensures) (c.from-second.ensures.0 ∙ c.into_vec-2.ensures) c.in_ok-all.ensures.items c.requires.first c.requires.second

pub loop-preserved : goal.loop-preserved
loop-preserved c =
    joining_next c.args.first c.args.second c.loop.first.items c.loop.second.items c.loop.all.items c.loop.invariant c.take_first.new.first.items c.take_first.new.second.items c.push.new.self.items c.in-Some.line c.in_ok-push-in-Some.ensures.items
    (subst (λ (r : Option Line). IsTakenFirst c.loop.first.items c.loop.second.items c.take_first.new.first.items c.take_first.new.second.items r) c.in-Some.is c.in_ok-take_first.ensures)
