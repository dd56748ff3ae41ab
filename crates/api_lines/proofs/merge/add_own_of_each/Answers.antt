use Rattle.std.proofs.Common.{List, Some, subst}
use Rattle.go_base.specs.Growing.{Grows}
use Rattle.api_lines.specs.declared.line.Line.{Line}
use Rattle.api_lines.specs.inner.AddedLines.{IsAddedFrom}
use Rattle.api_lines.proofs.AddedLines.{added_next, added_all}
use Rattle.api_lines.proofs.merge.add_own_of_each.Goals as goal

pub loop-i-preserved : goal.loop-i-preserved
loop-i-preserved c =
    added_next c.args.common.now c.args.lists.now c.args.platforms.now c.loop-i.i c.index-lists-i.result c.platform_at-platform.result c.args.merged.now c.loop-i.merged c.add_lines.new.merged c.requires c.loop-i-test.true c.index-lists-i.is c.platform_at-platform.ensures c.loop-i.invariant
    (subst (λ (w : List Line). Grows (IsAddedFrom c.args.common.now (Some c.platform_at-platform.result) w) c.loop-i.merged c.add_lines.new.merged) c.items.ensures c.in_ok-add_lines.ensures)

pub returns : goal.returns
returns c = added_all c.args.common.now c.args.lists.now c.args.platforms.now c.loop-i.i c.args.merged.now c.loop-i.merged c.loop-i-test.false c.loop-i.invariant
