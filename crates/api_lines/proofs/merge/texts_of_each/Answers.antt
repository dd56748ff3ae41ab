use Rattle.std.proofs.Common.{[], List, subst}
use Rattle.go_base.specs.Growing.{Grows}
use Rattle.api_lines.specs.declared.line.Line.{Line}
use Rattle.api_lines.specs.Lines.{HasText}
use Rattle.api_lines.proofs.AddedLines.{are_texts_next}
use Rattle.api_lines.proofs.merge.texts_of_each.Goals as goal

pub loop-lines-preserved : goal.loop-lines-preserved
loop-lines-preserved c =
    are_texts_next c.args.lists.now c.loop-lines.lines-index c.lines-item.result c.loop-lines.all.items c.push.new.self.items c.in_ok-of_lines.field-0 c.loop-lines-test.true c.lines-item.is c.loop-lines.invariant
    (subst (λ (w : List Line). Grows (HasText w) [] c.in_ok-of_lines.field-0) c.items.ensures c.in_ok-of_lines.ensures) c.in_ok-push.ensures.items
