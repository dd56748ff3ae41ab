use Rattle.std.proofs.Common.{◌≡◌, [], ℕ, List, subst}
use Rattle.go_base.specs.Growing.{Grows}
use Rattle.api_lines.specs.Lines.{printed}
use Rattle.api_lines.proofs.Growing.{grows_next}
use Rattle.api_lines.proofs.texts.Texts.of_lines.Goals as goal

pub loop-line-preserved : goal.loop-line-preserved
loop-line-preserved c =
    grows_next (λ l t. printed l ≡ t) c.args.lines.now c.loop-line.line-index c.line-item.result [] c.loop-line.texts c.add.new.self c.loop-line-test.true c.line-item.is c.loop-line.invariant
    (subst (λ (w : List ℕ). Grows (λ t. w ≡ t) c.loop-line.texts c.add.new.self) c.in_ok-printed.ensures c.in_ok-add.ensures)
