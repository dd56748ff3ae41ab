use Rattle.std.proofs.Common.{◌≡◌, [], ℕ, List, subst}
use Rattle.go_base.specs.Growing.{Grows}
use Rattle.api_lines.proofs.Growing.{grows_member}
use Rattle.api_lines.proofs.texts.Texts.of.Goals as goal

pub loop-text-preserved : goal.loop-text-preserved
loop-text-preserved c =
    grows_member c.args.all.now c.loop-text.text-index c.text-item.result [] c.loop-text.texts c.add.new.self c.loop-text-test.true c.text-item.is c.loop-text.invariant
    (subst (λ (w : List ℕ). Grows (λ t. w ≡ t) c.loop-text.texts c.add.new.self) (c.in_ok-copy.ensures) c.in_ok-add.ensures)
