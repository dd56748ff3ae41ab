use Rattle.std.proofs.Common.{◌≡◌, ◌∙◌, List, ℕ, sym, subst, arith, false}
use Rattle.std.specs.Prelude.{codes}
use Rattle.std.proofs.lemmas.List.{take_rest}
use Rattle.go_base.specs.Comments.{starts_with}
use Rattle.go_base.proofs.Fronts.{close_later}
use Rattle.go_base.proofs.comments.close_len.Goals as goal

pub loop-at-preserved : goal.loop-at-preserved
loop-at-preserved c = record {
  within = omega arith;
  so_far = close_later c.args.bytes.now c.loop-at.at c.loop-at-test.true
      (subst (λ (w : List ℕ). starts_with (codes "*/") w ≡ false) (take_rest c.args.bytes.now c.loop-at.at) (sym c.if-starts_with.ensures.value))
      ∙ c.loop-at.invariant.so_far;
}
