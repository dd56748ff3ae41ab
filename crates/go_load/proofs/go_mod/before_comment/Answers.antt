use Rattle.std.proofs.Common.{◌∷◌, [], ap, sym, ◌∙◌, arith}
use Rattle.go_load.specs.Names.{begins}
use Rattle.go_load.proofs.ModuleLines.{comment_next}
use Rattle.go_load.proofs.go_mod.before_comment.Goals as goal

pub loop-start-preserved : goal.loop-start-preserved
loop-start-preserved c = comment_next c.args.line.now c.loop-start.start (omega (arith, c.loop-start-test.true))
    (ap (λ w. begins w (47 ∷ 47 ∷ [])) (sym c.split_at.ensures.back) ∙ sym c.starts_with.ensures.value ∙ c.if-starts_with.false) c.loop-start.invariant
