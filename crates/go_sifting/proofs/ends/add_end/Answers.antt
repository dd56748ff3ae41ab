use Rattle.std.proofs.Common.{◌+◌, ◌∙◌, subst, sym}
use Rattle.go_sifting.specs.inner.Ends.{AreEnds}
use Rattle.go_sifting.proofs.Ending.{ends_more}
use Rattle.go_sifting.proofs.ends.add_end.Goals as goal

pub returns : goal.returns
returns c h =
    subst (AreEnds c.args.standing.now c.args.ranked.now c.args.back.now (c.args.number + 1)) (sym c.in_ok-push.ensures.items)
    (ends_more c.args.standing.now c.args.ranked.now c.args.back.now c.args.number c.args.ends.now.items h (sym c.fails.ensures ∙ c.if-not-fails.false))
