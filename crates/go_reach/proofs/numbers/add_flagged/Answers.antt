use Rattle.std.proofs.Common.{◌+◌, ◌∙◌, subst, sym}
use Rattle.go_reach.specs.Numbers.{AreFlagged}
use Rattle.go_reach.proofs.FlaggedNumbers.{flagged_more, flagged_same}
use Rattle.go_reach.proofs.numbers.add_flagged.Goals as goal

pub returns-then-not-flag : goal.returns-then-not-flag
returns-then-not-flag c h = flagged_same c.args.flags.now c.args.number c.args.numbers.now.items h (sym c.flag.ensures ∙ c.if-not-flag.true)

pub returns : goal.returns
returns c h =
    subst (AreFlagged c.args.flags.now (c.args.number + 1)) (sym c.in_ok-push.ensures.items)
    (flagged_more c.args.flags.now c.args.number c.args.numbers.now.items h (sym c.flag.ensures ∙ c.if-not-flag.false))
