use Rattle.std.proofs.Common.{◌≡◌, suc, ◌-◌, arith}
use Rattle.go_syntax.specs.grammar.Terminals.{terminals}
use Rattle.go_exprs.proofs.PartsBelow.{nothing_below, part_above}
use Rattle.go_exprs.proofs.levels.+below.Goals as goal

pub returns-then-height-eq0 : goal.returns-then-height-eq0
returns-then-height-eq0 t c = nothing_below c.args.height (omega arith) c.args.part (terminals c.args.tokens.now) c.args.tokens.now

pub returns : goal.returns
returns t c =
    let e : c.args.height ≡ suc (c.args.height - 1) = omega arith in
    part_above c.args.height (c.args.height - 1) e c.args.part (terminals c.args.tokens.now) c.part_at.result c.part_at.new.tokens c.part_at.ensures
