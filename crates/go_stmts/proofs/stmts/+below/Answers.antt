use Rattle.std.proofs.Common.{◌≡◌, suc, ◌-◌, arith}
use Rattle.go_syntax.specs.grammar.Terminals.{terminals}
use Rattle.go_stmts.proofs.Heights.{flat_part, part_above}
use Rattle.go_stmts.proofs.stmts.+below.Goals as goal

pub returns-then-readers-eq0 : goal.returns-then-readers-eq0
returns-then-readers-eq0 t c = flat_part c.args.readers.height (omega arith) c.args.part (terminals c.args.tokens.now) c.flat_part.result c.flat_part.new.tokens c.flat_part.ensures

pub returns : goal.returns
returns t c =
    let e : c.args.readers.height ≡ suc (c.args.readers.height - 1) = omega arith in
    part_above c.args.readers.height (c.args.readers.height - 1) e c.args.part (terminals c.args.tokens.now) c.part_at.result c.part_at.new.tokens c.part_at.ensures
