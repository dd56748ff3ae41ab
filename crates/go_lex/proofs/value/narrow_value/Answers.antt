use Rattle.std.proofs.Common.{arith}
use Rattle.go_syntax.specs.lexical.Numbers.{value_from}
use Rattle.go_lex.proofs.StringValues.{front_smaller}
use Rattle.go_lex.proofs.value.narrow_value.Goals as goal

pub returns-in-None : goal.returns-in-None
returns-in-None c narrow =
    c.in-None.ensures
    (omega (arith, narrow, front_smaller c.args.base c.loop-b.value c.loop-b.b-index (value_from c.args.base 0 c.args.digits.now) c.args.digits.now c.requires c.loop-b-test.true c.loop-b.invariant.so_far))
