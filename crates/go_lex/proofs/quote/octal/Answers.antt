use Rattle.std.proofs.Common.{ap, arith}
use Rattle.go_syntax.specs.lexical.Numbers.{value_from}
use Rattle.go_lex.proofs.CountedDigits.{front_counted}
use Rattle.go_lex.proofs.quote.octal.Goals as goal

pub returns-in_default-clause-none : goal.returns-in_default-clause-none
returns-in_default-clause-none c ds more a small e =
    omega (arith, c.in-Some.ensures.some.value_is, c.if-value-le255.false, small, ap (value_from 8 0) (front_counted 8 3 c.args.rest.now ds more a e).0)
