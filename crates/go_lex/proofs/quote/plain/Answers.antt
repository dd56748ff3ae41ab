use Rattle.std.proofs.Common.{sym, ◌∙◌}
use Rattle.go_lex.proofs.EscapePrefixes.{wrong_plain}
use Rattle.go_lex.proofs.quote.plain.Goals as goal

pub returns-in_default-clause-none : goal.returns-in_default-clause-none
returns-in_default-clause-none c d rest scalar t e =
    wrong_plain c.args.quote c.in-Some.c d c.args.bytes.now _ rest c.in-Some.ensures.some.0 (sym c.is_plain.ensures ∙ c.if-is_plain.false) t e
