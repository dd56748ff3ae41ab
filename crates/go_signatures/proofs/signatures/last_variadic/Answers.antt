use Rattle.std.proofs.Common.{◌∙◌, not, nat_le, length, ap, sym}
use Rattle.go_syntax.specs.grammar.Grammar.{at_most_one}
use Rattle.go_signatures.proofs.Variadics.{other_variadic, plain_last, named_last, short}
use Rattle.go_signatures.proofs.signatures.last_variadic.Goals as goal

pub returns-then-not-last : goal.returns-then-not-last
returns-then-not-last c =
    ap not c.if-not-last.true
    ∙ plain_last c.args.parameters.now c.in-Some.others.now c.in-Some.last.now c.in-Some.ensures.cases.0 (sym c.none_variadic.ensures ∙ c.if-none_variadic.true) c.if-not-last.true

pub returns-else-not-last : goal.returns-else-not-last
returns-else-not-last c =
    named_last c.args.parameters.now c.in-Some.others.now c.in-Some.last.now c.in-Some.ensures.cases.0 (sym c.none_variadic.ensures ∙ c.if-none_variadic.true) c.if-not-last.false
    (nat_le (length c.items.result.now) 1)
    (short c.items.result.now ∙ ap at_most_one c.items.ensures)

pub returns-else-none_variadic : goal.returns-else-none_variadic
returns-else-none_variadic c =
    c.if-none_variadic.false
    ∙ other_variadic c.args.parameters.now c.in-Some.others.now c.in-Some.last.now c.in-Some.ensures.cases.0 (sym c.none_variadic.ensures ∙ c.if-none_variadic.false)
