use Rattle.std.proofs.Common.{Bool, sym, subst}
use Rattle.go_syntax.specs.grammar.Terminals.{terminals}
use Rattle.go_cursor.specs.Reading.{Next}
use Rattle.go_cursor.specs.Reads.{ReadsTurn}
use Rattle.go_cursor.proofs.Skips.{front_sign, front_none}
use Rattle.go_cursor.proofs.skipping.past_front.Goals as goal

pub returns-in-None : goal.returns-in-None
returns-in-None c =
    subst (λ (next : Next Bool). ReadsTurn next c.past_named.result c.past_named.new.tokens)
    (sym (front_none (terminals c.args.tokens.now) (sym c.in-None.ensures)))
    c.past_named.ensures

pub returns-in-Some : goal.returns-in-Some
returns-in-Some c =
    subst (λ (next : Next Bool). ReadsTurn next c.past_sign.result c.past_sign.new.tokens)
    (sym (front_sign (terminals c.args.tokens.now) c.in-Some.sign (sym c.in-Some.ensures)))
    c.past_sign.ensures
