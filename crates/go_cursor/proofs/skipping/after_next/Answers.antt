use Rattle.std.proofs.Common.{List, reverse, Option, sym, subst}
use Rattle.go_syntax.specs.declared.token.TokenKind.{TokenKind}
use Rattle.go_syntax.specs.grammar.Terminals.{terminals}
use Rattle.go_cursor.specs.Reads.{Leaves}
use Rattle.go_cursor.proofs.Skips.{sign_next, other_next}
use Rattle.go_cursor.proofs.skipping.after_next.Goals as goal

pub returns-in-Some : goal.returns-in-Some
returns-in-Some c =
    subst (λ (after : Option (List TokenKind)). Leaves after c.after_sign.result c.after_sign.new.wanted.items)
    (sym (sign_next (terminals c.args.tokens.now) c.in-Some.sign (reverse c.args.wanted.now.items) (sym c.in-Some.ensures)))
    c.after_sign.ensures

pub returns-in-None : goal.returns-in-None
returns-in-None c = other_next (terminals c.args.tokens.now) (reverse c.args.wanted.now.items) c.is_odd.result (sym c.in-None.ensures) c.is_odd.ensures
