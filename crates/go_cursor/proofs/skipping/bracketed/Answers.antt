use Rattle.std.proofs.Common.{ℕ, drop, Some, None, refl, sym, subst}
use Rattle.go_syntax.specs.grammar.Terminals.{terminals}
use Rattle.go_cursor.specs.Reading.{Found}
use Rattle.go_cursor.specs.Reads.{Reads}
use Rattle.go_cursor.proofs.Skips.{bracketed_at}
use Rattle.go_cursor.proofs.skipping.bracketed.Goals as goal

pub returns-in-None : goal.returns-in-None
returns-in-None c = bracketed_at (terminals c.args.tokens.now) (drop 1 (terminals c.args.tokens.now)) None (sym c.in-None.ensures) refl

pub returns-in-Some : goal.returns-in-Some
returns-in-Some c =
    subst (λ (found : Found ℕ). Reads found c.skip.result c.skip.new.tokens)
    (sym (bracketed_at (terminals c.args.tokens.now) (terminals c.advance.new.self) (Some c.in-Some.closing) (sym c.in-Some.ensures) c.advance.ensures))
    c.skip.ensures
