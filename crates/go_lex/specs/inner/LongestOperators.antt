-- The operators at the start of some bytes.
use Rattle.std.specs.Prelude.{ℕ, Option, None, Some, List, [], ◌∷◌}
use Rattle.go_syntax.specs.lexical.Words.{kind_in, operators_of_three, operators_of_two, operators_of_one}
use Rattle.go_syntax.specs.declared.token.TokenKind.{TokenKind}
use Rattle.go_lex.specs.declared.operator.Operator.{Operator}

-- an operator of so many bytes, if it is one, or else the other
abbrev pub or_shorter : ℕ → Option TokenKind → Option Operator → Option Operator
or_shorter len None other = other
or_shorter len (Some kind) other = Some (record { kind = kind; len = len })

-- the longest operator among those that these bytes begin with
abbrev pub operator_at : List ℕ → Option Operator
operator_at [] = None
operator_at (a ∷ []) = or_shorter 1 (kind_in operators_of_one (a ∷ [])) None
operator_at (a ∷ (b ∷ [])) = or_shorter 2 (kind_in operators_of_two (a ∷ (b ∷ []))) (or_shorter 1 (kind_in operators_of_one (a ∷ [])) None)
operator_at (a ∷ (b ∷ (c ∷ cs))) =
    or_shorter 3 (kind_in operators_of_three (a ∷ (b ∷ (c ∷ []))))
    (or_shorter 2 (kind_in operators_of_two (a ∷ (b ∷ []))) (or_shorter 1 (kind_in operators_of_one (a ∷ [])) None))
