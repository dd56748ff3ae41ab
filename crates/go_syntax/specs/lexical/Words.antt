-- Keywords and operators.
-- Public source: Go specification, "Keywords" and "Operators and punctuation".
use Rattle.std.specs.Prelude.{ℕ, if◌then◌else◌, Option, Some, None, unwrap_or, List, [], ◌∷◌, ◌++◌, codes, bytes_eq}
use Rattle.std.specs.List.{zip}
use Rattle.go_base.specs.Keywords.{keywords}
use Rattle.go_syntax.specs.declared.token.TokenKind.{TokenKind}
use Rattle.go_syntax.specs.declared.token.TokenKind.TheVariants as token

-- texts, and the kinds of the tokens that they are
abbrev pub KindTable : Type 0
KindTable = List (List ℕ × TokenKind)

-- the kind that the table gives a text
abbrev pub kind_in : KindTable → List ℕ → Option TokenKind
kind_in [] text = None
kind_in (row ∷ rows) text = if bytes_eq text row.0 then Some row.1 else kind_in rows text

-- the kinds of the keywords, in the order of their texts
unfoldable pub keyword_kinds : List TokenKind
keyword_kinds =
    token.GoWord ∷ token.IfWord ∷ token.ForWord ∷ token.MapWord ∷ token.VarWord
    ∷ token.CaseWord ∷ token.ChanWord ∷ token.ElseWord ∷ token.FuncWord ∷ token.GotoWord ∷ token.TypeWord
    ∷ token.BreakWord ∷ token.ConstWord ∷ token.DeferWord ∷ token.RangeWord
    ∷ token.ImportWord ∷ token.ReturnWord ∷ token.SelectWord ∷ token.StructWord ∷ token.SwitchWord
    ∷ token.DefaultWord ∷ token.PackageWord ∷ token.ContinueWord ∷ token.InterfaceWord ∷ token.FallthroughWord ∷ []

-- each keyword with its kind
abbrev pub keyword_table : KindTable
keyword_table = zip keywords keyword_kinds

-- a name is a keyword, or else an identifier
abbrev pub name_kind : List ℕ → TokenKind
name_kind text = unwrap_or (kind_in keyword_table text) token.Ident

-- the operators and punctuation of three bytes
unfoldable pub operators_of_three : KindTable
operators_of_three =
    (codes "<<=", token.ShiftLeftAssign) ∷ (codes ">>=", token.ShiftRightAssign) ∷ (codes "&^=", token.AndNotAssign)
    ∷ (codes "...", token.Ellipsis) ∷ []

-- those of two bytes
unfoldable pub operators_of_two : KindTable
operators_of_two =
    (codes "<<", token.ShiftLeft) ∷ (codes ">>", token.ShiftRight) ∷ (codes "&^", token.AndNot)
    ∷ (codes "+=", token.AddAssign) ∷ (codes "-=", token.SubtractAssign) ∷ (codes "*=", token.MultiplyAssign)
    ∷ (codes "/=", token.DivideAssign) ∷ (codes "%=", token.RemainderAssign) ∷ (codes "&=", token.AndAssign)
    ∷ (codes "|=", token.OrAssign) ∷ (codes "^=", token.XorAssign)
    ∷ (codes "&&", token.LogicalAnd) ∷ (codes "||", token.LogicalOr) ∷ (codes "<-", token.Arrow)
    ∷ (codes "++", token.Increment) ∷ (codes "--", token.Decrement) ∷ (codes "==", token.Equal)
    ∷ (codes "!=", token.NotEqual) ∷ (codes "<=", token.LessEqual) ∷ (codes ">=", token.GreaterEqual)
    ∷ (codes ":=", token.Define) ∷ []

-- those of one byte
unfoldable pub operators_of_one : KindTable
operators_of_one =
    (codes "+", token.Add) ∷ (codes "-", token.Subtract) ∷ (codes "*", token.Multiply) ∷ (codes "/", token.Divide)
    ∷ (codes "%", token.Remainder) ∷ (codes "&", token.And) ∷ (codes "|", token.Or) ∷ (codes "^", token.Xor)
    ∷ (codes "<", token.Less) ∷ (codes ">", token.Greater) ∷ (codes "=", token.Assign) ∷ (codes "!", token.Not)
    ∷ (codes "~", token.Tilde) ∷ (codes "(", token.LeftParen) ∷ (codes "[", token.LeftBracket)
    ∷ (codes "{", token.LeftBrace) ∷ (codes ",", token.Comma) ∷ (codes ".", token.Period)
    ∷ (codes ")", token.RightParen) ∷ (codes "]", token.RightBracket) ∷ (codes "}", token.RightBrace)
    ∷ (codes ";", token.Semicolon) ∷ (codes ":", token.Colon) ∷ []

-- the operators and punctuation
abbrev pub operators : KindTable
operators = operators_of_three ++ (operators_of_two ++ operators_of_one)
