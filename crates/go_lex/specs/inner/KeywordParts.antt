-- The table of keywords in parts, which are looked up one after the other.
use Rattle.std.specs.Prelude.{[], ◌∷◌, codes}
use Rattle.go_syntax.specs.declared.token.TokenKind.TheVariants as token
use Rattle.go_syntax.specs.lexical.Words.{KindTable}

-- the keywords of two and three letters
abbrev pub short_keywords : KindTable
short_keywords =
    (codes "go", token.GoWord) ∷ (codes "if", token.IfWord) ∷ (codes "for", token.ForWord)
    ∷ (codes "map", token.MapWord) ∷ (codes "var", token.VarWord) ∷ []

-- the keywords of four letters
abbrev pub keywords_of_four : KindTable
keywords_of_four =
    (codes "case", token.CaseWord) ∷ (codes "chan", token.ChanWord) ∷ (codes "else", token.ElseWord)
    ∷ (codes "func", token.FuncWord) ∷ (codes "goto", token.GotoWord) ∷ (codes "type", token.TypeWord) ∷ []

-- the keywords of five letters
abbrev pub keywords_of_five : KindTable
keywords_of_five =
    (codes "break", token.BreakWord) ∷ (codes "const", token.ConstWord)
    ∷ (codes "defer", token.DeferWord) ∷ (codes "range", token.RangeWord) ∷ []

-- the keywords of six letters
abbrev pub keywords_of_six : KindTable
keywords_of_six =
    (codes "import", token.ImportWord) ∷ (codes "return", token.ReturnWord) ∷ (codes "select", token.SelectWord)
    ∷ (codes "struct", token.StructWord) ∷ (codes "switch", token.SwitchWord) ∷ []

-- the keywords of seven letters and more
abbrev pub long_keywords : KindTable
long_keywords =
    (codes "default", token.DefaultWord) ∷ (codes "package", token.PackageWord) ∷ (codes "continue", token.ContinueWord)
    ∷ (codes "interface", token.InterfaceWord) ∷ (codes "fallthrough", token.FallthroughWord) ∷ []
