-- What a reading by recursive descent finds: a tree of a front of the terminals, and what is left after it.
-- Own: how the parser reads what the grammar derives.
use Rattle.std.specs.Prelude.{ℕ, zero, suc, Bool, true, false, not, if◌then◌else◌, List, [], ◌∷◌, ◌++◌, length, drop, Option, Some, None}
use Rattle.go_syntax.specs.declared.expression.Literal.{Literal}
use Rattle.go_syntax.specs.declared.expression.Literal.TheVariants as literal
use Rattle.go_syntax.specs.declared.name.Name.{Name}
use Rattle.go_syntax.specs.declared.token.TokenKind.{TokenKind}
use Rattle.go_syntax.specs.declared.token.TokenKind.TheVariants as kind
use Rattle.go_syntax.specs.grammar.Symbols.{begins, closes}
use Rattle.go_syntax.specs.grammar.Terminals.{Terminal, Identifier, Basic, Odd}

-- what is found, and what is left
abbrev pub Found : Type 0 → Type 0
Found A = Option (A × List Terminal)

abbrev pub Reader : Type 0 → Type 0
Reader A = List Terminal → Found A

abbrev pub bind : {A B : Type 0} → Found A → (A → Reader B) → Found B
bind None f = None
bind (Some p) f = f p.0 p.1

-- what one turn of a loop does
pub data Next (A : Type 0) : Type 0 where
  Stop : Next A
  Fail : Next A
  More : A → List Terminal → Next A

abbrev pub after : {A : Type 0} → Found A → Next A
after None = Fail
after (Some p) = More p.0 p.1

abbrev pub turn : {A : Type 0} → (A → Reader A) → A → List Terminal → Next A → Found A
turn go acc ts Stop = Some (acc, ts)
turn go acc ts Fail = None
turn go acc ts (More a rest) = go a rest

unfoldable pub loop : {A : Type 0} → (A → List Terminal → Next A) → ℕ → A → Reader A
loop step zero acc ts = Some (acc, ts)
loop step (suc n) acc ts = turn (loop step n) acc ts (step acc ts)

-- turns until one stops
unfoldable pub run : {A : Type 0} → (A → List Terminal → Next A) → A → Reader A
run step acc ts = loop step (length ts) acc ts

-- one item more
abbrev pub put : {A : Type 0} → List A → Next A → Next (List A)
put acc Stop = Stop
put acc Fail = Fail
put acc (More a ts) = More (acc ++ a ∷ []) ts

abbrev pub step_of : {A : Type 0} → (List Terminal → Next A) → List A → List Terminal → Next (List A)
step_of item acc ts = put acc (item ts)

abbrev pub silent_sign : TokenKind → Option TokenKind
silent_sign kind.Ident = None
silent_sign kind.IntLit = None
silent_sign kind.FloatLit = None
silent_sign kind.ImagLit = None
silent_sign kind.RuneLit = None
silent_sign kind.StrLit = None
silent_sign k = Some k

unfoldable pub expect : TokenKind → Reader (Unit {0})
expect k ts = if begins k ts then Some (tt, drop 1 ts) else None

-- this tree, once the bracket is taken
unfoldable pub close : {A : Type 0} → TokenKind → A → Reader A
close k a ts = if begins k ts then Some (a, drop 1 ts) else None

-- past a keyword or an operator that may be missing
abbrev pub past : TokenKind → List Terminal → List Terminal
past k ts = if begins k ts then drop 1 ts else ts

-- whether a comma is next that another item follows
abbrev pub goes_on : List Terminal → Bool
goes_on ts = if begins kind.Comma ts then not (closes (drop 1 ts)) else false

-- the end of an item of a list in brackets
unfoldable pub ended : {A : Type 0} → A → Reader A
ended a ts = if begins kind.Semicolon ts then Some (a, drop 1 ts) else if closes ts then Some (a, ts) else None

-- one item of a list in brackets, and its end
abbrev pub spec_item : {A : Type 0} → Reader A → List Terminal → Next A
spec_item item ts = if closes ts then Stop else after (bind (item ts) ended)

-- all of these items more
abbrev pub put_all : {A : Type 0} → List A → Next (List A) → Next (List A)
put_all acc Stop = Stop
put_all acc Fail = Fail
put_all acc (More xs ts) = More (acc ++ xs) ts

abbrev pub step_all : {A : Type 0} → (List Terminal → Next (List A)) → List A → List Terminal → Next (List A)
step_all item acc ts = put_all acc (item ts)

abbrev pub found_at : {A : Type 0} → Option A → List Terminal → Found A
found_at None ts = None
found_at (Some a) ts = Some (a, ts)

-- the name that a terminal is
abbrev pub name_of : Terminal → Option Name
name_of (Identifier n) = Some n
name_of _ = None

abbrev pub name : Reader Name
name [] = None
name (t ∷ ts) = found_at (name_of t) ts

abbrev pub begins_name : List Terminal → Bool
begins_name (Identifier n ∷ ts) = true
begins_name _ = false

-- whether the next token's kind and value don't fit together
abbrev pub begins_odd : List Terminal → Bool
begins_odd (Odd ∷ ts) = true
begins_odd _ = false

-- the literal that is next
abbrev pub literal_at : List Terminal → Option Literal
literal_at (Basic l place ∷ ts) = Some l
literal_at _ = None

-- the text and the place of the string literal that is next
abbrev pub string_at : List Terminal → Option (List ℕ × ℕ)
string_at (Basic (literal.Str text) place ∷ ts) = Some (text, place)
string_at _ = None
