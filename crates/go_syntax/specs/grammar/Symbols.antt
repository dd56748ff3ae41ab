-- What stands next in a list of terminal symbols: the steps of which the grammar's rules are made. A rule's
-- relation speaks of the terminals at which a tree begins and of those that follow it.
-- Public source: Go specification, "Notation" and "Semicolons".
use Rattle.std.specs.Prelude.{◌≡◌, ℕ, Bool, true, false, List, [], ◌∷◌, Option, Some, None}
use denote.Enum.Bare.{sameb}
use Rattle.go_syntax.specs.contracts.token.TokenKind.{the_type}
use Rattle.go_syntax.specs.declared.expression.Literal.{Literal}
use Rattle.go_syntax.specs.declared.expression.Literal.TheVariants as literal
use Rattle.go_syntax.specs.declared.name.Name.{Name}
use Rattle.go_syntax.specs.declared.token.TokenKind.{TokenKind}
use Rattle.go_syntax.specs.declared.token.TokenKind.TheVariants as kind
use Rattle.go_syntax.specs.grammar.Terminals.{Terminal, Sign, Identifier, Basic, Extent}

-- what a rule says: the terminals at which a tree begins, the tree, and the terminals that follow it
abbrev pub Rule : Type 0 → Type 1
Rule A = List Terminal → A → List Terminal → Type 0

-- a keyword or an operator
pub data Takes (k : TokenKind) : List Terminal → List Terminal → Type 0 where
  takes : {ts : List Terminal} (at : Extent) → Takes k (Sign k at ∷ ts) ts

-- a keyword or an operator that may be missing
pub data MayTake (k : TokenKind) : List Terminal → List Terminal → Type 0 where
  takes_none : {ts : List Terminal} → MayTake k ts ts
  takes_one : {ts rest : List Terminal} → Takes k ts rest → MayTake k ts rest

-- the same, and whether it stands there
pub data Marks (k : TokenKind) : List Terminal → Bool → List Terminal → Type 0 where
  unmarked : {ts : List Terminal} → Marks k ts false ts
  marked : {ts rest : List Terminal} → Takes k ts rest → Marks k ts true rest

-- a name
pub data TakesName (n : Name) : List Terminal → List Terminal → Type 0 where
  takes_name : {ts : List Terminal} → TakesName n (Identifier n ∷ ts) ts

-- a literal
pub data TakesLiteral (l : Literal) : List Terminal → List Terminal → Type 0 where
  takes_literal : {ts : List Terminal} (place : ℕ) → TakesLiteral l (Basic l place ∷ ts) ts

-- a string literal, and the byte offset at which it starts
pub data TakesString (text : List ℕ) (place : ℕ) : List Terminal → List Terminal → Type 0 where
  takes_string : {ts : List Terminal} → TakesString text place (Basic (literal.Str text) place ∷ ts) ts

-- the keyword or operator that a terminal is
abbrev pub sign_of : Terminal → Option TokenKind
sign_of (Sign k at) = Some k
sign_of _ = None

-- the keyword or operator that is next
abbrev pub sign_at : List Terminal → Option TokenKind
sign_at [] = None
sign_at (t ∷ ts) = sign_of t

abbrev pub same_kind : TokenKind → TokenKind → Bool
same_kind = sameb the_type

abbrev pub is_sign : TokenKind → Option TokenKind → Bool
is_sign k None = false
is_sign k (Some j) = same_kind j k

-- whether this keyword or operator is next
abbrev pub begins : TokenKind → List Terminal → Bool
begins k ts = is_sign k (sign_at ts)

abbrev pub closing : TokenKind → Bool
closing kind.RightParen = true
closing kind.RightBrace = true
closing _ = false

-- whether `)` or `}` is next
abbrev pub closes : List Terminal → Bool
closes (Sign k at ∷ ts) = closing k
closes _ = false

-- the end of a declaration, a field or a method in brackets: a semicolon, which may be missing directly before
-- `)` or `}`
pub data Ends : List Terminal → List Terminal → Type 0 where
  ends_semicolon : {ts rest : List Terminal} → Takes kind.Semicolon ts rest → Ends ts rest
  ends_closing : {ts : List Terminal} → closes ts ≡ true → Ends ts ts

-- whether a keyword or an operator but `<-` can begin a type
abbrev pub opens_type : TokenKind → Bool
opens_type kind.LeftParen = true
opens_type kind.LeftBracket = true
opens_type kind.Multiply = true
opens_type kind.MapWord = true
opens_type kind.ChanWord = true
opens_type kind.FuncWord = true
opens_type kind.StructWord = true
opens_type kind.InterfaceWord = true
opens_type _ = false

-- whether a type can begin here; after the parameters of a signature it is then its result
abbrev pub begins_type : List Terminal → Bool
begins_type (Identifier n ∷ ts) = true
begins_type (Sign kind.Arrow at ∷ ts) = begins kind.ChanWord ts
begins_type (Sign k at ∷ ts) = opens_type k
begins_type _ = false

-- whether `.` and a name are next; after a name that is to be a type's they belong to it
abbrev pub begins_selector : List Terminal → Bool
begins_selector (Sign kind.Period at ∷ Identifier n ∷ ts) = true
begins_selector _ = false
