-- What a reading finds that skips: past a balanced run, and past a type.
-- Own: how the parser reads what the grammar derives.
use Rattle.std.specs.Prelude.{ℕ, Bool, true, false, not, if◌then◌else◌, List, [], ◌∷◌, drop, Option, Some, None}
use Rattle.go_syntax.specs.declared.body.BodyRange.{BodyRange}
use Rattle.go_syntax.specs.declared.token.TokenKind.{TokenKind}
use Rattle.go_syntax.specs.declared.token.TokenKind.TheVariants as kind
use Rattle.go_syntax.specs.grammar.Brackets.{closer, no_bracket, body_range}
use Rattle.go_syntax.specs.grammar.Symbols.{begins, begins_type, begins_selector, same_kind}
use Rattle.go_syntax.specs.grammar.Terminals.{Terminal, Sign, Identifier, Basic, Odd}
use Rattle.go_cursor.specs.Reading.{Found, Reader, Next, Stop, Fail, More, bind, run, past, begins_name}

-- what is left of the brackets that are still to close, after a keyword or an operator
abbrev pub after_closing : TokenKind → List TokenKind → Option (List TokenKind)
after_closing k [] = None
after_closing k (j ∷ still) = if same_kind j k then Some still else None

abbrev pub after_opening : TokenKind → Option TokenKind → List TokenKind → Option (List TokenKind)
after_opening k (Some j) still = Some (j ∷ still)
after_opening k None still = if no_bracket k then Some still else after_closing k still

abbrev pub after_terminal : Terminal → List TokenKind → Option (List TokenKind)
after_terminal (Sign k at) still = after_opening k (closer k) still
after_terminal (Identifier n) still = Some still
after_terminal (Basic l place) still = Some still
after_terminal Odd still = None

-- the same after the next terminal, if there is one
abbrev pub after_next : List Terminal → List TokenKind → Option (List TokenKind)
after_next [] still = Some still
after_next (t ∷ ts) still = after_terminal t still

-- the end of the bracket that closes last, and what is left after it
abbrev pub end_of : Terminal → ℕ
end_of (Sign k at) = at.1
end_of _ = 0

abbrev pub skip_on : Terminal → List Terminal → (List TokenKind → Found ℕ) → Option (List TokenKind) → Found ℕ
skip_on t ts more None = None
skip_on t ts more (Some []) = Some (end_of t, ts)
skip_on t ts more (Some (k ∷ still)) = more (k ∷ still)

-- past what closes all of these brackets
unfoldable pub skip : List Terminal → List TokenKind → Found ℕ
skip [] still = None
skip (t ∷ ts) still = skip_on t ts (skip ts) (after_terminal t still)

abbrev pub bracketed_by : Option TokenKind → List Terminal → Found ℕ
bracketed_by None ts = None
bracketed_by (Some j) ts = skip ts (j ∷ [])

-- past a bracket and what closes it
abbrev pub bracketed : List Terminal → Found ℕ
bracketed (Sign k at ∷ ts) = bracketed_by (closer k) ts
bracketed _ = None

-- the bracket that closes the one that is next
abbrev pub closer_of : Option TokenKind → Option TokenKind
closer_of None = None
closer_of (Some k) = closer k

-- the byte offset at which a keyword or an operator starts
abbrev pub start_at : List Terminal → ℕ
start_at (Sign k at ∷ ts) = at.0
start_at _ = 0

-- the byte offset at which it ends
abbrev pub end_at : List Terminal → ℕ
end_at [] = 0
end_at (t ∷ ts) = end_of t

-- a body that is skipped
unfoldable pub skipped_body : Reader BodyRange
skipped_body ts = if begins kind.LeftBrace ts then bind (bracketed ts) (λ end u. Some (body_range (start_at ts) end, u)) else None

-- Past a type: one turn goes past a front of it, and says whether it was the last

abbrev pub past_brackets : Bool → Found ℕ → Next Bool
past_brackets last None = Fail
past_brackets last (Some p) = More last p.1

abbrev pub past_result : Found ℕ → Next Bool
past_result None = Fail
past_result (Some p) = if begins kind.LeftParen p.1 then past_brackets true (bracketed p.1) else More (not (begins_type p.1)) p.1

abbrev pub past_name : List Terminal → List Terminal
past_name ts = if begins_selector ts then drop 2 ts else ts

unfoldable pub past_front : List Terminal → Next Bool
past_front ts =
    if begins kind.Multiply ts then More false (drop 1 ts) else
    if begins kind.ChanWord ts then More false (past kind.Arrow (drop 1 ts)) else
    if begins kind.Arrow ts then (if begins kind.ChanWord (drop 1 ts) then More false (drop 2 ts) else Fail) else
    if begins kind.LeftBracket ts then past_brackets false (bracketed ts) else
    if begins kind.MapWord ts then past_brackets false (bracketed (drop 1 ts)) else
    if begins kind.LeftParen ts then past_brackets true (bracketed ts) else
    if begins kind.StructWord ts then past_brackets true (bracketed (drop 1 ts)) else
    if begins kind.InterfaceWord ts then past_brackets true (bracketed (drop 1 ts)) else
    if begins kind.FuncWord ts then past_result (bracketed (drop 1 ts)) else
    if begins_name ts then More true (past_name (drop 1 ts)) else Fail

-- the same by the keyword or the operator that is next
abbrev pub front_of : TokenKind → List Terminal → Next Bool
front_of kind.Multiply ts = More false (drop 1 ts)
front_of kind.ChanWord ts = More false (past kind.Arrow (drop 1 ts))
front_of kind.Arrow ts = if begins kind.ChanWord (drop 1 ts) then More false (drop 2 ts) else Fail
front_of kind.LeftBracket ts = past_brackets false (bracketed ts)
front_of kind.MapWord ts = past_brackets false (bracketed (drop 1 ts))
front_of kind.LeftParen ts = past_brackets true (bracketed ts)
front_of kind.StructWord ts = past_brackets true (bracketed (drop 1 ts))
front_of kind.InterfaceWord ts = past_brackets true (bracketed (drop 1 ts))
front_of kind.FuncWord ts = past_result (bracketed (drop 1 ts))
front_of _ ts = Fail

-- and where none is next
abbrev pub front_name : List Terminal → Next Bool
front_name ts = if begins_name ts then More true (past_name (drop 1 ts)) else Fail

abbrev pub past_step : Bool → List Terminal → Next Bool
past_step true ts = Stop
past_step false ts = past_front ts

abbrev pub brace_after : Found Bool → Bool
brace_after None = false
brace_after (Some p) = begins kind.LeftBrace p.1

-- whether `{` directly follows the type that begins here
unfoldable pub is_composite : List Terminal → Bool
is_composite ts = brace_after (run past_step false ts)
