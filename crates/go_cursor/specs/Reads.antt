-- What a function that reads ensures: what the reading finds, unless memory fails.
-- Own: how the parser reads what the grammar derives.
use Rattle.std.specs.Prelude.{◌≡◌, Bool, if◌then◌else◌, List, reverse, Option, Some, None, Result, Ok, Err}
use Rattle.go_syntax.specs.go_base.declared.memory.NoMemory.{NoMemory as NoRoom}
use Rattle.go_syntax.specs.declared.token.TokenKind.{TokenKind}
use Rattle.go_syntax.specs.declared.token.Token.{Token}
use Rattle.go_syntax.specs.grammar.Terminals.{Terminal, terminals}
use Rattle.go_cursor.specs.declared.error.ParseError.{ParseError}
use Rattle.go_cursor.specs.declared.error.ParseError.TheVariants.{NoMemory, Syntax}
use Rattle.go_cursor.specs.Reading.{Found, Next, Stop, Fail, More}

abbrev pub Reads : {A : Type 0} → Found A → Result A ParseError → List Token → Type 0
Reads found (Ok a) new = found ≡ Some (a, terminals new)
Reads found (Err NoMemory) new = Unit {0}
Reads found (Err Syntax) new = found ≡ None

-- one turn of a loop: one more item, or none and nothing taken
abbrev pub ReadsNext : {A : Type 0} → Next A → List Terminal → Result (Option A) ParseError → List Token → Type 0
ReadsNext next old (Ok (Some a)) new = next ≡ More a (terminals new)
ReadsNext next old (Ok None) new = (next ≡ Stop) × (terminals new ≡ old)
ReadsNext next old (Err NoMemory) new = Unit {0}
ReadsNext next old (Err Syntax) new = next ≡ Fail

-- the same of a turn that always goes on or fails
abbrev pub ReadsTurn : {A : Type 0} → Next A → Result A ParseError → List Token → Type 0
ReadsTurn next (Ok a) new = next ≡ More a (terminals new)
ReadsTurn next (Err NoMemory) new = Unit {0}
ReadsTurn next (Err Syntax) new = next ≡ Fail

-- which closing brackets are still wanted, the next one last, unless memory fails
abbrev pub Leaves : Option (List TokenKind) → Result Bool NoRoom → List TokenKind → Type 0
Leaves after (Ok fits) wanted = after ≡ (if fits then Some (reverse wanted) else None)
Leaves after (Err e) wanted = Unit {0}
