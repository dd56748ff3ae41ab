-- What the functions that read blocks ensure.
-- Own: how the parser reads what the grammar derives.
use Rattle.std.specs.Prelude.{◌≡◌, List, Option, Some, None, Result, Ok, Err}
use Rattle.go_bodies.specs.Reading.{Opening, Progress, progress}
use Rattle.go_cursor.specs.declared.error.ParseError.{ParseError}
use Rattle.go_cursor.specs.declared.error.ParseError.TheVariants.{NoMemory, Syntax}
use Rattle.go_function_literals.specs.declared.place.LiteralPlace.{LiteralPlace}
use Rattle.go_syntax.specs.declared.statement.LiteralBlock.{LiteralBlock}
use Rattle.go_syntax.specs.declared.statement.ParsedBody.{ParsedBody}
use Rattle.go_syntax.specs.declared.token.Token.{Token}
use Rattle.go_syntax.specs.grammar.Terminals.{Terminal, terminals}

-- one literal: the places of those in it, the tokens behind its `{`, and the blocks with its own
abbrev pub Opens : Opening → Result (List LiteralPlace) ParseError → List Token → List LiteralBlock → Type 0
Opens found (Ok inner) ahead blocks = found ≡ Some (inner, progress (terminals ahead) blocks)
Opens found (Err NoMemory) ahead blocks = Unit {0}
Opens found (Err Syntax) ahead blocks = found ≡ None

-- literals one after another
abbrev pub Goes : Option Progress → Result (Unit {0}) ParseError → List Token → List LiteralBlock → Type 0
Goes found (Ok u) ahead blocks = found ≡ Some (progress (terminals ahead) blocks)
Goes found (Err NoMemory) ahead blocks = Unit {0}
Goes found (Err Syntax) ahead blocks = found ≡ None

-- all of them
abbrev pub HasRead : Option Progress → Result (List LiteralBlock) ParseError → Type 0
HasRead found (Ok blocks) = (behind : List Terminal) × (found ≡ Some (progress behind blocks))
HasRead found (Err NoMemory) = Unit {0}
HasRead found (Err Syntax) = found ≡ None

abbrev pub FindsBody : Option ParsedBody → Result ParsedBody ParseError → Type 0
FindsBody found (Ok p) = found ≡ Some p
FindsBody found (Err NoMemory) = Unit {0}
FindsBody found (Err Syntax) = found ≡ None
