-- What the next terminals begin, where more than one of them says so.
-- Own: how the parser reads what the grammar derives.
use Rattle.std.specs.Prelude.{Bool, true, false, if◌then◌else◌, List, ◌∷◌, drop}
use Rattle.go_syntax.specs.declared.token.TokenKind.TheVariants as kind
use Rattle.go_syntax.specs.grammar.Symbols.{begins, begins_type, begins_selector}
use Rattle.go_syntax.specs.grammar.Terminals.{Terminal, Sign, Identifier}

-- whether the names that begin here have a type: names with commas between them, and then a type or `...`
unfoldable pub is_named : List Terminal → Bool
is_named (Identifier n ∷ Sign kind.Comma at ∷ ts) = is_named ts
is_named (Identifier n ∷ ts) = if begins kind.Ellipsis ts then true else begins_type ts
is_named _ = false

-- whether a list of names, and not an embedded field, begins here
abbrev pub names_field : List Terminal → Bool
names_field (Identifier n ∷ ts) = if begins kind.Comma ts then true else begins_type ts
names_field _ = false

-- whether a name and its parameters begin here
abbrev pub names_method : List Terminal → Bool
names_method (Identifier n ∷ ts) = begins kind.LeftParen ts
names_method _ = false

-- whether a composite literal begins with a type's name here
abbrev pub names_composite : List Terminal → Bool
names_composite (Identifier n ∷ ts) = if begins_selector ts then begins kind.LeftBrace (drop 2 ts) else begins kind.LeftBrace ts
names_composite _ = false

-- whether `<-` `chan` is next
abbrev pub begins_receive : List Terminal → Bool
begins_receive ts = if begins kind.Arrow ts then begins kind.ChanWord (drop 1 ts) else false

-- `.(type)`, the end of the operand of a type switch
abbrev pub begins_type_switch : List Terminal → Bool
begins_type_switch ts = if begins kind.Period ts then if begins kind.LeftParen (drop 1 ts) then begins kind.TypeWord (drop 2 ts) else false else false
