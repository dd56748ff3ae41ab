-- What the reader of the blocks of a file finds: where each body stands that stands in no other, and then the blocks of all of them.
-- Own: how the parser reads what the grammar derives.
use Rattle.std.specs.Prelude.{ℕ, Bool, true, false, nat_eq, if◌then◌else◌, List, [], ◌∷◌, drop, Option, Some, None}
use Rattle.go_bodies.specs.Braces.{from_brace}
use Rattle.go_bodies.specs.Reading.{Progress, literals, progress}
use Rattle.go_cursor.specs.Reading.{Found}
use Rattle.go_cursor.specs.Skipping.{skipped_body}
use Rattle.go_function_literals.specs.declared.place.LiteralPlace.{LiteralPlace}
use Rattle.go_syntax.specs.declared.body.BodyRange.{BodyRange}
use Rattle.go_syntax.specs.grammar.Terminals.{Terminal}

-- whether the range that is skipped here is this one, which starts here
abbrev pub is_range : Found BodyRange → BodyRange → Bool
is_range None b = false
is_range (Some p) b = nat_eq p.0.end b.end

-- whether each of these bodies stands behind the one before it
unfoldable pub all_stand : List Terminal → List LiteralPlace → Bool
all_stand ahead [] = true
all_stand ahead (p ∷ ps) = if is_range (skipped_body (from_brace p.body.start ahead)) p.body then all_stand (drop 1 (from_brace p.body.start ahead)) ps else false

-- the blocks of bodies of which none stands in another
unfoldable pub blocks_of : ℕ → List LiteralPlace → List Terminal → Option Progress
blocks_of n ps ts = if all_stand ts ps then literals n ps (progress ts []) else None
