-- What the reader of a body finds: its block with the bodies of function literals skipped, and then the block of each literal, at
-- the height that is left at its place.
-- Own: how the parser reads what the grammar derives.
use Rattle.std.specs.Prelude.{ℕ, zero, suc, nat_le, if◌then◌else◌, List, [], ◌∷◌, ◌++◌, drop, Option, Some, None}
use Rattle.go_bodies.specs.Braces.{from_brace}
use Rattle.go_cursor.specs.Reading.{Found}
use Rattle.go_function_literals.specs.declared.place.LiteralPlace.{LiteralPlace}
use Rattle.go_function_literals.specs.Places.{below}
use Rattle.go_function_literals.specs.StatementPlaces.{stmts_places}
use Rattle.go_stmts.specs.go_stmt_descent.Statements.{statements}
use Rattle.go_syntax.specs.declared.statement.LiteralBlock.{LiteralBlock}
use Rattle.go_syntax.specs.declared.statement.ParsedBody.{ParsedBody}
use Rattle.go_syntax.specs.declared.statement.Stmt.{Stmt}
use Rattle.go_syntax.specs.grammar.ParsedBodies.{literal_block}
use Rattle.go_syntax.specs.grammar.Terminals.{Terminal}

-- how far a reading of blocks has come: the terminals behind the last `{`, and the blocks
pub record Progress : Type 0 where
  pub ahead : List Terminal
  pub blocks : List LiteralBlock

abbrev pub progress : List Terminal → List LiteralBlock → Progress
progress ahead blocks = record { ahead = ahead; blocks = blocks }

abbrev pub least : ℕ → ℕ → ℕ
least m n = if nat_le m n then m else n

abbrev pub Opening : Type 0
Opening = Option (List LiteralPlace × Progress)

-- a literal whose statements were read, with those in it
abbrev pub opened_by : ℕ → ℕ → List LiteralBlock → List Terminal → Found (List Stmt) → Opening
opened_by height start blocks us None = None
opened_by height start blocks us (Some p) = Some (stmts_places p.0 (below height), progress (drop 1 us) (blocks ++ literal_block start p.0 ∷ []))

abbrev pub opened_at : ℕ → ℕ → List LiteralBlock → List Terminal → Opening
opened_at height start blocks us = opened_by height start blocks us ((statements height).block us)

-- the block of a literal, which has at most its height, and at most this one
unfoldable pub opened : ℕ → LiteralPlace → Progress → Opening
opened most p s = opened_at (least p.height most) p.body.start s.blocks (from_brace p.body.start s.ahead)

abbrev pub with_opened : Opening → (List LiteralPlace → Progress → Option Progress) → Option Progress
with_opened None go = None
with_opened (Some q) go = go q.0 q.1

abbrev pub with_progress : Option Progress → (Progress → Option Progress) → Option Progress
with_progress None go = None
with_progress (Some s) go = go s

-- one literal after another
abbrev pub each_place : (LiteralPlace → Progress → Option Progress) → List LiteralPlace → Progress → Option Progress
each_place one [] s = Some s
each_place one (p ∷ ps) s = with_progress (one p s) (each_place one ps)

-- the blocks of literals, each followed by those of the literals in it, where literals stand in one another at most so many deep
unfoldable pub literals : ℕ → List LiteralPlace → Progress → Option Progress
literals zero = each_place (λ p s. None)
literals (suc n) = each_place (λ p s. with_opened (opened n p s) (literals n))

-- The body

abbrev pub made : List Stmt → Option Progress → Option ParsedBody
made ss None = None
made ss (Some s) = Some (record { block = ss; literals = s.blocks })

abbrev pub whole : ℕ → List Terminal → List Stmt → List Terminal → Option ParsedBody
whole h ts ss [] = made ss (literals h (stmts_places ss (below h)) (progress ts []))
whole h ts ss (_ ∷ _) = None

abbrev pub body_by : ℕ → List Terminal → Found (List Stmt) → Option ParsedBody
body_by h ts None = None
body_by h ts (Some p) = whole h ts p.0 p.1

-- the body of at most this height that these terminals are
unfoldable pub body : ℕ → List Terminal → Option ParsedBody
body h ts = body_by h ts ((statements h).block ts)
