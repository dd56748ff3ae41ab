-- The parsed body of a function: its statements and, since a function literal's body is a range in the tree of an
-- expression, the blocks of the function literals in it.
-- Public source: Go specification, "Function declarations", "Function literals" and "Blocks"; the form is own.
--
-- A block of the list stands for the function literal whose `{` has its offset, and is derived from the terminals
-- there, with the height that is left. So a height is as if the block stood in the tree. The list has the literals of
-- the body in the order of their places, each once, and no others: a literal, then those in its block, then the next.
--
-- For given terminals there is at most one parsed body. Wherever a range is a body here, it is also a skipped one, so
-- the tree of the body is the one that the terminals have with the bodies of literals skipped. This tree says which
-- literals there are and where each one begins; the block of each is again the one tree of the terminals there.
use Rattle.std.specs.Prelude.{ℕ, zero, suc, List, [], ◌∷◌, ◌++◌, map}
use Rattle.std.specs.List.Sorted.{IsStrictlySortedBy}
use Rattle.std.specs.Ordering.{nat_cmp}
use Rattle.go_syntax.specs.declared.body.BodyRange.{BodyRange}
use Rattle.go_syntax.specs.declared.statement.LiteralBlock.{LiteralBlock}
use Rattle.go_syntax.specs.declared.statement.ParsedBody.{ParsedBody}
use Rattle.go_syntax.specs.declared.statement.Stmt.{Stmt}
use Rattle.go_syntax.specs.declared.token.TokenKind.TheVariants as kind
use Rattle.go_syntax.specs.grammar.Brackets.{body_range}
use Rattle.go_syntax.specs.grammar.Statements.{IsBlock, IsStmts}
use Rattle.go_syntax.specs.grammar.Symbols.{Rule}
use Rattle.go_syntax.specs.grammar.Terminals.{Terminal, Sign}
use Rattle.go_syntax.specs.Literals.{block_literals}

abbrev pub literal_block : ℕ → List Stmt → LiteralBlock
literal_block start block = record { start = start; block = block }

-- the list has this block at this offset
pub data HasBlock : List LiteralBlock → ℕ → List Stmt → Type 0 where
  block_here : {start : ℕ} {ss : List Stmt} {others : List LiteralBlock} → HasBlock (literal_block start ss ∷ others) start ss
  block_later : {l : LiteralBlock} {start : ℕ} {ss : List Stmt} {others : List LiteralBlock} → HasBlock others start ss → HasBlock (l ∷ others) start ss

-- a block, from the start of its `{` to the end of its `}`
pub data IsBody (Body : ℕ → Rule BodyRange) : ℕ → List Terminal → BodyRange → List Stmt → List Terminal → Type 0 where
  body_of : {h : ℕ} {ts rest : List Terminal} {ss : List Stmt} (start start_end end_start end : ℕ) → IsStmts Body h ts ss (Sign kind.RightBrace (end_start, end) ∷ rest)
      → IsBody Body (suc h) (Sign kind.LeftBrace (start, start_end) ∷ ts) (body_range start end) ss rest

-- the bodies of function literals whose blocks the list has, where literals stand in one another at most so many deep
abbrev pub LiteralBodies : List LiteralBlock → ℕ → ℕ → Rule BodyRange
LiteralBodies literals zero h ts b rest = ⊥
LiteralBodies literals (suc n) h ts b rest = (ss : List Stmt) × HasBlock literals b.start ss × IsBody (LiteralBodies literals n) h ts b ss rest

-- the list has, for the literals with these ranges, the block of each, followed by those of the literals in it
pub data Carries : List BodyRange → List LiteralBlock → Type 0 where
  carries_none : Carries [] []
  carries_more : {b : BodyRange} {bs : List BodyRange} {ss : List Stmt} {inner others : List LiteralBlock} → Carries (block_literals ss) inner → Carries bs others
      → Carries (b ∷ bs) (literal_block b.start ss ∷ inner ++ others)

abbrev pub start_of_block : LiteralBlock → ℕ
start_of_block l = l.start

-- the parsed body of these terminals, of a height of at most 256
pub record IsParsedBody (ts : List Terminal) (body : ParsedBody) : Type 0 where
  pub derives : (n : ℕ) × IsBlock (LiteralBodies body.literals n) 256 ts body.block []
  pub carries : Carries (block_literals body.block) body.literals
  pub ordered : IsStrictlySortedBy nat_cmp (map start_of_block body.literals)
