-- Blocks that rise by their offsets, and what a look-up of one finds.
-- Own: words of the contracts.
use Rattle.std.specs.Prelude.{◌≡◌, ◌<◌, ℕ, List, Option, None, Some, length, get_or}
use Rattle.go_statement_rules.specs.Functions.{IsBlockAt}
use Rattle.go_syntax.specs.declared.statement.LiteralBlock.{LiteralBlock}
use Rattle.go_syntax.specs.declared.statement.Stmt.{Stmt}

-- each begins behind those before it
abbrev pub Rising : List LiteralBlock → Type 0
Rising xs = (i j : ℕ) (x y : LiteralBlock) → i < j → j < length xs → x ≡ get_or xs i x → y ≡ get_or xs j y → x.start < y.start

-- the number of the first block at the offset, where there is one
abbrev pub FindsBlock : List LiteralBlock → ℕ → Option ℕ → Type 0
FindsBlock blocks start (Some i) = (l : LiteralBlock) × (i < length blocks) × (l ≡ get_or blocks i l) × IsBlockAt blocks start l.block
FindsBlock blocks start None = (ss : List Stmt) → IsBlockAt blocks start ss → ⊥
