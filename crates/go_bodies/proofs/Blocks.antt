-- The blocks of a list, and what a block and a body are made of.
use Rattle.std.proofs.Common.{◌≡◌, ◌∙◌, ◌≤◌, ◌⊎◌, ℕ, suc, List, [], ◌∷◌, ◌++◌, map, inl, inr, refl, sym, arith}
use Rattle.go_bodies.proofs.Orders.{Ascends}
use Rattle.go_syntax.specs.declared.body.BodyRange.{BodyRange}
use Rattle.go_syntax.specs.declared.statement.LiteralBlock.{LiteralBlock}
use Rattle.go_syntax.specs.declared.statement.Stmt.{Stmt}
use Rattle.go_syntax.specs.declared.token.TokenKind.TheVariants as kind
use Rattle.go_syntax.specs.grammar.Brackets.{IsSkipped, skipped}
use Rattle.go_syntax.specs.grammar.ParsedBodies.{Carries, HasBlock, IsBody, block_here, block_later, body_of, carries_more, carries_none, literal_block, start_of_block}
use Rattle.go_syntax.specs.grammar.Statements.{IsBlock, IsStmts, block_of}
use Rattle.go_syntax.specs.grammar.Symbols.{Rule, takes}
use Rattle.go_syntax.specs.grammar.Terminals.{Extent, Sign, Terminal}
use Rattle.go_syntax.specs.Literals.{block_literals}

-- Lists of blocks

pub has_left : {xs : List LiteralBlock} (ys : List LiteralBlock) {start : ℕ} {ss : List Stmt} → HasBlock xs start ss → HasBlock (xs ++ ys) start ss
has_left ys block_here = block_here
has_left ys (block_later h) = block_later (has_left ys h)

pub has_right : (xs : List LiteralBlock) {ys : List LiteralBlock} {start : ℕ} {ss : List Stmt} → HasBlock ys start ss → HasBlock (xs ++ ys) start ss
has_right [] h = h
has_right (x ∷ xs) h = block_later (has_right xs h)

abbrev In : List LiteralBlock → ℕ → List Stmt → Type 0
In [] start ss = ⊥
In (l ∷ ls) start ss = ((l.start ≡ start) × (l.block ≡ ss)) ⊎ In ls start ss

is_in : {ls : List LiteralBlock} {start : ℕ} {ss : List Stmt} → HasBlock ls start ss → In ls start ss
is_in block_here = inl (refl, refl)
is_in (block_later h) = inr (is_in h)

in_bound : (ls : List LiteralBlock) (low high start : ℕ) (ss : List Stmt) → Ascends low (map start_of_block ls) high → In ls start ss → low ≤ start
in_bound [] low high start ss a h = absurd h
in_bound (l ∷ ls) low high start ss a (inl e) = omega (arith, a.0, e.0)
in_bound (l ∷ ls) low high start ss a (inr h) = let b : suc l.start ≤ start = in_bound ls (suc l.start) high start ss a.1 h in omega (arith, a.0, b)

one_in : (ls : List LiteralBlock) (low high start : ℕ) (xs ys : List Stmt) → Ascends low (map start_of_block ls) high → In ls start xs → In ls start ys → xs ≡ ys
one_in [] low high start xs ys a h k = absurd h
one_in (l ∷ ls) low high start xs ys a (inl e) (inl f) = sym e.1 ∙ f.1
one_in (l ∷ ls) low high start xs ys a (inl e) (inr k) = let b : suc l.start ≤ start = in_bound ls (suc l.start) high start ys a.1 k in absurd (omega (arith, b, e.0))
one_in (l ∷ ls) low high start xs ys a (inr h) (inl f) = let b : suc l.start ≤ start = in_bound ls (suc l.start) high start xs a.1 h in absurd (omega (arith, b, f.0))
one_in (l ∷ ls) low high start xs ys a (inr h) (inr k) = one_in ls (suc l.start) high start xs ys a.1 h k

-- at most one block stands at an offset
pub one_block : (ls : List LiteralBlock) (low high start : ℕ) (xs ys : List Stmt) → Ascends low (map start_of_block ls) high → HasBlock ls start xs → HasBlock ls start ys → xs ≡ ys
one_block ls low high start xs ys a h k = one_in ls low high start xs ys a (is_in h) (is_in k)

-- What a list of blocks carries

pub record Carried (b : BodyRange) (bs : List BodyRange) (ls : List LiteralBlock) : Type 0 where
  pub block : List Stmt
  pub inner : List LiteralBlock
  pub others : List LiteralBlock
  pub within : Carries (block_literals block) inner
  pub behind : Carries bs others
  pub list_is : ls ≡ literal_block b.start block ∷ (inner ++ others)

pub carried : {b : BodyRange} {bs : List BodyRange} {ls : List LiteralBlock} → Carries (b ∷ bs) ls → Carried b bs ls
carried (carries_more {ss = ss} {inner = inner} {others = others} c d) = record { block = ss; inner = inner; others = others; within = c; behind = d; list_is = refl }

pub carries_nothing : {ls : List LiteralBlock} → Carries [] ls → ls ≡ []
carries_nothing carries_none = refl

-- A block, from its `{` on

pub record Opened (Body : ℕ → Rule BodyRange) (h : ℕ) (ts : List Terminal) (ss : List Stmt) (rest : List Terminal) : Type 0 where
  pub height : ℕ
  pub start : ℕ
  pub start_end : ℕ
  pub end_start : ℕ
  pub end : ℕ
  pub inside : List Terminal
  pub height_is : h ≡ suc height
  pub begins : ts ≡ Sign kind.LeftBrace (start, start_end) ∷ inside
  pub derives : IsStmts Body height inside ss (Sign kind.RightBrace (end_start, end) ∷ rest)

pub opened_block : {Body : ℕ → Rule BodyRange} {h : ℕ} {ts : List Terminal} {ss : List Stmt} {rest : List Terminal} → IsBlock Body h ts ss rest → Opened Body h ts ss rest
opened_block (block_of {h = h} {u = u} (takes (start, start_end)) d (takes (end_start, end))) =
    record { height = h; start = start; start_end = start_end; end_start = end_start; end = end; inside = u; height_is = refl; begins = refl; derives = d }

pub body_block : {Body : ℕ → Rule BodyRange} {h : ℕ} {ts : List Terminal} {b : BodyRange} {ss : List Stmt} {rest : List Terminal} → IsBody Body h ts b ss rest → IsBlock Body h ts ss rest
body_block (body_of start start_end end_start end d) = block_of (takes (start, start_end)) d (takes (end_start, end))

-- the range of a body tells where it starts
pub record Starts (ts : List Terminal) (b : BodyRange) : Type 0 where
  pub at : Extent
  pub inside : List Terminal
  pub begins : ts ≡ Sign kind.LeftBrace at ∷ inside
  pub start_is : at.0 ≡ b.start

pub skipped_starts : {ts : List Terminal} {b : BodyRange} {rest : List Terminal} → IsSkipped ts b rest → Starts ts b
skipped_starts (skipped {ts = us} start start_end end_start end r) = record { at = (start, start_end); inside = us; begins = refl; start_is = refl }
