-- Blocks that are found by their places.
use Rattle.std.proofs.Common.{inl, inr, ℕ, List, [], ◌∷◌, map, refl, sym, subst}
use Rattle.go_base.specs.Lists.{Has as In, Once}
use Rattle.go_statement_rules.specs.Functions.{IsBlockAt, block_here, block_later}
use Rattle.go_syntax.specs.declared.statement.LiteralBlock.{LiteralBlock}
use Rattle.go_syntax.specs.declared.statement.Stmt.{Stmt}
use Rattle.go_syntax.specs.grammar.ParsedBodies.{HasBlock, block_here as has_here, block_later as has_later, start_of_block}

pub of_list : (blocks : List LiteralBlock) (start : ℕ) (ss : List Stmt) → IsBlockAt blocks start ss → HasBlock blocks start ss
of_list [] start ss h = elim h [ ]
of_list (l ∷ ls) start ss (block_here e) = subst (λ n. HasBlock (l ∷ ls) n l.block) e has_here
of_list (l ∷ ls) start ss (block_later n h) = has_later (of_list ls start ss h)

starts_in : {blocks : List LiteralBlock} {start : ℕ} {ss : List Stmt} → HasBlock blocks start ss → In (map start_of_block blocks) start
starts_in has_here = inl refl
starts_in (has_later h) = inr (starts_in h)

pub by_place : (blocks : List LiteralBlock) (start : ℕ) (ss : List Stmt) → Once (map start_of_block blocks) → HasBlock blocks start ss → IsBlockAt blocks start ss
by_place [] start ss o h = elim h [ ]
by_place (l ∷ ls) start ss o has_here = block_here refl
by_place (l ∷ ls) start ss o (has_later h) = block_later (λ e. o.0 (subst (In (map start_of_block ls)) (sym e) (starts_in h))) (by_place ls start ss o.1 h)
