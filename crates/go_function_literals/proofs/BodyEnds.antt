-- What follows a body ends the terminals that the body begins, where the body is skipped and where it is parsed.
use Rattle.std.proofs.Common.{ℕ, zero, suc, List, ◌∷◌}
use Rattle.go_function_literals.specs.Sites.{Collected, IsEnd}
use Rattle.go_function_literals.specs.StatementPlaces.{stmts_places}
use Rattle.go_function_literals.proofs.Sites.{end_and, end_none, end_one}
use Rattle.go_function_literals.proofs.StatementSites.{stmts_sites}
use Rattle.go_syntax.specs.declared.body.BodyRange.{BodyRange}
use Rattle.go_syntax.specs.declared.statement.LiteralBlock.{LiteralBlock}
use Rattle.go_syntax.specs.declared.statement.Stmt.{Stmt}
use Rattle.go_syntax.specs.declared.token.TokenKind.TheVariants as kind
use Rattle.go_syntax.specs.grammar.Brackets.{IsRun, run_nest, run_none, run_plain, skipped}
use Rattle.go_syntax.specs.grammar.ParsedBodies.{IsBody, LiteralBodies, body_of}
use Rattle.go_syntax.specs.grammar.SourceFiles.{Skips}
use Rattle.go_syntax.specs.grammar.Statements.{IsStmts}
use Rattle.go_syntax.specs.grammar.Symbols.{Rule}
use Rattle.go_syntax.specs.grammar.Terminals.{Sign, Terminal}
use Rattle.go_syntax.specs.Literals.{block_literals}

pub run_end : {ts rest : List Terminal} → IsRun ts rest → IsEnd rest ts
run_end run_none = end_none
run_end (run_plain {t = t} {ts = ts} p r) = end_and (end_one t ts) (run_end r)
run_end (run_nest {j = j} {k = k} {ts = ts} {u = u} at end c r s) = end_and (end_one (Sign j at) ts) (end_and (run_end r) (end_and (end_one (Sign k end) u) (run_end s)))

-- each body of these ends
abbrev pub Ended : (ℕ → Rule BodyRange) → Type 0
Ended Body = (h : ℕ) (ts : List Terminal) (b : BodyRange) (rest : List Terminal) → Body h ts b rest → IsEnd rest ts

pub skipped_end : Ended Skips
skipped_end h ts b rest (skipped {ts = us} start start_end end_start end r) = end_and (end_one (Sign kind.LeftBrace (start, start_end)) us) (end_and (run_end r) (end_one (Sign kind.RightBrace (end_start, end)) rest))

body_end : {Body : ℕ → Rule BodyRange} → Ended Body → {h : ℕ} {ts : List Terminal} {b : BodyRange} {ss : List Stmt} {rest : List Terminal} → IsBody Body h ts b ss rest → IsEnd rest ts
body_end {Body} ended (body_of {h = h} {ts = us} {rest = rest} {ss = ss} start start_end end_start end d) =
    let c : Collected Body Body h us (Sign kind.RightBrace (end_start, end) ∷ rest) (stmts_places ss h) (block_literals ss) (IsStmts Body h us ss (Sign kind.RightBrace (end_start, end) ∷ rest)) = stmts_sites ended d in
    end_and (end_one (Sign kind.LeftBrace (start, start_end)) us) (end_and c.ends (end_one (Sign kind.RightBrace (end_start, end)) rest))

pub parsed_end : (literals : List LiteralBlock) (n : ℕ) → Ended (LiteralBodies literals n)
parsed_end literals zero h ts b rest d = absurd d
parsed_end literals (suc n) h ts b rest d = body_end (parsed_end literals n) d.2
