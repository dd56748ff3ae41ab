-- At most one block begins at given terminals, also where the bodies of function literals are parsed.
use Rattle.std.proofs.Common.{◌≡◌, ◌∙◌, ℕ, List, [], Some, ap, sym}
use Rattle.go_cursor.specs.Reading.{Found}
use Rattle.go_descent.proofs.BalancedStatements.{literals_skipped}
use Rattle.go_stmt_descent.proofs.CompleteKinds.{statements_read}
use Rattle.go_stmt_descent.proofs.OtherBodies.{block_of}
use Rattle.go_syntax.specs.declared.statement.ParsedBody.{ParsedBody}
use Rattle.go_syntax.specs.declared.statement.Stmt.{Stmt}
use Rattle.go_syntax.specs.grammar.ParsedBodies.{IsParsedBody}
use Rattle.go_syntax.specs.grammar.SourceFiles.{Skips}
use Rattle.go_syntax.specs.grammar.Statements.{IsBlock}
use Rattle.go_syntax.specs.grammar.Terminals.{Terminal}

same_read : (p q : List Stmt × List Terminal) → ◌≡◌ {A = Found (List Stmt)} (Some p) (Some q) → p ≡ q
same_read p q e = cc

pub one_block : (h : ℕ) (ts : List Terminal) (xs ys : List Stmt) (u v : List Terminal) → IsBlock Skips h ts xs u → IsBlock Skips h ts ys v → (xs ≡ ys) × (u ≡ v)
one_block h ts xs ys u v d e =
    let p = same_read (xs, u) (ys, v) (sym ((statements_read h).block ts xs u d) ∙ (statements_read h).block ts ys v e) in
    (ap (λ q. q.0) p, ap (λ q. q.1) p)

pub skipped : (ts : List Terminal) (p : ParsedBody) → IsParsedBody ts p → IsBlock Skips 256 ts p.block []
skipped ts p d = block_of (λ h w b rest s. literals_skipped p.literals d.derives.0 h w b rest s) d.derives.1
