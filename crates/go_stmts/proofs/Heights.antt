-- The readers of the parts of statements at height 0, and above it.
use Rattle.std.proofs.Common.{◌≡◌, ℕ, suc, List, Result, sym, ap, subst}
use Rattle.go_cursor.specs.declared.error.ParseError.{ParseError}
use Rattle.go_control_stmts.specs.go_stmt_lists.declared.parts.StmtPart.{StmtPart}
use Rattle.go_control_stmts.specs.go_stmt_lists.declared.parts.StmtTree.{StmtTree}
use Rattle.go_control_stmts.specs.go_stmt_lists.Parts.{ReadsPart}
use Rattle.go_stmt_descent.specs.Statements.{Statements, flat_statements, statements, statements_over}
use Rattle.go_syntax.specs.declared.token.Token.{Token}
use Rattle.go_syntax.specs.grammar.Terminals.{Terminal}

pub flat : (h : ℕ) → h ≡ 0 → statements h ≡ flat_statements
unfolding statements
flat h e = ap statements e

pub higher : (h k : ℕ) → h ≡ suc k → statements h ≡ statements_over k (statements k)
unfolding statements
higher h k e = ap statements e

pub flat_part : (h : ℕ) → h ≡ 0 → (p : StmtPart) (ts : List Terminal) (r : Result StmtTree ParseError) (new : List Token) → ReadsPart flat_statements p ts r new → ReadsPart (statements h) p ts r new
flat_part h e p ts r new d = subst (λ (s : Statements). ReadsPart s p ts r new) (sym (flat h e)) d

pub part_above : (h k : ℕ) → h ≡ suc k → (p : StmtPart) (ts : List Terminal) (r : Result StmtTree ParseError) (new : List Token) → ReadsPart (statements_over k (statements k)) p ts r new → ReadsPart (statements h) p ts r new
part_above h k e p ts r new d = subst (λ (s : Statements). ReadsPart s p ts r new) (sym (higher h k e)) d
