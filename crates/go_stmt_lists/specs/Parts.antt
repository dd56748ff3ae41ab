-- What a function value that reads the statements and blocks in a statement ensures.
-- Own: how the parser reads what the grammar derives.
use Rattle.std.specs.Prelude.{◌≡◌, ℕ, List, Some, None, Result, Ok, Err}
use denote.Ref.{MutBor}
use Rattle.go_cursor.specs.declared.error.ParseError.{ParseError}
use Rattle.go_cursor.specs.declared.error.ParseError.TheVariants.{NoMemory, Syntax}
use Rattle.go_cursor.specs.Reading.{Found}
use Rattle.go_stmt_descent.specs.go_exprs.declared.readers.Readers.{Readers}
use Rattle.go_stmt_lists.specs.declared.parts.StmtPart.{StmtPart}
use Rattle.go_stmt_lists.specs.declared.parts.StmtPart.TheVariants as part
use Rattle.go_stmt_lists.specs.declared.parts.StmtTree.{StmtTree}
use Rattle.go_stmt_lists.specs.declared.parts.StmtTree.TheVariants as tree
use Rattle.go_stmt_descent.specs.Statements.{Statements, statements}
use Rattle.go_syntax.specs.declared.statement.Stmt.{Stmt}
use Rattle.go_syntax.specs.declared.token.Token.{Token}
use Rattle.go_syntax.specs.grammar.Terminals.{Terminal, terminals}

abbrev pub ReadsStmt : Found Stmt → Result StmtTree ParseError → List Token → Type 0
ReadsStmt found (Ok (tree.Stmt s)) new = found ≡ Some (s, terminals new)
ReadsStmt found (Ok (tree.Block ss)) new = ⊥
ReadsStmt found (Err NoMemory) new = Unit {0}
ReadsStmt found (Err Syntax) new = found ≡ None

abbrev pub ReadsBlock : Found (List Stmt) → Result StmtTree ParseError → List Token → Type 0
ReadsBlock found (Ok (tree.Block ss)) new = found ≡ Some (ss, terminals new)
ReadsBlock found (Ok (tree.Stmt s)) new = ⊥
ReadsBlock found (Err NoMemory) new = Unit {0}
ReadsBlock found (Err Syntax) new = found ≡ None

-- a part is read as these readers find it
abbrev pub ReadsPart : Statements → StmtPart → List Terminal → Result StmtTree ParseError → List Token → Type 0
ReadsPart s part.Stmt ts = ReadsStmt (s.stmt ts)
ReadsPart s part.Block ts = ReadsBlock (s.block ts)
ReadsPart s part.Branch ts = ReadsStmt (s.branch ts)

-- the function value can be called, and reads each part of at most this height
pub record ReadsLower (readers : Readers) (pre : Readers → MutBor (List Token) → StmtPart → Type 0)
    (post : Readers → MutBor (List Token) → StmtPart → Result StmtTree ParseError → MutBor (List Token) → Type 0) : Type 0 where
  pub callable : (old : MutBor (List Token)) (p : StmtPart) → pre readers old p
  pub reads : (old new : MutBor (List Token)) (p : StmtPart) (r : Result StmtTree ParseError) → post readers old p r new → ReadsPart (statements readers.height) p (terminals old.now) r new.now
