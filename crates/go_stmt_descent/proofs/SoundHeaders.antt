-- What the readers of headers and of communications find is in the grammar.
use Rattle.std.proofs.Common.{◌≡◌, ℕ, zero, suc, Bool, true, false, List, [], ◌∷◌, drop, Option, Some, None}
use Rattle.go_cursor.specs.Names.{names}
use Rattle.go_cursor.specs.Reading.{expect, goes_on}
use Rattle.go_cursor.proofs.Steps.{Sound, with_bind, branch, same, taken, expected, closed, names_sound}
use Rattle.go_descent.specs.Levels.{levels}
use Rattle.go_descent.specs.Rules.{expr_of, exprs, more_exprs}
use Rattle.go_descent.proofs.Begins.{read}
use Rattle.go_simple_stmts.specs.SimpleStatements.{begins_definition}
use Rattle.go_stmt_descent.specs.Communications.{begins_receive, communication, communication_at, communication_end, receive, receive_alone, receive_assign, receive_define, send}
use Rattle.go_stmt_descent.specs.Headers.{clause, clause_before, init, optional_before, optional_init, simple_at}
use Rattle.go_stmt_descent.proofs.Found.{expr_found, exprs_found, simple_at_found, unary_found}
use Rattle.go_syntax.specs.declared.expression.Expr.{Expr}
use Rattle.go_syntax.specs.declared.statement.Stmt.{Stmt}
use Rattle.go_syntax.specs.declared.statement.StmtKind.{StmtKind}
use Rattle.go_syntax.specs.declared.token.TokenKind.{TokenKind}
use Rattle.go_syntax.specs.declared.token.TokenKind.TheVariants as kind
use Rattle.go_syntax.specs.grammar.Grammar.{IsExpr, IsExprs, IsOptional, optional_none, optional_some, exprs as is_exprs, exprs_none}
use Rattle.go_syntax.specs.grammar.SourceFiles.{Skips}
use Rattle.go_syntax.specs.grammar.Statements as grammar
use Rattle.go_syntax.specs.grammar.Statements.{IsClause, IsCommunication, IsInit, IsReceive}
use Rattle.go_syntax.specs.grammar.Symbols.{Takes, begins}
use Rattle.go_syntax.specs.grammar.Terminals.{Terminal}

-- Headers

pub clause_found : (h : ℕ) (ts : List Terminal) (s : Stmt) (rest : List Terminal) → clause h ts ≡ Some (s, rest) → IsClause Skips h ts (Some s) rest
unfolding clause
clause_found h ts s rest e = with_bind (simple_at false h ts) _ e (λ k u ek q. same (λ w (a : Stmt) v. IsClause Skips h w (Some a) v) ts (grammar.clause_some (simple_at_found false h ts k u ek)) q)

as_init : {h : ℕ} {ts u rest : List Terminal} {s : Stmt} → IsClause Skips h ts (Some s) u → Takes kind.Semicolon u rest → IsInit Skips h ts (Some s) rest
as_init (grammar.clause_some d) t = grammar.init_some d t

init_found : (h : ℕ) → Sound (IsInit Skips h) (init h)
unfolding init
init_found h ts i rest e = branch (begins kind.Semicolon ts) e
    (λ c q. same (IsInit Skips h) ts (grammar.init_empty (taken kind.Semicolon ts c)) q)
    (λ c ec. with_bind (clause h ts) _ ec (λ s u es q. closed (IsInit Skips h) kind.Semicolon ts u (λ v t. as_init (clause_found h ts s u es) t) q))

pub optional_init_found : (stands : Bool) (h : ℕ) → Sound (IsInit Skips h) (optional_init stands h)
optional_init_found true h ts i rest e = init_found h ts i rest e
optional_init_found false h ts i rest e = same (IsInit Skips h) ts grammar.init_none e

pub optional_found : (k : TokenKind) (h : ℕ) → Sound (IsOptional Skips false h) (optional_before k h)
unfolding optional_before
optional_found k h ts x rest e = branch (begins k ts) e (λ c q. same (IsOptional Skips false h) ts optional_none q)
    (λ c ex. with_bind (expr_of false (levels h) ts) _ ex (λ y u ey q. same (IsOptional Skips false h) ts (optional_some (expr_found false h ts y u ey)) q))

pub clause_before_found : (k : TokenKind) (h : ℕ) → Sound (IsClause Skips h) (clause_before k h)
unfolding clause_before
clause_before_found k h ts x rest e = branch (begins k ts) e (λ c q. same (IsClause Skips h) ts grammar.clause_none q)
    (λ c ex. with_bind (clause h ts) _ ex (λ s u es q. same (IsClause Skips h) ts (clause_found h ts s u es) q))

-- Communications

receive_alone_found : (h : ℕ) → Sound (IsReceive Skips h) (receive_alone h)
unfolding receive_alone
receive_alone_found h ts x rest e = branch (begins kind.Arrow ts) e (λ c q. grammar.receive (taken kind.Arrow ts c) (unary_found h ts x rest q)) (λ c q. absurd (cc))

pub receive_found : (h : ℕ) → Sound (IsReceive Skips h) (receive h)
unfolding receive
receive_found zero ts x rest e = branch (begins kind.LeftParen ts) e (λ c q. absurd (cc)) (λ c q. receive_alone_found zero ts x rest q)
receive_found (suc h) ts x rest e = branch (begins kind.LeftParen ts) e
    (λ c ep. with_bind (receive h (drop 1 ts)) _ ep (λ y u ey q. closed (IsReceive Skips (suc h)) kind.RightParen ts u (λ v t. grammar.receive_paren (taken kind.LeftParen ts c) (receive_found h (drop 1 ts) y u ey) t) q))
    (λ c q. receive_alone_found (suc h) ts x rest q)

-- expressions, once the first one is found
listed : (b : Bool) (h : ℕ) (ts u v : List Terminal) (x : Expr) (xs : List Expr) → expr_of b (levels h) ts ≡ Some (x, u) → more_exprs (expr_of b (levels h)) (x ∷ []) u ≡ Some (xs, v) → exprs (expr_of b (levels h)) ts ≡ Some (xs, v)
unfolding exprs
listed b h ts u v x xs ex em = read (expr_of b (levels h) ts) _ ex em

module _ (h : ℕ) where
  assign_found : (ts u : List Terminal) (xs : List Expr) → IsExprs Skips true h ts xs u → (k : StmtKind) (rest : List Terminal) → receive_assign h xs u ≡ Some (k, rest) → IsCommunication Skips (suc h) ts k rest
  unfolding receive_assign
  assign_found ts u xs d k rest e = with_bind (expect kind.Assign u) _ e (λ _ v ev er. with_bind (receive h v) _ er (λ x w ew q.
      same (IsCommunication Skips (suc h)) ts (grammar.communication_assign d (expected kind.Assign u ev) (receive_found h v x w ew)) q))

  define_found : Sound (IsCommunication Skips (suc h)) (receive_define h)
  unfolding receive_define
  define_found ts k rest e = with_bind (names ts) _ e (λ ns u en ed. with_bind (expect kind.Define u) _ ed (λ _ v ev er. with_bind (receive h v) _ er (λ x w ew q.
      same (IsCommunication Skips (suc h)) ts (grammar.communication_define (names_sound ts ns u en) (expected kind.Define u ev) (receive_found h v x w ew)) q)))

  end_found : (ts u : List Terminal) (x : Expr) → expr_of true (levels h) ts ≡ Some (x, u) → (k : StmtKind) (rest : List Terminal) → communication_end h x u ≡ Some (k, rest) → IsCommunication Skips (suc h) ts k rest
  unfolding communication_end send
  end_found ts u x ex k rest e = branch (goes_on u) e
      (λ g em. with_bind (more_exprs (expr_of true (levels h)) (x ∷ []) u) _ em (λ xs v ev ea. assign_found ts v xs (exprs_found true h ts xs v (listed true h ts u v x xs ex ev)) k rest ea))
      (λ g es. branch (begins kind.Arrow u) es
      (λ c ey. with_bind (expr_of true (levels h) (drop 1 u)) _ ey (λ y v ev q. same (IsCommunication Skips (suc h)) ts (grammar.communication_send (expr_found true h ts x u ex) (taken kind.Arrow u c) (expr_found true h (drop 1 u) y v ev)) q))
      (λ c ea. assign_found ts u (x ∷ []) (is_exprs (expr_found true h ts x u ex) exprs_none) k rest ea))

  found : Sound (IsCommunication Skips (suc h)) (communication h)
  unfolding communication
  found ts k rest e = branch (begins_definition ts) e (λ c ed. define_found ts k rest ed)
      (λ c er. branch (begins_receive h ts) er
      (λ b ex. with_bind (receive h ts) _ ex (λ x u eu q. same (IsCommunication Skips (suc h)) ts (grammar.communication_receive (receive_found h ts x u eu)) q))
      (λ b ex. with_bind (expr_of true (levels h) ts) _ ex (λ x u eu q. end_found ts u x eu k rest q)))

pub communication_found : (h : ℕ) → Sound (IsCommunication Skips h) (communication_at h)
unfolding communication_at
communication_found zero ts k rest e = absurd (cc)
communication_found (suc h) ts k rest e = found h ts k rest e
