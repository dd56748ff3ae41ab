-- The readers of simple statements, of communications and of receives at height 0, and above it.
use Rattle.std.proofs.Common.{◌≡◌, ◌∙◌, ℕ, zero, suc, Bool, true, false, if◌then◌else◌, List, drop, None, Result, sym, ap, subst}
use Rattle.go_cursor.specs.declared.error.ParseError.{ParseError}
use Rattle.go_cursor.specs.Reading.{Found, bind, close}
use Rattle.go_cursor.specs.Reads.{Reads}
use Rattle.go_descent.specs.Levels.{levels}
use Rattle.go_stmt_descent.specs.go_simple_stmts.SimpleStatements.{simple}
use Rattle.go_stmt_descent.specs.Communications.{communication, communication_at, receive, receive_alone}
use Rattle.go_stmt_descent.specs.Headers.{simple_at}
use Rattle.go_syntax.specs.declared.expression.Expr.{Expr}
use Rattle.go_syntax.specs.declared.expression.Expr.TheVariants as expr
use Rattle.go_syntax.specs.declared.token.Token.{Token}
use Rattle.go_syntax.specs.declared.token.TokenKind.TheVariants as kind
use Rattle.go_syntax.specs.grammar.Symbols.{begins}
use Rattle.go_syntax.specs.grammar.Terminals.{Terminal}

-- what reads one finding reads an equal one
pub reads_as : {A : Type 0} (found other : Found A) (r : Result A ParseError) (new : List Token) → found ≡ other → Reads other r new → Reads found r new
reads_as {A} found other r new e d = subst (λ (f : Found A). Reads f r new) (sym e) d

pub no_simple : (b : Bool) (h : ℕ) (ts : List Terminal) → h ≡ 0 → simple_at b h ts ≡ None
unfolding simple_at
no_simple b h ts e = ap (λ n. simple_at b n ts) e

pub simple_below : (b : Bool) (h k : ℕ) (ts : List Terminal) → h ≡ suc k → simple_at b h ts ≡ simple b (levels k) ts
unfolding simple_at
simple_below b h k ts e = ap (λ n. simple_at b n ts) e

pub no_communication : (h : ℕ) (ts : List Terminal) → h ≡ 0 → communication_at h ts ≡ None
unfolding communication_at
no_communication h ts e = ap (λ n. communication_at n ts) e

pub communication_below : (h k : ℕ) (ts : List Terminal) → h ≡ suc k → communication_at h ts ≡ communication k ts
unfolding communication_at
communication_below h k ts e = ap (λ n. communication_at n ts) e

pub no_receive : (h : ℕ) (ts : List Terminal) → h ≡ 0 → begins kind.LeftParen ts ≡ true → receive h ts ≡ None
unfolding receive
no_receive h ts e b = ap (λ n. receive n ts) e ∙ ap (λ (t : Bool). if t then None else receive_alone 0 ts) b

pub paren_receive : (h k : ℕ) (ts : List Terminal) → h ≡ suc k → begins kind.LeftParen ts ≡ true → receive h ts ≡ bind (receive k (drop 1 ts)) (λ x. close kind.RightParen (expr.Paren x))
unfolding receive
paren_receive h k ts e b = ap (λ n. receive n ts) e ∙ ap (λ (t : Bool). if t then bind (receive k (drop 1 ts)) (λ x. close kind.RightParen (expr.Paren x)) else receive_alone (suc k) ts) b

pub other_receive : (h : ℕ) (ts : List Terminal) → begins kind.LeftParen ts ≡ false → receive h ts ≡ receive_alone h ts
unfolding receive
other_receive zero ts b = ap (λ (t : Bool). if t then None else receive_alone 0 ts) b
other_receive (suc h) ts b = ap (λ (t : Bool). if t then bind (receive h (drop 1 ts)) (λ x. close kind.RightParen (expr.Paren x)) else receive_alone (suc h) ts) b
