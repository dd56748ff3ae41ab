-- The readers of expressions, types, simple statements and groups find each tree, where bodies are skipped.
use Rattle.std.proofs.Common.{◌≡◌, ℕ, suc, Bool, true, false, List, [], ◌∷◌, ◌++◌, Some, refl, sym, subst}
use Rattle.go_cursor.specs.Skipping.{skipped_body}
use Rattle.go_cursor.specs.Reading.{goes_on}
use Rattle.go_descent.specs.Follow.{Over, OverExpr}
use Rattle.go_descent.specs.Levels.{levels}
use Rattle.go_descent.specs.Rules.{expr_of, exprs, more_exprs, primary_expr, typ_of, unary_expr}
use Rattle.go_descent.proofs.Bodies.{skips_known, skips_read}
use Rattle.go_descent.proofs.BeginsExpr.{begins_expr, expr_begins}
use Rattle.go_descent.proofs.CompleteLevels.{complete_parts}
use Rattle.go_descent.proofs.CompleteOperators.{expr_read, unary_read}
use Rattle.go_descent.proofs.CompleteParts.{CompleteParts}
use Rattle.go_descent.proofs.CompletePosts.{exprs_read, more_exprs_read, primary_read}
use Rattle.go_descent.proofs.CompleteTypes.{typ_read}
use Rattle.go_parse.specs.Declarations.{group, const_spec, var_spec}
use Rattle.go_parse.proofs.CompleteDeclarations.{const_item, group_read, var_item}
use Rattle.go_simple_stmts.specs.Follow.{OverSimple}
use Rattle.go_simple_stmts.specs.SimpleStatements.{simple}
use Rattle.go_simple_stmts.proofs.CompleteSimple.{simple_read}
use Rattle.go_stmt_descent.specs.Headers.{simple_at}
use Rattle.go_syntax.specs.declared.declaration.ConstSpec.{ConstSpec}
use Rattle.go_syntax.specs.declared.declaration.VarSpec.{VarSpec}
use Rattle.go_syntax.specs.declared.expression.Expr.{Expr}
use Rattle.go_syntax.specs.declared.statement.StmtKind.{StmtKind}
use Rattle.go_syntax.specs.declared.types.«Type».{«Type» as Typ}
use Rattle.go_syntax.specs.grammar.Declarations.{IsGroup, IsConstSpec, IsVarSpec}
use Rattle.go_syntax.specs.grammar.Grammar.{IsExpr, IsExprs, IsMoreExprs, IsPrimary, IsType, IsUnary, exprs as is_exprs, names}
use Rattle.go_syntax.specs.grammar.SourceFiles.{Skips}
use Rattle.go_syntax.specs.grammar.Statements.{IsSimple, simple_assign, simple_define, simple_expr, simple_operation, simple_send, simple_step}
use Rattle.go_syntax.specs.grammar.Symbols.{Ends, takes_name}
use Rattle.go_syntax.specs.grammar.Terminals.{Terminal}

parts_of : (h : ℕ) → CompleteParts Skips (levels h) h
parts_of h = complete_parts skips_known (λ _. skipped_body) skips_read h

pub expr_reads : {b : Bool} {h : ℕ} {ts rest : List Terminal} {x : Expr} → IsExpr Skips b h ts x rest → OverExpr b rest → expr_of b (levels h) ts ≡ Some (x, rest)
expr_reads {h = h} d o = expr_read skips_known (parts_of h) d o

pub exprs_reads : {b : Bool} {h : ℕ} {ts rest : List Terminal} {xs : List Expr} → IsExprs Skips b h ts xs rest → OverExpr b rest → goes_on rest ≡ false → exprs (expr_of b (levels h)) ts ≡ Some (xs, rest)
exprs_reads {b = b} {h = h} d o e = exprs_read skips_known.body_shorter (expr_of b (levels h)) (λ w x v y p. expr_reads y p) d o e

pub more_exprs_reads : {b : Bool} {h : ℕ} {ts rest : List Terminal} {xs : List Expr} → IsMoreExprs Skips b h ts xs rest → OverExpr b rest → goes_on rest ≡ false → (acc : List Expr) → more_exprs (expr_of b (levels h)) acc ts ≡ Some (acc ++ xs, rest)
more_exprs_reads {b = b} {h = h} d o e acc = more_exprs_read skips_known.body_shorter (expr_of b (levels h)) (λ w x v y p. expr_reads y p) d o e acc

pub unary_reads : {h : ℕ} {ts rest : List Terminal} {x : Expr} → IsUnary Skips true h ts x rest → Over true rest → unary_expr true (levels h) ts ≡ Some (x, rest)
unary_reads {h = h} d o = unary_read skips_known (parts_of h) d o

pub primary_reads : {h : ℕ} {ts rest : List Terminal} {x : Expr} → IsPrimary Skips false h ts x rest → Over false rest → primary_expr false (levels h) ts ≡ Some (x, rest)
primary_reads {h = h} d o = primary_read skips_known (parts_of h) d o

pub type_reads : {h : ℕ} {ts rest : List Terminal} {t : Typ} → IsType Skips h ts t rest → typ_of (levels h) ts ≡ Some (t, rest)
type_reads {h = h} d = typ_read skips_known.body_shorter (parts_of h) d

pub simple_reads : {b : Bool} {h : ℕ} {ts rest : List Terminal} {k : StmtKind} → IsSimple Skips b (suc h) ts k rest → OverSimple b rest → simple b (levels h) ts ≡ Some (k, rest)
simple_reads {b = b} {h = h} d o = simple_read skips_known b h (levels h) (λ w x v y p. expr_reads y p) d o

-- a simple statement has a part
pub simple_height : {b : Bool} {n : ℕ} {ts rest : List Terminal} {k : StmtKind} → IsSimple Skips b n ts k rest → (h : ℕ) × (n ≡ suc h) × IsSimple Skips b (suc h) ts k rest
simple_height (simple_expr {h = h} d) = (h, refl, simple_expr d)
simple_height (simple_send {h = h} d t e) = (h, refl, simple_send d t e)
simple_height (simple_step {h = h} d t e) = (h, refl, simple_step d t e)
simple_height (simple_assign {h = h} d t e) = (h, refl, simple_assign d t e)
simple_height (simple_operation {h = h} d t e f) = (h, refl, simple_operation d t e f)
simple_height (simple_define {h = h} d t e) = (h, refl, simple_define d t e)

pub simple_at_reads : {b : Bool} {n : ℕ} {ts rest : List Terminal} {k : StmtKind} → IsSimple Skips b n ts k rest → OverSimple b rest → simple_at b n ts ≡ Some (k, rest)
unfolding simple_at
simple_at_reads {b} {n} {ts} {rest} {k} d o = let s = simple_height d in subst (λ (m : ℕ). simple_at b m ts ≡ Some (k, rest)) (sym s.1) (simple_reads s.2 o)

pub simple_begins : {b : Bool} {n : ℕ} {ts rest : List Terminal} {k : StmtKind} → IsSimple Skips b n ts k rest → begins_expr ts ≡ true
simple_begins (simple_expr d) = expr_begins d
simple_begins (simple_send d t e) = expr_begins d
simple_begins (simple_step d t e) = expr_begins d
simple_begins (simple_assign (is_exprs d more) t e) = expr_begins d
simple_begins (simple_operation d t e f) = expr_begins d
simple_begins (simple_define (names takes_name more) t e) = refl

pub consts_read : {h : ℕ} {ts rest more : List Terminal} {xs : List ConstSpec} → IsGroup (IsConstSpec Skips h) ts xs rest → Ends rest more → group (const_spec (levels (suc h))) ts ≡ Some (xs, rest)
consts_read {h = h} d e = group_read (const_item skips_known (parts_of (suc h))) d e

pub vars_read : {h : ℕ} {ts rest more : List Terminal} {xs : List VarSpec} → IsGroup (IsVarSpec Skips h) ts xs rest → Ends rest more → group (var_spec (levels (suc h))) ts ≡ Some (xs, rest)
vars_read {h = h} d e = group_read (var_item skips_known (parts_of (suc h))) d e
