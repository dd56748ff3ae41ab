-- Each communication of a `select` is read.
use Rattle.std.proofs.Common.{◌≡◌, ℕ, zero, suc, Bool, true, false, not, List, [], ◌∷◌, ◌++◌, drop, Option, Some, None, refl, sym, ap, ◌∙◌, subst}
use Rattle.go_cursor.specs.Names.{names}
use Rattle.go_cursor.specs.Reading.{Found, bind, close, expect, goes_on}
use Rattle.go_cursor.proofs.Steps.{taken}
use Rattle.go_descent.specs.Follow.{OverExpr}
use Rattle.go_descent.specs.Levels.{levels}
use Rattle.go_descent.specs.Rules.{expr_of, more_exprs, unary_expr}
use Rattle.go_descent.proofs.Begins.{read, if_so, if_not}
use Rattle.go_descent.proofs.BeginsExpr.{expr_begins, expr_not_closing}
use Rattle.go_descent.proofs.CompleteNames.{names_read}
use Rattle.go_descent.proofs.CompleteParts.{over_colon, over_comma, over_right_paren}
use Rattle.go_simple_stmts.specs.SimpleStatements.{begins_definition}
use Rattle.go_stmt_descent.specs.Communications.{begins_receive, colon_follows, communication, communication_at, communication_end, receive, receive_alone, receive_assign, receive_define, send}
use Rattle.go_stmt_descent.proofs.CompleteHeaders.{names_define, no_definition}
use Rattle.go_stmt_descent.proofs.Follows.{over_arrow, over_assign}
use Rattle.go_stmt_descent.proofs.Readings.{expr_reads, more_exprs_reads, unary_reads}
use Rattle.go_stmt_descent.proofs.SoundHeaders.{receive_found}
use Rattle.go_syntax.specs.declared.expression.Expr.{Expr}
use Rattle.go_syntax.specs.declared.expression.Expr.TheVariants as expr
use Rattle.go_syntax.specs.declared.name.Name.{Name}
use Rattle.go_syntax.specs.declared.statement.StmtKind.{StmtKind}
use Rattle.go_syntax.specs.declared.statement.StmtKind.TheVariants as stmt
use Rattle.go_syntax.specs.declared.token.TokenKind.TheVariants as kind
use Rattle.go_syntax.specs.grammar.Grammar as grammar
use Rattle.go_syntax.specs.grammar.Grammar.{IsExpr, IsExprs, IsUnary}
use Rattle.go_syntax.specs.grammar.SourceFiles.{Skips}
use Rattle.go_syntax.specs.grammar.Statements as statements
use Rattle.go_syntax.specs.grammar.Statements.{IsCommunication, IsReceive}
use Rattle.go_syntax.specs.grammar.Symbols.{Takes, takes, begins}
use Rattle.go_syntax.specs.grammar.Terminals.{Extent, Terminal, Sign}

truth_lie : {c : Bool} → c ≡ true → c ≡ false → ⊥
truth_lie t f = absurd (cc)

-- Receives

alone_reads : {h : ℕ} {ts u rest : List Terminal} {x : Expr} → Takes kind.Arrow ts u → IsUnary Skips true h ts x rest → OverExpr true rest → receive_alone h ts ≡ Some (x, rest)
unfolding receive_alone
alone_reads (takes at) d o = unary_reads d o.conjunct.comparing.sum.product.operand

receive_reads : {h : ℕ} {ts rest : List Terminal} {x : Expr} → IsReceive Skips h ts x rest → OverExpr true rest → receive h ts ≡ Some (x, rest)
unfolding receive close
receive_reads {h = zero} (statements.receive (takes at) d) o = alone_reads (takes at) d o
receive_reads {h = suc h} (statements.receive (takes at) d) o = alone_reads (takes at) d o
receive_reads (statements.receive_paren {h = h} {u = u} (takes at) d (takes {ts = rest} a)) o = read (receive h u) _ (receive_reads d (over_right_paren true a rest)) refl

-- a receive is an expression

unary_expression : {h : ℕ} {ts rest : List Terminal} {x : Expr} → IsUnary Skips true h ts x rest → IsExpr Skips true h ts x rest
unary_expression d = grammar.expr_or (grammar.expr_and (grammar.expr_compare (grammar.expr_sum (grammar.expr_product d grammar.product_none) grammar.sum_none) grammar.compare_none) grammar.and_none) grammar.or_none

receive_unary : {h : ℕ} {ts rest : List Terminal} {x : Expr} → IsReceive Skips h ts x rest → IsUnary Skips true h ts x rest
receive_unary (statements.receive t d) = d
receive_unary (statements.receive_paren t d c) = grammar.unary_primary (grammar.primary (grammar.operand_paren t (unary_expression (receive_unary d)) c) grammar.posts_none)

receive_expr : {h : ℕ} {ts rest : List Terminal} {x : Expr} → IsReceive Skips h ts x rest → IsExpr Skips true h ts x rest
receive_expr d = unary_expression (receive_unary d)

same_expr : {x y : Expr} {u v : List Terminal} → ◌≡◌ {A = Found Expr} (Some (x, u)) (Some (y, v)) → u ≡ v
same_expr {x = x} {y = y} {u = u} {v = v} e = let p : ◌≡◌ {A = Expr × List Terminal} (x, u) (y, v) = cc in ap (λ (q : Expr × List Terminal). q.1) p

over_colon_taken : {ts us : List Terminal} → Takes kind.Colon ts us → OverExpr true ts
over_colon_taken {us = us} (takes at) = over_colon true at us

colon_next : (ts : List Terminal) → begins kind.Colon ts ≡ true → OverExpr true ts
colon_next ts e = over_colon_taken (taken kind.Colon ts e)

-- no receive before `:` where an expression ends otherwise
no_receive : {h : ℕ} {ts rest : List Terminal} {x : Expr} → IsExpr Skips true h ts x rest → OverExpr true rest → begins kind.Colon rest ≡ false → begins_receive h ts ≡ false
unfolding begins_receive
no_receive {h} {ts} {rest} d o f = by (receive h ts) refl
  where
    ends : (y : Expr) (u : List Terminal) → receive h ts ≡ Some (y, u) → (c : Bool) → begins kind.Colon u ≡ c → c ≡ false
    ends y u e false q = refl
    ends y u e true q =
        let p : rest ≡ u = same_expr (sym (expr_reads d o) ∙ expr_reads (receive_expr (receive_found h ts y u e)) (colon_next u q)) in
        absurd (truth_lie (ap (begins kind.Colon) p ∙ q) f)

    by : (found : Found Expr) → receive h ts ≡ found → colon_follows found ≡ false
    by None e = refl
    by (Some p) e = ends p.0 p.1 e (begins kind.Colon p.1) refl

-- Communications

receive_waits : (h : ℕ) (ts : List Terminal) {w : List Terminal} {x : Expr} {at : Extent} → receive h ts ≡ Some (x, Sign kind.Colon at ∷ w) → begins_receive h ts ≡ true
unfolding begins_receive
receive_waits h ts r = ap colon_follows r

module _ {h : ℕ} where
  assign_reads : {v w : List Terminal} {x : Expr} (xs : List Expr) (at a : Extent) → IsReceive Skips h v x (Sign kind.Colon a ∷ w) → receive_assign h xs (Sign kind.Assign at ∷ v) ≡ Some (stmt.Assign xs (x ∷ []), Sign kind.Colon a ∷ w)
  unfolding receive_assign expect
  assign_reads {v = v} {w = w} xs at a d = read (receive h v) _ (receive_reads d (over_colon true a w)) refl

  define_reads : {ts v w : List Terminal} {ns : List Name} {x : Expr} (a at : Extent) → grammar.IsNames ts ns (Sign kind.Define a ∷ v) → IsReceive Skips h v x (Sign kind.Colon at ∷ w) → receive_define h ts ≡ Some (stmt.Define ns (x ∷ []), Sign kind.Colon at ∷ w)
  unfolding receive_define expect
  define_reads {ts} {v} {w} a at ns e = read (names ts) _ (names_read ns refl) (read (receive h v) _ (receive_reads e (over_colon true at w)) refl)

  -- one expression, and what follows it
  one_begins : {ts rest : List Terminal} {x : Expr} → IsExpr Skips true h ts x rest → OverExpr true rest → goes_on rest ≡ false → begins kind.Define rest ≡ false → begins_definition ts ≡ false
  one_begins d o s f = no_definition (grammar.exprs d grammar.exprs_none) o s f

  reads : {ts w : List Terminal} {k : StmtKind} (at : Extent) → IsCommunication Skips (suc h) ts k (Sign kind.Colon at ∷ w) → communication h ts ≡ Some (k, Sign kind.Colon at ∷ w)
  unfolding communication communication_end send
  reads {ts} {w} at (statements.communication_send {v = v} {x = x} d (takes a) e) =
      if_not _ _ _ (one_begins d (over_arrow true a v) refl refl) (if_not _ _ _ (no_receive d (over_arrow true a v) refl) (read (expr_of true (levels h) ts) _ (expr_reads d (over_arrow true a v)) (read (expr_of true (levels h) v) _ (expr_reads e (over_colon true at w)) refl)))
  reads {ts} {w} at (statements.communication_receive {x = x} d) =
      let r = receive_reads d (over_colon true at w) in
      if_not _ _ _ (one_begins (receive_expr d) (over_colon true at w) refl refl) (if_so _ _ _ (receive_waits h ts r) (read (receive h ts) _ r refl))
  reads {ts} {w} at (statements.communication_assign {v = v} (grammar.exprs {x = x} d grammar.exprs_none) (takes a) e) =
      if_not _ _ _ (one_begins d (over_assign true a v) refl refl) (if_not _ _ _ (no_receive d (over_assign true a v) refl) (read (expr_of true (levels h) ts) _ (expr_reads d (over_assign true a v)) (assign_reads (x ∷ []) a at e)))
  reads {ts} {w} at (statements.communication_assign {v = v} (grammar.exprs {x = x} d (grammar.exprs_more {u = u} {x = y} {xs = zs} (takes c) f more)) (takes a) e) =
      if_not _ _ _ (no_definition (grammar.exprs d (grammar.exprs_more (takes c) f more)) (over_assign true a v) refl refl) (if_not _ _ _ (no_receive d (over_comma true c u) refl) (read (expr_of true (levels h) ts) _ (expr_reads d (over_comma true c u))
      (if_so _ _ _ (ap not (expr_not_closing u (expr_begins f))) (read (more_exprs (expr_of true (levels h)) (x ∷ []) (Sign kind.Comma c ∷ u)) _ (more_exprs_reads (grammar.exprs_more (takes c) f more) (over_assign true a v) refl (x ∷ [])) (assign_reads (x ∷ y ∷ zs) a at e)))))
  reads {ts} {w} at (statements.communication_define {v = v} ns (takes a) e) = if_so _ _ _ (names_define ns refl) (define_reads a at ns e)

communication_height : {n : ℕ} {ts rest : List Terminal} {k : StmtKind} → IsCommunication Skips n ts k rest → (h : ℕ) × (n ≡ suc h) × IsCommunication Skips (suc h) ts k rest
communication_height (statements.communication_send {h = h} d t e) = (h, refl, statements.communication_send d t e)
communication_height (statements.communication_receive {h = h} d) = (h, refl, statements.communication_receive d)
communication_height (statements.communication_assign {h = h} d t e) = (h, refl, statements.communication_assign d t e)
communication_height (statements.communication_define {h = h} d t e) = (h, refl, statements.communication_define d t e)

pub communication_reads : {n : ℕ} {ts w : List Terminal} {k : StmtKind} (at : Extent) → IsCommunication Skips n ts k (Sign kind.Colon at ∷ w) → communication_at n ts ≡ Some (k, Sign kind.Colon at ∷ w)
unfolding communication_at
communication_reads {n} {ts} {w} {k} at d = let c = communication_height d in subst (λ (m : ℕ). communication_at m ts ≡ Some (k, Sign kind.Colon at ∷ w)) (sym c.1) (reads at c.2)
