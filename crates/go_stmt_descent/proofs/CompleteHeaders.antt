-- What the tokens ahead say of a header is so, and each header is read.
use Rattle.std.proofs.Common.{◌≡◌, ◌⊎◌, inl, inr, ℕ, zero, suc, Bool, true, false, not, if◌then◌else◌, List, [], ◌∷◌, drop, map, Option, Some, None, refl, sym, ap, ◌∙◌, subst}
use Rattle.go_cursor.specs.LookAheads.{begins_type_switch}
use Rattle.go_cursor.specs.Names.{names}
use Rattle.go_cursor.specs.Reading.{Found, bind, close, goes_on}
use Rattle.go_cursor.proofs.Steps.{taken}
use Rattle.go_descent.specs.Follow.{OverExpr}
use Rattle.go_descent.specs.Levels.{levels}
use Rattle.go_descent.specs.Rules.{expr_of, exprs}
use Rattle.go_descent.proofs.Begins.{read, if_so, if_not}
use Rattle.go_descent.proofs.BeginsExpr.{begins_expr, expr_begins}
use Rattle.go_descent.proofs.CompleteNames.{names_read}
use Rattle.go_descent.proofs.CompleteParts.{over_comma, over_colon}
use Rattle.go_simple_stmts.specs.Follow.{OverSimple}
use Rattle.go_simple_stmts.specs.SimpleStatements.{begins_definition}
use Rattle.go_stmt_descent.specs.declared.headers.ForHeader.{ForHeader}
use Rattle.go_stmt_descent.specs.declared.headers.ForHeader.TheVariants as header
use Rattle.go_stmt_descent.specs.Headers.{begins_binding, begins_condition, begins_guard, brace_follows, clause, clause_before, for_header, guard_follows, header_after, header_of_exprs, header_of_names, if_has_init, init, optional_before, past_binding, range_follows, ranges, simple_at, switch_has_init}
use Rattle.go_stmt_descent.proofs.Follows.{Behind, behind_assign, behind_sign, expr_not_brace, expr_not_range, expr_not_semicolon, over_brace, over_define, sign_next, simple_semicolon, step_ends, operation_ends}
use Rattle.go_stmt_descent.proofs.Found.{expr_found}
use Rattle.go_stmt_descent.proofs.Higher.{expr_higher, exprs_higher, more_exprs_higher}
use Rattle.go_stmt_descent.proofs.Readings.{expr_reads, exprs_reads, simple_at_reads, simple_begins, simple_height}
use Rattle.go_syntax.specs.declared.expression.Expr.{Expr}
use Rattle.go_syntax.specs.declared.expression.Expr.TheVariants as expr
use Rattle.go_syntax.specs.declared.name.Name.{Name}
use Rattle.go_syntax.specs.declared.statement.Stmt.{Stmt}
use Rattle.go_syntax.specs.declared.statement.StmtKind.{StmtKind}
use Rattle.go_syntax.specs.declared.token.TokenKind.{TokenKind}
use Rattle.go_syntax.specs.declared.token.TokenKind.TheVariants as kind
use Rattle.go_syntax.specs.grammar.Grammar as grammar
use Rattle.go_syntax.specs.grammar.Grammar.{IsExpr, IsExprs, IsMoreExprs, IsMoreNames, IsNames, IsOptional, IsPrimary}
use Rattle.go_syntax.specs.grammar.SourceFiles.{Skips}
use Rattle.go_syntax.specs.grammar.Statements as statements
use Rattle.go_syntax.specs.grammar.Statements.{IsClause, IsInit, IsSimple}
use Rattle.go_syntax.specs.grammar.Symbols.{Takes, takes, takes_name, begins}
use Rattle.go_syntax.specs.grammar.Terminals.{Extent, Terminal, Sign, Identifier, Basic, Odd}

same_exprs : {xs ys : List Expr} {u v : List Terminal} → ◌≡◌ {A = Found (List Expr)} (Some (xs, u)) (Some (ys, v)) → u ≡ v
same_exprs {xs = xs} {ys = ys} {u = u} {v = v} e = let p : ◌≡◌ {A = List Expr × List Terminal} (xs, u) (ys, v) = cc in ap (λ (q : List Expr × List Terminal). q.1) p

same_expr : {x y : Expr} {u v : List Terminal} → ◌≡◌ {A = Found Expr} (Some (x, u)) (Some (y, v)) → u ≡ v
same_expr {x = x} {y = y} {u = u} {v = v} e = let p : ◌≡◌ {A = Expr × List Terminal} (x, u) (y, v) = cc in ap (λ (q : Expr × List Terminal). q.1) p

truth_lie : {c : Bool} → c ≡ true → c ≡ false → ⊥
truth_lie t f = absurd (cc)

-- Names as expressions

name_alone : (b : Bool) (h : ℕ) (n : Name) (ts : List Terminal) → IsExpr Skips b h (Identifier n ∷ ts) (expr.Name n) ts
name_alone b h n ts = grammar.expr_or (grammar.expr_and (grammar.expr_compare (grammar.expr_sum (grammar.expr_product (grammar.unary_primary (grammar.primary (grammar.operand_name takes_name) grammar.posts_none)) grammar.product_none) grammar.sum_none) grammar.compare_none) grammar.and_none) grammar.or_none

more_names_exprs : {b : Bool} {h : ℕ} {ts rest : List Terminal} {ns : List Name} → IsMoreNames ts ns rest → IsMoreExprs Skips b h ts (map expr.Name ns) rest
more_names_exprs grammar.names_none = grammar.exprs_none
more_names_exprs {b} {h} (grammar.names_more {v = v} {n = n} t takes_name more) = grammar.exprs_more t (name_alone b h n v) (more_names_exprs more)

names_exprs : {b : Bool} {h : ℕ} {ts rest : List Terminal} {ns : List Name} → IsNames ts ns rest → IsExprs Skips b h ts (map expr.Name ns) rest
names_exprs {b} {h} (grammar.names {u = u} {n = n} takes_name more) = grammar.exprs (name_alone b h n u) (more_names_exprs more)

-- the names before the `:=` that is ahead
pub defined_ahead : (ts : List Terminal) → begins_definition ts ≡ true → (ns : List Name) × (at : Extent) × (w : List Terminal) × IsNames ts ns (Sign kind.Define at ∷ w)
unfolding begins_definition
defined_ahead [] e = absurd (cc)
defined_ahead (Sign k at ∷ ts) e = absurd (cc)
defined_ahead (Basic l place ∷ ts) e = absurd (cc)
defined_ahead (Odd ∷ ts) e = absurd (cc)
defined_ahead (Identifier n ∷ []) e = absurd (cc)
defined_ahead (Identifier n ∷ Sign kind.Comma at ∷ ts) e = more (defined_ahead ts e)
  where
    more : {us : List Terminal} → (ns : List Name) × (a : Extent) × (w : List Terminal) × IsNames us ns (Sign kind.Define a ∷ w) → (ns : List Name) × (a : Extent) × (w : List Terminal) × IsNames (Identifier n ∷ Sign kind.Comma at ∷ us) ns (Sign kind.Define a ∷ w)
    more (ns, a, w, grammar.names {n = m} {ns = ms} t d) = (n ∷ m ∷ ms, a, w, grammar.names takes_name (grammar.names_more (takes at) t d))
defined_ahead (Identifier n ∷ Sign kind.Define at ∷ ts) e = (n ∷ [], at, ts, grammar.names takes_name grammar.names_none)
defined_ahead (Identifier n ∷ _ ∷ ts) e = absurd (cc)

-- no `:=` is ahead where expressions end otherwise
pub no_definition : {b : Bool} {h : ℕ} {ts rest : List Terminal} {xs : List Expr} → IsExprs Skips b h ts xs rest → OverExpr b rest → goes_on rest ≡ false → begins kind.Define rest ≡ false → begins_definition ts ≡ false
no_definition {b} {h} {ts} {rest} d o s f = by (begins_definition ts) refl
  where
    by : (c : Bool) → begins_definition ts ≡ c → c ≡ false
    by false e = refl
    by true e =
        let a = defined_ahead ts e in
        let p : rest ≡ Sign kind.Define a.1 ∷ a.2 = same_exprs (sym (exprs_reads d o s) ∙ exprs_reads (names_exprs {b = b} {h = h} a.3) (over_define b a.1 a.2) refl) in
        absurd (truth_lie (ap (begins kind.Define) p) f)

defined_names : (n : Name) {u rest : List Terminal} {ns : List Name} → IsMoreNames u ns rest → begins kind.Define rest ≡ true → begins_definition (Identifier n ∷ u) ≡ true
unfolding begins_definition
defined_names n (grammar.names_none {ts = []}) e = absurd (cc)
defined_names n (grammar.names_none {ts = Sign kind.Comma at ∷ ts}) e = absurd (cc)
defined_names n (grammar.names_none {ts = _ ∷ ts}) e = e
defined_names n (grammar.names_more {n = m} (takes at) takes_name more) e = defined_names m more e

pub names_define : {ts rest : List Terminal} {ns : List Name} → IsNames ts ns rest → begins kind.Define rest ≡ true → begins_definition ts ≡ true
names_define (grammar.names {n = n} takes_name more) e = defined_names n more e

-- What simple statements begin with

-- expressions that a simple statement begins with, and what follows them
abbrev pub Listed : Bool → ℕ → List Terminal → Type 0
Listed b h ts = (xs : List Expr) × (rest : List Terminal) × IsExprs Skips b h ts xs rest × Behind b rest

one_higher : {b : Bool} {h : ℕ} {ts rest : List Terminal} {x : Expr} → IsExpr Skips b h ts x rest → IsExprs Skips b (suc h) ts (x ∷ []) rest
one_higher d = grammar.exprs (expr_higher {Body = Skips} (λ j w r v s. s) d) grammar.exprs_none

list_higher : {b : Bool} {h : ℕ} {ts rest : List Terminal} {xs : List Expr} → IsExprs Skips b h ts xs rest → IsExprs Skips b (suc h) ts xs rest
list_higher d = exprs_higher {Body = Skips} (λ j w r v s. s) d

pub simple_starts : {b : Bool} {h : ℕ} {ts rest : List Terminal} {k : StmtKind} → IsSimple Skips b (suc h) ts k rest → Behind b rest → Listed b (suc h) ts ⊎ (begins_definition ts ≡ true)
simple_starts {rest = rest} (statements.simple_expr {x = x} d) o = inl (x ∷ [], rest, one_higher d, o)
simple_starts {b} (statements.simple_send {v = v} {x = x} d (takes at) e) o = inl (x ∷ [], Sign kind.Arrow at ∷ v, one_higher d, behind_sign b kind.Arrow at v refl)
simple_starts {b} {rest = rest} (statements.simple_step {k = k} {op = op} {x = x} d (takes at) e) o = inl (x ∷ [], Sign k at ∷ rest, one_higher d, behind_sign b k at rest (step_ends k op e))
simple_starts {b} (statements.simple_operation {v = v} {k = k} {op = op} {x = x} d (takes at) e f) o = inl (x ∷ [], Sign k at ∷ v, one_higher d, behind_sign b k at v (operation_ends k op e))
simple_starts {b} (statements.simple_assign {v = v} {xs = xs} d (takes at) (grammar.exprs e more)) o = inl (xs, Sign kind.Assign at ∷ v, list_higher d, behind_assign b at v (expr_not_range v (expr_begins e)))
simple_starts (statements.simple_define d (takes at) e) o = inr (names_define d refl)

-- the first expression, and what follows it
pub record First (b : Bool) (h : ℕ) (ts : List Terminal) : Type 0 where
  pub tree : Expr
  pub rest : List Terminal
  pub derives : IsExpr Skips b h ts tree rest
  pub over : OverExpr b rest
  pub brace : begins kind.LeftBrace rest ≡ false
  pub guard : begins_type_switch rest ≡ false
  pub colon : begins kind.Colon rest ≡ false
  pub define : begins kind.Define rest ≡ false

pub first_of : {b : Bool} {h : ℕ} {ts rest : List Terminal} {xs : List Expr} → IsExprs Skips b h ts xs rest → Behind b rest → First b h ts
first_of {rest = rest} (grammar.exprs {x = x} d grammar.exprs_none) o = record { tree = x; rest = rest; derives = d; over = o.over; brace = o.brace; guard = o.guard; colon = o.colon; define = o.define }
first_of {b} (grammar.exprs {x = x} d (grammar.exprs_more {u = u} (takes at) e more)) o = record { tree = x; rest = Sign kind.Comma at ∷ u; derives = d; over = over_comma b at u; brace = refl; guard = refl; colon = refl; define = refl }

-- neither a label nor `Name :=` is ahead where an expression ends otherwise

pub behind_name : {b : Bool} {h : ℕ} {n : Name} {ts u : List Terminal} {x : Expr} → IsExpr Skips b h (Identifier n ∷ ts) x u → OverExpr b u → OverExpr b ts → ts ≡ u
behind_name {b} {h} {n = n} {ts = ts} d o p = same_expr (sym (expr_reads (name_alone b h n ts) p) ∙ expr_reads d o)

define_next : (ts : List Terminal) → begins kind.Define ts ≡ true → (at : Extent) × (ts ≡ Sign kind.Define at ∷ drop 1 ts)
define_next ts e = sign_next (taken kind.Define ts e)

pub no_binding : {b : Bool} {h : ℕ} {ts rest : List Terminal} {x : Expr} → IsExpr Skips b h ts x rest → OverExpr b rest → begins kind.Define rest ≡ false → begins_binding ts ≡ false
no_binding {ts = []} d o f = refl
no_binding {ts = Sign k at ∷ w} d o f = refl
no_binding {ts = Basic l place ∷ w} d o f = refl
no_binding {ts = Odd ∷ w} d o f = refl
no_binding {b} {ts = Identifier n ∷ w} {rest = rest} d o f = by (begins kind.Define w) refl
  where
    by : (c : Bool) → begins kind.Define w ≡ c → c ≡ false
    by false e = refl
    by true e =
        let a = define_next w e in
        let p : w ≡ rest = behind_name d o (subst (λ (v : List Terminal). OverExpr b v) (sym a.1) (over_define b a.0 (drop 1 w))) in
        absurd (truth_lie (ap (begins kind.Define) (sym p) ∙ e) f)

-- Conditions

whichever : (c a : Bool) → a ≡ false → (if c then false else a) ≡ false
whichever true a e = refl
whichever false a e = e

no_condition_by : {h : ℕ} {ts : List Terminal} → Listed false h ts ⊎ (begins_definition ts ≡ true) → begins_condition h ts ≡ false
unfolding begins_condition
no_condition_by (inr e) = if_so _ _ _ e refl
no_condition_by {ts = ts} (inl (xs, u, e, p)) = let f = first_of e p in whichever (begins_definition ts) _ (ap brace_follows (expr_reads f.derives f.over) ∙ f.brace)

no_condition : {h : ℕ} {ts rest : List Terminal} {k : StmtKind} → IsSimple Skips false h ts k rest → Behind false rest → begins_condition h ts ≡ false
no_condition {ts = ts} d o = let s = simple_height d in subst (λ (m : ℕ). begins_condition m ts ≡ false) (sym s.1) (no_condition_by (simple_starts s.2 o))

module _ {h : ℕ} where
  -- an expression, and then the block
  condition_ahead : {ts w : List Terminal} {x : Expr} (at : Extent) → IsExpr Skips false h ts x (Sign kind.LeftBrace at ∷ w) → begins_condition h ts ≡ true
  unfolding begins_condition
  condition_ahead {ts} {w} at d = if_not _ _ _ (no_definition (grammar.exprs d grammar.exprs_none) (over_brace at w) refl refl) (ap brace_follows (expr_reads d (over_brace at w)))

  pub condition_alone : {ts w : List Terminal} {x : Expr} (at : Extent) → IsExpr Skips false h ts x (Sign kind.LeftBrace at ∷ w) → if_has_init h ts ≡ false
  unfolding if_has_init
  condition_alone {ts} at d = if_not _ _ _ (expr_not_semicolon ts (expr_begins d)) (ap not (condition_ahead at d))

  pub statement_first : {ts rest : List Terminal} {k : StmtKind} → IsSimple Skips false h ts k rest → Behind false rest → if_has_init h ts ≡ true
  unfolding if_has_init
  statement_first {ts} d o = if_not _ _ _ (expr_not_semicolon ts (simple_begins d)) (ap not (no_condition d o))

-- Guards

no_guard_here : (h : ℕ) (ts : List Terminal) → begins_expr ts ≡ false → (found : Found Expr) → expr_of false (levels h) ts ≡ found → guard_follows found ≡ false
no_guard_here h ts f None e = refl
no_guard_here h ts f (Some p) e = absurd (truth_lie (expr_begins (expr_found false h ts p.0 p.1 e)) f)

pub sign_no_guard : (h : ℕ) (k : TokenKind) (at : Extent) (ts : List Terminal) → begins_expr (Sign k at ∷ ts) ≡ false → begins_guard h (Sign k at ∷ ts) ≡ false
unfolding begins_guard
sign_no_guard h k at ts f = no_guard_here h (Sign k at ∷ ts) f (expr_of false (levels h) (Sign k at ∷ ts)) refl

-- an expression that no guard ends
pub expr_no_guard : {h : ℕ} {ts rest : List Terminal} {x : Expr} → IsExpr Skips false h ts x rest → OverExpr false rest → begins kind.Define rest ≡ false → begins_type_switch rest ≡ false → begins_guard h ts ≡ false
unfolding begins_guard
expr_no_guard {h} {ts} d o f g = ap (λ (c : Bool). guard_follows (expr_of false (levels h) (if c then drop 2 ts else ts))) (no_binding d o f) ∙ ap guard_follows (expr_reads d o) ∙ g

pub primary_is : {b : Bool} {h : ℕ} {ts rest : List Terminal} {x : Expr} → IsPrimary Skips b h ts x rest → IsExpr Skips b h ts x rest
primary_is d = grammar.expr_or (grammar.expr_and (grammar.expr_compare (grammar.expr_sum (grammar.expr_product (grammar.unary_primary d) grammar.product_none) grammar.sum_none) grammar.compare_none) grammar.and_none) grammar.or_none

-- no guard in a statement before the tag
define_no_guard : {h : ℕ} {ts w u : List Terminal} {ns : List Name} {xs : List Expr} (at : Extent) → IsNames ts ns (Sign kind.Define at ∷ w) → IsExprs Skips false h w xs u → Behind false u → begins_guard h ts ≡ false
unfolding begins_guard
define_no_guard at (grammar.names takes_name grammar.names_none) d o = let f = first_of d o in ap guard_follows (expr_reads f.derives f.over) ∙ f.guard
define_no_guard {h} at (grammar.names {n = n} takes_name (grammar.names_more {u = u} (takes a) m more)) d o = ap guard_follows (expr_reads (name_alone false h n (Sign kind.Comma a ∷ u)) (over_comma false a u))

listed_no_guard : {h : ℕ} {ts : List Terminal} → Listed false h ts → begins_guard h ts ≡ false
listed_no_guard (xs, u, e, p) = let f = first_of e p in expr_no_guard f.derives f.over f.define f.guard

pub simple_no_guard : {h : ℕ} {ts rest : List Terminal} {k : StmtKind} → IsSimple Skips false h ts k rest → Behind false rest → begins_guard h ts ≡ false
simple_no_guard {rest = rest} (statements.simple_expr {x = x} d) o = listed_no_guard (x ∷ [], rest, one_higher d, o)
simple_no_guard (statements.simple_send {v = v} {x = x} d (takes at) e) o = listed_no_guard (x ∷ [], Sign kind.Arrow at ∷ v, one_higher d, behind_sign false kind.Arrow at v refl)
simple_no_guard {rest = rest} (statements.simple_step {k = k} {op = op} {x = x} d (takes at) e) o = listed_no_guard (x ∷ [], Sign k at ∷ rest, one_higher d, behind_sign false k at rest (step_ends k op e))
simple_no_guard (statements.simple_operation {v = v} {k = k} {op = op} {x = x} d (takes at) e f) o = listed_no_guard (x ∷ [], Sign k at ∷ v, one_higher d, behind_sign false k at v (operation_ends k op e))
simple_no_guard (statements.simple_assign {v = v} {xs = xs} d (takes at) (grammar.exprs e more)) o = listed_no_guard (xs, Sign kind.Assign at ∷ v, list_higher d, behind_assign false at v (expr_not_range v (expr_begins e)))
simple_no_guard (statements.simple_define d (takes at) e) o = define_no_guard at d (list_higher e) o

-- The header of `switch`

module _ {h : ℕ} where
  pub tag_alone : {ts w : List Terminal} {x : Expr} (at : Extent) → IsExpr Skips false h ts x (Sign kind.LeftBrace at ∷ w) → switch_has_init h ts ≡ false
  unfolding switch_has_init
  tag_alone {ts} {w} at d = if_not _ _ _ (expr_not_brace ts (expr_begins d)) (if_not _ _ _ (expr_no_guard d (over_brace at w) refl refl) (condition_alone at d))

  pub statement_before_tag : {ts rest : List Terminal} {k : StmtKind} → IsSimple Skips false h ts k rest → Behind false rest → switch_has_init h ts ≡ true
  unfolding switch_has_init
  statement_before_tag {ts} d o = if_not _ _ _ (expr_not_brace ts (simple_begins d)) (if_not _ _ _ (simple_no_guard d o) (statement_first d o))

-- The header of `for`

module _ {h : ℕ} where
  expr_header : {ts rest : List Terminal} {xs : List Expr} → IsExprs Skips false h ts xs rest → OverExpr false rest → goes_on rest ≡ false → begins kind.Define rest ≡ false → for_header h ts ≡ header_after rest
  unfolding for_header
  expr_header {ts} (grammar.exprs e more) o s f =
      if_not _ _ _ (expr_not_brace ts (expr_begins e)) (if_not _ _ _ (expr_not_range ts (expr_begins e)) (if_not _ _ _ (expr_not_semicolon ts (expr_begins e))
      (if_not _ _ _ (no_definition (grammar.exprs e more) o s f) (ap header_of_exprs (exprs_reads (grammar.exprs e more) o s)))))

  pub condition_header : {ts w : List Terminal} {x : Expr} (at : Extent) → IsExpr Skips false h ts x (Sign kind.LeftBrace at ∷ w) → for_header h ts ≡ header.Condition
  condition_header {w = w} at d = expr_header (grammar.exprs d grammar.exprs_none) (over_brace at w) refl refl

  pub assign_header : {ts w : List Terminal} {xs : List Expr} (at a : Extent) → IsExprs Skips false h ts xs (Sign kind.Assign at ∷ (Sign kind.RangeWord a ∷ w)) → OverExpr false (Sign kind.Assign at ∷ (Sign kind.RangeWord a ∷ w)) → for_header h ts ≡ header.RangeAssign
  assign_header at a d o = expr_header d o refl refl

names_header : (h : ℕ) {ts w : List Terminal} {ns : List Name} (at : Extent) → IsNames ts ns (Sign kind.Define at ∷ w) → for_header h ts ≡ header_of_names (begins kind.RangeWord w)
unfolding for_header
names_header h {w = w} at (grammar.names {n = n} takes_name more) =
    if_so _ _ _ (names_define (grammar.names {n = n} takes_name more) refl) (ap (λ (f : Found (List Name)). header_of_names (range_follows f)) (names_read (grammar.names {n = n} takes_name more) refl))

pub define_header : (h : ℕ) {ts w : List Terminal} {ns : List Name} (at a : Extent) → IsNames ts ns (Sign kind.Define at ∷ (Sign kind.RangeWord a ∷ w)) → for_header h ts ≡ header.RangeDefine
define_header h at a d = names_header h at d

after_not : (ts : List Terminal) → begins kind.LeftBrace ts ≡ false → ranges kind.Assign ts ≡ false → header_after ts ≡ header.Clauses
after_not ts e f = if_not _ _ _ e (if_not _ _ _ f refl)

listed_header : {h : ℕ} {ts : List Terminal} → Listed false h ts → for_header h ts ≡ header.Clauses
listed_header (xs, u, e, p) = expr_header e p.over p.stops p.define ∙ after_not u p.brace p.ranges_not

pub clause_header : {h : ℕ} {ts rest : List Terminal} {k : StmtKind} → IsSimple Skips false h ts k rest → Behind false rest → for_header h ts ≡ header.Clauses
clause_header {rest = rest} (statements.simple_expr {x = x} d) o = listed_header (x ∷ [], rest, one_higher d, o)
clause_header (statements.simple_send {v = v} {x = x} d (takes at) e) o = listed_header (x ∷ [], Sign kind.Arrow at ∷ v, one_higher d, behind_sign false kind.Arrow at v refl)
clause_header {rest = rest} (statements.simple_step {k = k} {op = op} {x = x} d (takes at) e) o = listed_header (x ∷ [], Sign k at ∷ rest, one_higher d, behind_sign false k at rest (step_ends k op e))
clause_header (statements.simple_operation {v = v} {k = k} {op = op} {x = x} d (takes at) e f) o = listed_header (x ∷ [], Sign k at ∷ v, one_higher d, behind_sign false k at v (operation_ends k op e))
clause_header (statements.simple_assign {v = v} {xs = xs} d (takes at) (grammar.exprs e more)) o = listed_header (xs, Sign kind.Assign at ∷ v, list_higher d, behind_assign false at v (expr_not_range v (expr_begins e)))
clause_header (statements.simple_define {h = h} {v = v} d (takes at) (grammar.exprs e more)) o = names_header (suc h) at d ∙ ap header_of_names (expr_not_range v (expr_begins e))

-- Headers are read

pub clause_reads : {h : ℕ} {ts rest : List Terminal} {s : Stmt} → IsClause Skips h ts (Some s) rest → OverSimple false rest → clause h ts ≡ Some (s, rest)
unfolding clause
clause_reads {h} {ts} (statements.clause_some d) o = read (simple_at false h ts) _ (simple_at_reads d o) refl

clause_begins : {h : ℕ} {ts rest : List Terminal} {s : Stmt} → IsClause Skips h ts (Some s) rest → begins_expr ts ≡ true
clause_begins (statements.clause_some d) = simple_begins d

pub init_reads : {h : ℕ} {ts rest : List Terminal} {s : Stmt} → IsInit Skips h ts (Some s) rest → init h ts ≡ Some (Some s, rest)
unfolding init close
init_reads (statements.init_empty (takes at)) = refl
init_reads {h} {ts} {rest} (statements.init_some d (takes at)) = if_not _ _ _ (expr_not_semicolon ts (simple_begins d)) (read (clause h ts) _ (clause_reads (statements.clause_some d) (simple_semicolon false at rest)) refl)

-- what may be missing, before a token that begins no expression

pub optional_reads : (k : TokenKind) {h : ℕ} {ts w : List Terminal} {x : Option Expr} (at : Extent) → ((us : List Terminal) → begins_expr us ≡ true → begins k us ≡ false) → begins k (Sign k at ∷ w) ≡ true → OverExpr false (Sign k at ∷ w) → IsOptional Skips false h ts x (Sign k at ∷ w) → optional_before k h ts ≡ Some (x, Sign k at ∷ w)
unfolding optional_before
optional_reads k at not_k so o grammar.optional_none = if_so _ _ _ so refl
optional_reads k {h} {ts} at not_k so o (grammar.optional_some d) = if_not _ _ _ (not_k ts (expr_begins d)) (read (expr_of false (levels h) ts) _ (expr_reads d o) refl)

pub clause_before_reads : (k : TokenKind) {h : ℕ} {ts w : List Terminal} {s : Option Stmt} (at : Extent) → ((us : List Terminal) → begins_expr us ≡ true → begins k us ≡ false) → begins k (Sign k at ∷ w) ≡ true → OverSimple false (Sign k at ∷ w) → IsClause Skips h ts s (Sign k at ∷ w) → clause_before k h ts ≡ Some (s, Sign k at ∷ w)
unfolding clause_before
clause_before_reads k at not_k so o statements.clause_none = if_so _ _ _ so refl
clause_before_reads k {h} {ts} at not_k so o (statements.clause_some d) = if_not _ _ _ (not_k ts (simple_begins d)) (read (clause h ts) _ (clause_reads (statements.clause_some d) o) refl)
