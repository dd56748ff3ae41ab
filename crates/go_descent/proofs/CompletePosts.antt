-- Each list of expressions, each post and each primary expression is found.
use Rattle.std.proofs.Common.{◌≡◌, ℕ, suc, ◌<◌, List, [], ◌∷◌, ◌++◌, length, Bool, true, false, not, if◌then◌else◌, Option, Some, refl, ap, arith}
use Rattle.go_syntax.specs.declared.expression.Expr.{Expr}
use Rattle.go_syntax.specs.declared.expression.Post.{Post}
use Rattle.go_syntax.specs.declared.expression.Post.TheVariants as post
use Rattle.go_syntax.specs.declared.body.BodyRange.{BodyRange}
use Rattle.go_syntax.specs.declared.token.TokenKind.TheVariants as kind
use Rattle.go_syntax.specs.grammar.Grammar as grammar
use Rattle.go_syntax.specs.grammar.Symbols.{Rule, Takes, takes, MayTake, takes_none, takes_one, Marks, unmarked, marked, takes_name, begins, begins_selector}
use Rattle.go_syntax.specs.grammar.Terminals.{Terminal, Sign, Identifier}
use Rattle.go_cursor.specs.LookAheads.{begins_type_switch}
use Rattle.go_cursor.specs.Reading.{Reader, Next, Stop, More, after, step_of, expect, close, goes_on}
use Rattle.go_descent.specs.Rules.{Parts, expr_item, more_exprs, exprs, call_end, call, bound, slice_end, index, selector, post_item, primary_expr}
use Rattle.go_descent.proofs.Begins.{read, if_so, if_not, Gives, gives_stop, gives_more, runs, type_begins, type_not_keyword}
use Rattle.go_descent.proofs.BeginsExpr.{expr_begins, expr_not_right_paren, expr_not_right_bracket, expr_not_colon, expr_not_receive, expr_not_closing}
use Rattle.go_descent.proofs.CompleteOperands.{NoComposite, operand_read}
use Rattle.go_descent.specs.Follow.{Over, OverExpr, begins_post}
use Rattle.go_descent.proofs.CompleteParts.{CompleteParts, KnownBodies, over_comma, over_colon, over_ellipsis, over_right_paren, over_right_bracket}
use Rattle.go_descent.proofs.Shorter.{Shortens, may_shorter, marks_shorter, type_shorter, expr_shorter, optional_shorter, exprs_shorter, more_exprs_shorter}

-- Lists of expressions

more_exprs_over : {Body : ℕ → Rule BodyRange} {b : Bool} {h : ℕ} {ts rest : List Terminal} {xs : List Expr} → grammar.IsMoreExprs Body b h ts xs rest → OverExpr b rest → OverExpr b ts
more_exprs_over grammar.exprs_none o = o
more_exprs_over {b = b} (grammar.exprs_more {u = u} (takes at) d more) o = over_comma b at u

module _ {Body : ℕ → Rule BodyRange} (shorter : Shortens Body) {b : Bool} {h : ℕ} (expr : Reader Expr)
    (expr_read : (ts : List Terminal) (x : Expr) (rest : List Terminal) → grammar.IsExpr Body b h ts x rest → OverExpr b rest → expr ts ≡ Some (x, rest)) where
  loop_exprs_read : {ts rest : List Terminal} {xs : List Expr} → grammar.IsMoreExprs Body b h ts xs rest → OverExpr b rest → goes_on rest ≡ false → (acc : List Expr) → Gives (step_of (expr_item expr)) acc ts (Some (acc ++ xs, rest))
  loop_exprs_read {ts} grammar.exprs_none o e acc = gives_stop (expr_item expr) acc ts (if_not _ _ _ e refl)
  loop_exprs_read {ts} {rest} (grammar.exprs_more {u = u} {v = v} {x = x} {xs = xs} (takes at) d more) o e acc =
      gives_more (expr_item expr) acc x xs (Sign kind.Comma at ∷ u) v rest (if_so _ _ _ (ap not (expr_not_closing u (expr_begins d))) (ap after (expr_read _ _ _ d (more_exprs_over more o))))
      (omega (arith, expr_shorter Body shorter d)) (loop_exprs_read more o e (acc ++ x ∷ []))

  pub more_exprs_read : {ts rest : List Terminal} {xs : List Expr} → grammar.IsMoreExprs Body b h ts xs rest → OverExpr b rest → goes_on rest ≡ false → (acc : List Expr) → more_exprs expr acc ts ≡ Some (acc ++ xs, rest)
  unfolding more_exprs
  more_exprs_read {ts} {rest} {xs} d o e acc = runs (step_of (expr_item expr)) acc ts (Some (acc ++ xs, rest)) (loop_exprs_read d o e acc)

  pub exprs_read : {ts rest : List Terminal} {xs : List Expr} → grammar.IsExprs Body b h ts xs rest → OverExpr b rest → goes_on rest ≡ false → exprs expr ts ≡ Some (xs, rest)
  unfolding exprs
  exprs_read (grammar.exprs {x = x} d more) o e = read _ _ (expr_read _ _ _ d (more_exprs_over more o)) (more_exprs_read more o e (x ∷ []))

-- the end of a call's arguments
arguments_over : {u v w rest : List Terminal} {spread : Bool} → Marks kind.Ellipsis u spread v → MayTake kind.Comma v w → Takes kind.RightParen w rest → OverExpr true u
arguments_over unmarked takes_none (takes at) = over_right_paren true at _
arguments_over unmarked (takes_one (takes a)) (takes at) = over_comma true a _
arguments_over (marked (takes a)) m c = over_ellipsis true a _

arguments_stop : {u v w rest : List Terminal} {spread : Bool} → Marks kind.Ellipsis u spread v → MayTake kind.Comma v w → Takes kind.RightParen w rest → goes_on u ≡ false
arguments_stop unmarked takes_none (takes at) = refl
arguments_stop unmarked (takes_one (takes a)) (takes at) = refl
arguments_stop (marked (takes a)) m c = refl

call_ends : (f : Bool → Post) {u v w rest : List Terminal} {spread : Bool} → Marks kind.Ellipsis u spread v → MayTake kind.Comma v w → Takes kind.RightParen w rest → call_end (f (begins kind.Ellipsis u)) u ≡ Some (f spread, rest)
unfolding call_end close
call_ends f unmarked takes_none (takes at) = refl
call_ends f unmarked (takes_one (takes a)) (takes at) = refl
call_ends f (marked (takes b)) takes_none (takes at) = refl
call_ends f (marked (takes b)) (takes_one (takes a)) (takes at) = refl

-- Posts

stop_at : {A : Type 0} (a b c d : Bool) (x y z : Next A) → (if a then true else if b then true else if c then false else d) ≡ false → (if a then x else if b then y else if c then Stop else if d then z else Stop) ≡ Stop
stop_at true b c d x y z e = absurd (cc)
stop_at false true c d x y z e = absurd (cc)
stop_at false false true d x y z e = refl
stop_at false false false true x y z e = absurd (cc)
stop_at false false false false x y z e = refl

post_stop : (l : Parts) (ts : List Terminal) → begins_post ts ≡ false → post_item l ts ≡ Stop
unfolding post_item
post_stop l ts e = stop_at (begins kind.LeftParen ts) (begins kind.LeftBracket ts) (begins_type_switch ts) (begins kind.Period ts) _ _ _ e

no_post_no_selector : (ts : List Terminal) → begins_post ts ≡ false → begins_selector ts ≡ false
no_post_no_selector (Sign kind.Period at ∷ (Identifier n ∷ ts)) e = absurd (cc)
no_post_no_selector _ e = refl

module _ {Body : ℕ → Rule BodyRange} where
  post_not_brace : {h : ℕ} {ts rest : List Terminal} {q : Post} → grammar.IsPost Body h ts q rest → begins kind.LeftBrace ts ≡ false
  post_not_brace (grammar.post_selector (takes at) n) = refl
  post_not_brace (grammar.post_assertion (takes at) a d c) = refl
  post_not_brace (grammar.post_index (takes at) d c) = refl
  post_not_brace (grammar.post_slice (takes at) d c e f) = refl
  post_not_brace (grammar.post_full_slice (takes at) d c e f i j) = refl
  post_not_brace (grammar.post_call_none (takes at) c) = refl
  post_not_brace (grammar.post_call (takes at) d m c e) = refl
  post_not_brace (grammar.post_call_receive (takes at) a c d e m i j) = refl

  posts_not_brace : {h : ℕ} {ts rest : List Terminal} {ps : List Post} → grammar.IsPosts Body h ts ps rest → begins kind.LeftBrace rest ≡ false → begins kind.LeftBrace ts ≡ false
  posts_not_brace grammar.posts_none e = e
  posts_not_brace (grammar.posts_more q more) e = post_not_brace q

  no_composite : {b : Bool} {h : ℕ} {ts rest : List Terminal} {ps : List Post} → grammar.IsPosts Body h ts ps rest → Over b rest → NoComposite b ts
  no_composite {ts = ts} grammar.posts_none o b = if_not _ _ _ (no_post_no_selector ts o.post) (o.brace b)
  no_composite (grammar.posts_more (grammar.post_selector (takes at) takes_name) more) o b = posts_not_brace more (o.brace b)
  no_composite (grammar.posts_more (grammar.post_assertion (takes at) (takes a) d c) more) o b = refl
  no_composite (grammar.posts_more (grammar.post_index (takes at) d c) more) o b = refl
  no_composite (grammar.posts_more (grammar.post_slice (takes at) d c e f) more) o b = refl
  no_composite (grammar.posts_more (grammar.post_full_slice (takes at) d c e f i j) more) o b = refl
  no_composite (grammar.posts_more (grammar.post_call_none (takes at) c) more) o b = refl
  no_composite (grammar.posts_more (grammar.post_call (takes at) d m c e) more) o b = refl
  no_composite (grammar.posts_more (grammar.post_call_receive (takes at) a c d e m i j) more) o b = refl

module _ {Body : ℕ → Rule BodyRange} (shorter : Shortens Body) where
  post_some : {h : ℕ} {ts rest : List Terminal} {q : Post} → grammar.IsPost Body h ts q rest → length rest < length ts
  post_some (grammar.post_selector (takes at) takes_name) = omega arith
  post_some (grammar.post_assertion (takes at) (takes a) d (takes c)) = omega (arith, type_shorter Body shorter d)
  post_some (grammar.post_index (takes at) d (takes c)) = omega (arith, expr_shorter Body shorter d)
  post_some (grammar.post_slice (takes at) d (takes c) e (takes f)) = omega (arith, optional_shorter Body shorter d, optional_shorter Body shorter e)
  post_some (grammar.post_full_slice (takes at) d (takes c) e (takes f) i (takes j)) = omega (arith, optional_shorter Body shorter d, expr_shorter Body shorter e, expr_shorter Body shorter i)
  post_some (grammar.post_call_none (takes at) (takes c)) = omega arith
  post_some (grammar.post_call (takes at) d m c (takes e)) = omega (arith, exprs_shorter Body shorter d, marks_shorter m, may_shorter c)
  post_some (grammar.post_call_receive (takes at) (takes a) (takes c) d e m i (takes j)) = omega (arith, type_shorter Body shorter d, more_exprs_shorter Body shorter e, marks_shorter m, may_shorter i)

  module _ {l : Parts} {h : ℕ} (p : CompleteParts Body l (suc h)) where
    some_bound_read : {ts rest : List Terminal} {x : Expr} → grammar.IsExpr Body true h ts x rest → OverExpr true rest → bound l ts ≡ Some (Some x, rest)
    unfolding bound
    some_bound_read {ts} d o = if_not _ _ _ (expr_not_colon ts (expr_begins d)) (if_not _ _ _ (expr_not_right_bracket ts (expr_begins d)) (read _ _ (p.reads_expr _ _ _ d o) refl))

    low_read : {ts u rest : List Terminal} {x : Option Expr} → grammar.IsOptional Body true h ts x u → Takes kind.Colon u rest → bound l ts ≡ Some (x, u)
    unfolding bound
    low_read grammar.optional_none (takes at) = refl
    low_read {rest = rest} (grammar.optional_some d) (takes at) = some_bound_read d (over_colon true at rest)

    high_read : {ts u rest : List Terminal} {x : Option Expr} → grammar.IsOptional Body true h ts x u → Takes kind.RightBracket u rest → bound l ts ≡ Some (x, u)
    unfolding bound
    high_read grammar.optional_none (takes at) = refl
    high_read {rest = rest} (grammar.optional_some d) (takes at) = some_bound_read d (over_right_bracket true at rest)

  module _ {l : Parts} where
    post_read : {n : ℕ} (p : CompleteParts Body l n) {ts rest : List Terminal} {q : Post} → grammar.IsPost Body n ts q rest → post_item l ts ≡ More q rest
    unfolding post_item selector index slice_end call expect close
    post_read p (grammar.post_selector (takes at) takes_name) = refl
    post_read p (grammar.post_assertion {h = h} {v = v} (takes at) (takes a) t (takes c)) = if_not _ _ _ (type_not_keyword v (type_begins t)) (ap after (if_so _ _ _ (p.is_deep h refl) (read _ _ (p.reads_typ _ _ _ t) refl)))
    post_read p (grammar.post_index {h = h} (takes at) x (takes c)) = ap after (if_so _ _ _ (p.is_deep h refl) (read _ _ (some_bound_read p x (over_right_bracket true c _)) refl))
    post_read p (grammar.post_slice {h = h} (takes at) x (takes c) y (takes e)) = ap after (if_so _ _ _ (p.is_deep h refl) (read _ _ (low_read p x (takes c)) (read _ _ (high_read p y (takes e)) refl)))
    post_read p (grammar.post_full_slice {h = h} (takes at) x (takes c) y (takes e) z (takes f)) =
        ap after (if_so _ _ _ (p.is_deep h refl) (read _ _ (low_read p x (takes c)) (read _ _ (some_bound_read p y (over_colon true e _)) (read _ _ (p.reads_expr _ _ _ z (over_right_bracket true f _)) refl))))
    post_read p (grammar.post_call_none {h = h} (takes at) (takes c)) = ap after (if_so _ _ _ (p.is_deep h refl) refl)
    post_read p (grammar.post_call {h = h} {u = u} {xs = xs} (takes at) (grammar.exprs d more) m c e) =
        ap after (if_so _ _ _ (p.is_deep h refl) (if_not _ _ _ (expr_not_right_paren u (expr_begins d)) (if_not _ _ _ (expr_not_receive u (expr_begins d))
        (read _ _ (exprs_read shorter l.expr p.reads_expr (grammar.exprs d more) (arguments_over m c e) (arguments_stop m c e)) (call_ends (post.Call xs) m c e)))))
    post_read p (grammar.post_call_receive {h = h} {t = t} {xs = xs} (takes at) (takes a) (takes b) d more m c e) =
        ap after (if_so _ _ _ (p.is_deep h refl) (read _ _ (p.reads_typ _ _ _ d)
        (read _ _ (more_exprs_read shorter l.expr p.reads_expr more (arguments_over m c e) (arguments_stop m c e) []) (call_ends (post.CallReceiveChan t xs) m c e))))

    posts_read : {n : ℕ} (p : CompleteParts Body l n) {ts rest : List Terminal} {ps : List Post} → grammar.IsPosts Body n ts ps rest → begins_post rest ≡ false → (acc : List Post) → Gives (step_of (post_item l)) acc ts (Some (acc ++ ps, rest))
    posts_read p {ts} grammar.posts_none e acc = gives_stop (post_item l) acc ts (post_stop l ts e)
    posts_read p {ts} {rest} (grammar.posts_more {u = u} {p = q} {ps = qs} d more) e acc = gives_more (post_item l) acc q qs ts u rest (post_read p d) (post_some d) (posts_read p more e (acc ++ q ∷ []))

module _ {Body : ℕ → Rule BodyRange} (known : KnownBodies Body) {l : Parts} where
  pub primary_read : {b : Bool} {n : ℕ} (p : CompleteParts Body l n) {ts rest : List Terminal} {x : Expr} → grammar.IsPrimary Body b n ts x rest → Over b rest → primary_expr b l ts ≡ Some (x, rest)
  unfolding primary_expr
  primary_read p {rest = rest} (grammar.primary {u = u} {ps = ps} d more) o =
      read _ _ (operand_read known p d (no_composite more o)) (read _ _ (runs (step_of (post_item l)) [] u (Some (ps, rest)) (posts_read known.body_shorter p more o.post [])) refl)
