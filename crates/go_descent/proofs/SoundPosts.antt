-- What the readers of lists of expressions, of posts and of primary expressions find is in the grammar.
use Rattle.std.proofs.Common.{◌≡◌, ℕ, zero, suc, List, [], ◌∷◌, drop, Bool, true, Option, Some, None}
use Rattle.go_syntax.specs.declared.expression.Expr.{Expr}
use Rattle.go_syntax.specs.declared.expression.Post.{Post}
use Rattle.go_syntax.specs.declared.expression.Post.TheVariants as post
use Rattle.go_syntax.specs.declared.body.BodyRange.{BodyRange}
use Rattle.go_syntax.specs.declared.token.TokenKind.TheVariants as kind
use Rattle.go_syntax.specs.grammar.Grammar.{IsExpr, IsPrimary, primary, IsPosts, posts_none, posts_more, IsPost, post_selector, post_assertion, post_index, post_slice, post_full_slice, post_call_none, post_call, post_call_receive, IsOptional, optional_none, optional_some, IsExprs, exprs as is_exprs, IsMoreExprs, exprs_none, exprs_more}
use Rattle.go_syntax.specs.grammar.Symbols.{Rule, Takes, MayTake, begins}
use Rattle.go_syntax.specs.grammar.Terminals.{Terminal}
use Rattle.go_cursor.specs.LookAheads.{begins_receive, begins_type_switch}
use Rattle.go_cursor.specs.Reading.{Found, Reader, bind, run, step_of, expect, close, past, name, begins_name}
use Rattle.go_descent.specs.Rules.{Parts, expr_item, more_exprs, exprs, call_end, call, bound, index_of, full_slice, slice_end, index, selector, nest, post_item, operand, primary_expr}
use Rattle.go_descent.proofs.SoundOperands.{operand_sound}
use Rattle.go_descent.proofs.SoundParts.{SoundParts, no_level}
use Rattle.go_cursor.proofs.Steps.{Sound, SoundTurn, with_bind, branch, same, taken, expected, closed, pasts, marks, named_by, run_sound, first_sound, from_none, Adds, AfterComma, comma_item_sound, after_more, receive_taken}

module _ (Body : ℕ → Rule BodyRange) (b : Bool) (h : ℕ) (read : Reader Expr) (sound : Sound (IsExpr Body b h) read) where
  added_sound : (xs : List Expr) → Sound (Adds (IsMoreExprs Body b h) xs) (more_exprs read xs)
  unfolding more_exprs
  added_sound xs ts all rest e = run_sound (AfterComma (IsExpr Body b h)) (IsMoreExprs Body b h) (λ w. exprs_none) (λ w v y x xs k c. exprs_more k.0 k.1 c) (expr_item read) (comma_item_sound (IsExpr Body b h) read sound) xs ts all rest e

  pub more_exprs_sound : Sound (IsMoreExprs Body b h) (more_exprs read [])
  more_exprs_sound ts xs rest e = from_none (IsMoreExprs Body b h) ts xs rest (added_sound [] ts xs rest e)

  pub exprs_sound : Sound (IsExprs Body b h) (exprs read)
  unfolding exprs
  exprs_sound ts xs rest e = with_bind (read ts) _ e (λ x u ex er. first_sound (IsMoreExprs Body b h) (IsExprs Body b h) ts u x (λ ys w c. is_exprs (sound ts x u ex) c) xs rest (added_sound (x ∷ []) u xs rest er))

an_expr : {Body : ℕ → Rule BodyRange} {b : Bool} {h : ℕ} {ts rest : List Terminal} {x : Expr} → IsOptional Body b h ts (Some x) rest → IsExpr Body b h ts x rest
an_expr (optional_some d) = d

-- the posts above their parts
module _ (Body : ℕ → Rule BodyRange) (h : ℕ) (l : Parts) (s : SoundParts Body l (suc h)) where
  call_end_sound : (p : Post) (ts v : List Terminal) → ((y rest : List Terminal) → MayTake kind.Comma (past kind.Ellipsis v) y → Takes kind.RightParen y rest → IsPost Body (suc h) ts p rest)
      → (q : Post) (rest : List Terminal) → call_end p v ≡ Some (q, rest) → IsPost Body (suc h) ts q rest
  unfolding call_end
  call_end_sound p ts v made q rest e = closed (IsPost Body (suc h)) kind.RightParen ts (past kind.Comma (past kind.Ellipsis v)) (λ w b. made (past kind.Comma (past kind.Ellipsis v)) w (pasts kind.Comma (past kind.Ellipsis v)) b) e

  call_sound : (ts u : List Terminal) → Takes kind.LeftParen ts u → (p : Post) (rest : List Terminal) → call l u ≡ Some (p, rest) → IsPost Body (suc h) ts p rest
  unfolding call
  call_sound ts u k p rest e = branch (begins kind.RightParen u) e
      (λ c r. same (IsPost Body (suc h)) ts (post_call_none k (taken kind.RightParen u c)) r)
      (λ c e. branch (begins_receive u) e
      (λ c e. with_bind (l.typ (drop 2 u)) _ e (λ t v et e. with_bind (more_exprs l.expr [] v) _ e (λ xs w ex ec. let a = receive_taken u c in
      call_end_sound (post.CallReceiveChan t xs (begins kind.Ellipsis w)) ts w (λ y z m o. post_call_receive k a.0 a.1 (s.typ (drop 2 u) t v et) (more_exprs_sound Body true h l.expr s.expr v xs w ex) (marks kind.Ellipsis w) m o) p rest ec)))
      (λ c e. with_bind (exprs l.expr u) _ e (λ xs w ex ec. call_end_sound (post.Call xs (begins kind.Ellipsis w)) ts w (λ y z m o. post_call k (exprs_sound Body true h l.expr s.expr u xs w ex) (marks kind.Ellipsis w) m o) p rest ec)))

  bound_sound : Sound (IsOptional Body true h) (bound l)
  unfolding bound
  bound_sound ts x rest e = branch (begins kind.Colon ts) e (λ c r. same (IsOptional Body true h) ts optional_none r)
      (λ c e. branch (begins kind.RightBracket ts) e (λ c r. same (IsOptional Body true h) ts optional_none r)
      (λ c e. with_bind (l.expr ts) _ e (λ y u ey r. same (IsOptional Body true h) ts (optional_some (s.expr ts y u ey)) r)))

  index_alone : (ts u v : List Terminal) → Takes kind.LeftBracket ts u → (low : Option Expr) → IsOptional Body true h u low v → (p : Post) (rest : List Terminal) → index_of low v ≡ Some (p, rest) → IsPost Body (suc h) ts p rest
  index_alone ts u v k None d p rest e = absurd (cc)
  index_alone ts u v k (Some x) d p rest e = closed (IsPost Body (suc h)) kind.RightBracket ts v (λ w c. post_index k (an_expr d) c) e

  full_slice_sound : (ts u v w y z : List Terminal) → Takes kind.LeftBracket ts u → (low high : Option Expr) → IsOptional Body true h u low v → Takes kind.Colon v w → IsOptional Body true h w high y → Takes kind.Colon y z
      → (p : Post) (rest : List Terminal) → full_slice l low high z ≡ Some (p, rest) → IsPost Body (suc h) ts p rest
  full_slice_sound ts u v w y z k low None d c f g p rest e = absurd (cc)
  full_slice_sound ts u v w y z k low (Some high) d c f g p rest e = with_bind (l.expr z) _ e (λ m a em ec. closed (IsPost Body (suc h)) kind.RightBracket ts a (λ o b. post_full_slice k d c (an_expr f) g (s.expr z m a em) b) ec)

  slice_end_sound : (ts u v w y : List Terminal) → Takes kind.LeftBracket ts u → (low high : Option Expr) → IsOptional Body true h u low v → Takes kind.Colon v w → IsOptional Body true h w high y
      → (p : Post) (rest : List Terminal) → slice_end l low high y ≡ Some (p, rest) → IsPost Body (suc h) ts p rest
  unfolding slice_end
  slice_end_sound ts u v w y k low high d c f p rest e = branch (begins kind.Colon y) e
      (λ g e. full_slice_sound ts u v w y (drop 1 y) k low high d c f (taken kind.Colon y g) p rest e)
      (λ g e. closed (IsPost Body (suc h)) kind.RightBracket ts y (λ o b. post_slice k d c f b) e)

  index_sound : (ts u : List Terminal) → Takes kind.LeftBracket ts u → (p : Post) (rest : List Terminal) → index l u ≡ Some (p, rest) → IsPost Body (suc h) ts p rest
  unfolding index
  index_sound ts u k p rest e = with_bind (bound l u) _ e (λ low v el e. branch (begins kind.Colon v) e
      (λ c e. with_bind (bound l (drop 1 v)) _ e (λ high y eh es. slice_end_sound ts u v (drop 1 v) y k low high (bound_sound u low v el) (taken kind.Colon v c) (bound_sound (drop 1 v) high y eh) p rest es))
      (λ c e. index_alone ts u v k low (bound_sound u low v el) p rest e))

  assertion_sound : (ts u : List Terminal) → Takes kind.Period ts u → (p : Post) (rest : List Terminal) → bind (expect kind.LeftParen u) (λ _ v. bind (l.typ v) (λ t. close kind.RightParen (post.TypeAssertion t))) ≡ Some (p, rest) → IsPost Body (suc h) ts p rest
  assertion_sound ts u k p rest e = with_bind (expect kind.LeftParen u) _ e (λ _ v ev e. with_bind (l.typ v) _ e (λ t w et ec. closed (IsPost Body (suc h)) kind.RightParen ts w (λ y c. post_assertion k (expected kind.LeftParen u ev) (s.typ v t w et) c) ec))

-- where a post nests
nested_sound : (Body : ℕ → Rule BodyRange) (l : Parts) (n : ℕ) → SoundParts Body l n → (found : Found Post) (ts : List Terminal)
    → ((h : ℕ) → SoundParts Body l (suc h) → (p : Post) (rest : List Terminal) → found ≡ Some (p, rest) → IsPost Body (suc h) ts p rest)
    → (p : Post) (rest : List Terminal) → nest l.deep found ≡ Some (p, rest) → IsPost Body n ts p rest
nested_sound Body l zero s found ts sound p rest e = branch l.deep e (λ c q. absurd (no_level (s.deep c))) (λ c q. absurd (cc))
nested_sound Body l (suc h) s found ts sound p rest e = branch l.deep e (λ c q. sound h s p rest q) (λ c q. absurd (cc))

module _ (Body : ℕ → Rule BodyRange) (l : Parts) (n : ℕ) (s : SoundParts Body l n) where
  selector_sound : (ts u : List Terminal) → Takes kind.Period ts u → (p : Post) (rest : List Terminal) → selector l u ≡ Some (p, rest) → IsPost Body n ts p rest
  unfolding selector
  selector_sound ts u k p rest e = branch (begins_name u) e
      (λ c e. with_bind (name u) _ e (λ m v em r. same (IsPost Body n) ts (post_selector k (named_by u em)) r))
      (λ c e. nested_sound Body l n s (bind (expect kind.LeftParen u) (λ _ v. bind (l.typ v) (λ t. close kind.RightParen (post.TypeAssertion t)))) ts (λ h z. assertion_sound Body h l z ts u k) p rest e)

  pub post_item_sound : SoundTurn (IsPost Body n) (post_item l)
  unfolding post_item
  post_item_sound ts p rest e = branch (begins kind.LeftParen ts) e
      (λ c e. nested_sound Body l n s (call l (drop 1 ts)) ts (λ h z. call_sound Body h l z ts (drop 1 ts) (taken kind.LeftParen ts c)) p rest (after_more (nest l.deep (call l (drop 1 ts))) e))
      (λ c e. branch (begins kind.LeftBracket ts) e
      (λ c e. nested_sound Body l n s (index l (drop 1 ts)) ts (λ h z. index_sound Body h l z ts (drop 1 ts) (taken kind.LeftBracket ts c)) p rest (after_more (nest l.deep (index l (drop 1 ts))) e))
      (λ c e. branch (begins_type_switch ts) e (λ c e. absurd (cc))
      (λ c e. branch (begins kind.Period ts) e
      (λ c e. selector_sound ts (drop 1 ts) (taken kind.Period ts c) p rest (after_more (selector l (drop 1 ts)) e))
      (λ c e. absurd (cc)))))

  pub primary_sound : (b : Bool) → Sound (IsPrimary Body b n) (primary_expr b l)
  unfolding primary_expr
  primary_sound b ts x rest e = with_bind (operand b l ts) _ e (λ y u ey e. with_bind (run (step_of (post_item l)) [] u) _ e (λ ps v ep r. same (IsPrimary Body b n) ts (primary (operand_sound Body l n s b ts y u ey)
      (from_none (IsPosts Body n) u ps v (run_sound (IsPost Body n) (IsPosts Body n) (λ w. posts_none) (λ w v y x xs k c. posts_more k c) (post_item l) post_item_sound [] u ps v ep))) r))
