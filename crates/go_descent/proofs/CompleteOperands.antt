-- Each operand is found.
use Rattle.std.proofs.Common.{◌≡◌, ℕ, List, ◌∷◌, drop, Bool, true, false, if◌then◌else◌, Some, refl, ◌∙◌}
use Rattle.go_syntax.specs.declared.expression.Expr.{Expr}
use Rattle.go_syntax.specs.declared.expression.Expr.TheVariants as expr
use Rattle.go_syntax.specs.declared.name.Name.{Name}
use Rattle.go_syntax.specs.declared.body.BodyRange.{BodyRange}
use Rattle.go_syntax.specs.declared.types.«Type».{«Type» as Typ}
use Rattle.go_syntax.specs.declared.token.TokenKind.TheVariants as kind
use Rattle.go_syntax.specs.grammar.Grammar as grammar
use Rattle.go_syntax.specs.grammar.Symbols.{Rule, takes, takes_name, takes_literal, begins, begins_selector}
use Rattle.go_syntax.specs.grammar.Terminals.{Terminal, Identifier}
use Rattle.go_cursor.specs.Reading.{bind, expect, close}
use Rattle.go_descent.specs.Rules.{Parts, named_composite, name_operand, func_operand, composite_operand, array_operand, paren_operand, other_operand, sign_operand, operand, chan_type, interface_type}
use Rattle.go_descent.proofs.Begins.{read, if_so, if_not}
use Rattle.go_descent.proofs.BeginsExpr.{expr_begins, expr_not_ellipsis, expr_not_receive, literal_begins}
use Rattle.go_descent.proofs.CompleteNames.{type_name_read}
use Rattle.go_descent.proofs.CompleteParts.{CompleteParts, KnownBodies, over_right_paren}
use Rattle.go_descent.proofs.CompleteTypes.{composite_read, other_read}

-- no composite literal begins with the name before these terminals
abbrev pub NoComposite : Bool → List Terminal → Type 0
NoComposite b ts = b ≡ true → (if begins_selector ts then begins kind.LeftBrace (drop 2 ts) else begins kind.LeftBrace ts) ≡ false

name_read : (b : Bool) (l : Parts) (n : Name) (ts : List Terminal) → NoComposite b ts → name_operand b l (Identifier n ∷ ts) ≡ Some (expr.Name n, ts)
unfolding name_operand
name_read true l n ts e = if_not _ _ _ (e refl) refl
name_read false l n ts e = refl

module _ {Body : ℕ → Rule BodyRange} where
  -- where an operand is a slice, an array, a map or a struct, or a literal of one
  sign_composite : (b : Bool) (l : Parts) {h : ℕ} {ts rest : List Terminal} {t : Typ} → grammar.IsCompositeType Body h ts t rest → operand b l ts ≡ composite_operand l ts
  unfolding operand sign_operand
  sign_composite b l (grammar.type_slice (takes at) (takes a) d) = refl
  sign_composite b l (grammar.type_array {u = u} (takes at) x c d) = if_not _ _ _ (expr_not_ellipsis u (expr_begins x)) refl
  sign_composite b l (grammar.type_map (takes at) a k c d) = refl
  sign_composite b l (grammar.type_struct_empty (takes at) a c) = refl
  sign_composite b l (grammar.type_struct (takes at) a d c) = refl

  sign_other : (b : Bool) (l : Parts) {h : ℕ} {ts rest : List Terminal} {t : Typ} → grammar.IsOtherType Body h ts t rest
      → operand b l ts ≡ bind (if begins kind.ChanWord ts then chan_type l (drop 1 ts) else interface_type l (drop 1 ts)) (λ t u. Some (expr.Type t, u))
  unfolding operand sign_operand other_operand
  sign_other b l (grammar.type_chan (takes at) e d) = refl
  sign_other b l (grammar.type_send (takes at) a d) = refl
  sign_other b l (grammar.type_interface_empty (takes at) a c) = refl
  sign_other b l (grammar.type_interface (takes at) a d c) = refl

module _ {Body : ℕ → Rule BodyRange} (known : KnownBodies Body) {l : Parts} where
  pub operand_read : {b : Bool} {n : ℕ} (p : CompleteParts Body l n) {ts rest : List Terminal} {x : Expr} → grammar.IsOperand Body b n ts x rest → NoComposite b rest → operand b l ts ≡ Some (x, rest)
  unfolding operand name_operand named_composite sign_operand func_operand composite_operand array_operand paren_operand expect close
  operand_read p (grammar.operand_literal (takes_literal place)) o = refl
  operand_read {b} p {rest = rest} (grammar.operand_name {n = n} takes_name) o = name_read b l n rest o
  operand_read p (grammar.operand_func (takes at) s d) o = read _ _ (p.reads_signature _ _ _ s) (if_so _ _ _ (known.body_begins _ _ _ _ d) (read _ _ (p.reads_body _ _ _ d) refl))
  operand_read p (grammar.operand_named_composite (grammar.type_name_alone takes_name e) d) o =
      if_so _ _ _ (if_not _ _ _ e (literal_begins d)) (read _ _ (type_name_read (grammar.type_name_alone takes_name e)) (read _ _ (p.reads_literal _ _ _ d) refl))
  operand_read p (grammar.operand_named_composite (grammar.type_name_qualified takes_name (takes at) takes_name) d) o =
      if_so _ _ _ (literal_begins d) (read _ _ (type_name_read (grammar.type_name_qualified takes_name (takes at) takes_name)) (read _ _ (p.reads_literal _ _ _ d) refl))
  operand_read {b} p (grammar.operand_composite t d) o =
      sign_composite b l t ∙ if_so _ _ _ (known.sees_composite _ _ _ _ t ∙ literal_begins d) (read _ _ (p.reads_composite _ _ _ t) (read _ _ (p.reads_literal _ _ _ d) refl))
  operand_read p (grammar.operand_composite_array (takes at) (takes a) (takes c) t d) o = read _ _ (p.reads_typ _ _ _ t) (read _ _ (p.reads_literal _ _ _ d) refl)
  operand_read {b} p (grammar.operand_composite_type t e) o =
      sign_composite b l t ∙ if_not _ _ _ (known.sees_composite _ _ _ _ t ∙ e) (read _ _ (composite_read known.body_shorter p t) (if_not _ _ _ e refl))
  operand_read p (grammar.operand_func_type (takes at) s e) o = read _ _ (p.reads_signature _ _ _ s) (if_not _ _ _ e refl)
  operand_read {b} p (grammar.operand_other_type t) o = sign_other b l t ∙ read _ _ (other_read known.body_shorter p t) refl
  operand_read p (grammar.operand_paren {u = u} {v = v} (takes at) d (takes a)) o =
      if_not _ _ _ (expr_not_receive u (expr_begins d)) (read _ _ (p.reads_expr _ _ _ d (over_right_paren true a _)) refl)
  operand_read p (grammar.operand_paren_receive (takes at) (takes a) (takes c) t (takes e)) o = read _ _ (p.reads_typ _ _ _ t) refl
