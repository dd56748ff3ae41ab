-- What the readers of literals and operands find is in the grammar.
use Rattle.std.proofs.Common.{◌≡◌, ℕ, zero, suc, List, [], ◌∷◌, drop, Bool, true, false, Option, Some, None, refl}
use Rattle.go_syntax.specs.declared.expression.Element.{Element}
use Rattle.go_syntax.specs.declared.expression.Expr.{Expr}
use Rattle.go_syntax.specs.declared.expression.Expr.TheVariants as expr
use Rattle.go_syntax.specs.declared.expression.Literal.{Literal}
use Rattle.go_syntax.specs.declared.body.BodyRange.{BodyRange}
use Rattle.go_syntax.specs.declared.types.«Type».{«Type» as Typ}
use Rattle.go_syntax.specs.declared.types.«Type».TheVariants as type
use Rattle.go_syntax.specs.declared.token.TokenKind.TheVariants as kind
use Rattle.go_syntax.specs.grammar.Grammar.{IsType, IsCompositeType, IsOtherType, IsSignature, IsExpr, IsOperand, operand_literal, operand_name, operand_func, operand_named_composite, operand_composite, operand_composite_array, operand_composite_type, operand_func_type, operand_other_type, operand_paren, operand_paren_receive, IsLiteralValue, literal_none, literal_some, IsMoreElements, elements_none, elements_more, IsElement, element_alone, element_keyed, IsElementValue, value_expr, value_literal}
use Rattle.go_syntax.specs.grammar.Symbols.{Rule, Takes, MayTake, begins}
use Rattle.go_syntax.specs.grammar.Terminals.{Terminal}
use Rattle.go_cursor.specs.Names.{type_name}
use Rattle.go_cursor.specs.LookAheads.{names_composite, begins_receive}
use Rattle.go_cursor.specs.Reading.{Reader, bind, expect, past, name, begins_name, literal_at}
use Rattle.go_descent.specs.Rules.{Parts, composite_type, chan_type, interface_type, element_value, element_of, element_item, elements, literal_value_of, named_composite, name_operand, func_operand, composite_operand, array_operand, paren_operand, other_operand, sign_operand, operand_at, operand}
use Rattle.go_cursor.specs.Skipping.{is_composite}
use Rattle.go_descent.proofs.SoundParts.{SoundParts, no_level}
use Rattle.go_descent.proofs.SoundTypes.{composite_type_sound, chan_sound, interface_sound}
use Rattle.go_cursor.proofs.Steps.{Below, Sound, above, with_bind, branch, same, taken, expected, closed, pasts, named_by, run_sound, first_sound, AfterComma, comma_item_sound, type_name_sound, receive_taken, literal_taken}

-- elements, and the braces above them
module _ (Body : ℕ → Rule BodyRange) (h : ℕ) (l : Parts) (s : SoundParts Body l (suc h)) where
  element_value_sound : Sound (IsElementValue Body h) (element_value l)
  unfolding element_value
  element_value_sound ts x rest e = branch (begins kind.LeftBrace ts) e
      (λ c e. with_bind (l.literal_value ts) _ e (λ es u el r. same (IsElementValue Body h) ts (value_literal (s.literal_value ts es u el)) r))
      (λ c e. with_bind (l.expr ts) _ e (λ y u ey r. same (IsElementValue Body h) ts (value_expr (s.expr ts y u ey)) r))

  pub element_sound : Sound (IsElement Body h) (element_of l)
  unfolding element_of
  element_sound ts x rest e = with_bind (element_value l ts) _ e (λ k u ek e. branch (begins kind.Colon u) e
      (λ c e. with_bind (element_value l (drop 1 u)) _ e (λ v w ev r. same (IsElement Body h) ts (element_keyed (element_value_sound ts k u ek) (taken kind.Colon u c) (element_value_sound (drop 1 u) v w ev)) r))
      (λ c r. same (IsElement Body h) ts (element_alone (element_value_sound ts k u ek)) r))

  elements_sound : (ts u : List Terminal) → Takes kind.LeftBrace ts u → (es : List Element) (rest : List Terminal) → elements l u ≡ Some (es, rest)
      → (w y : List Terminal) → MayTake kind.Comma rest w → Takes kind.RightBrace w y → IsLiteralValue Body (suc h) ts es y
  unfolding elements
  elements_sound ts u k es rest e = with_bind (element_of l u) _ e (λ x v ex er. first_sound (IsMoreElements Body h)
      (λ _ es v. (w y : List Terminal) → MayTake kind.Comma v w → Takes kind.RightBrace w y → IsLiteralValue Body (suc h) ts es y) u v x (λ xs z c w y m b. literal_some k (element_sound u x v ex) c m b) es rest
      (run_sound (AfterComma (IsElement Body h)) (IsMoreElements Body h) (λ w. elements_none) (λ w v y x xs k c. elements_more k.0 k.1 c) (element_item l) (comma_item_sound (IsElement Body h) (element_of l) element_sound) (x ∷ []) v es rest er))

-- a composite literal's braces
pub literal_value_sound : (Body : ℕ → Rule BodyRange) (l : Parts) (n : ℕ) → SoundParts Body l n → Sound (IsLiteralValue Body n) (literal_value_of l)
unfolding literal_value_of
literal_value_sound Body l zero s ts es rest e = branch l.deep e (λ c q. absurd (no_level (s.deep c))) (λ c q. absurd (cc))
literal_value_sound Body l (suc h) s ts es rest e = branch l.deep e
    (λ c e. with_bind (expect kind.LeftBrace ts) _ e (λ _ u eo e. branch (begins kind.RightBrace u) e
    (λ c r. same (IsLiteralValue Body (suc h)) ts (literal_none (expected kind.LeftBrace ts eo) (taken kind.RightBrace u c)) r)
    (λ c e. with_bind (elements l u) _ e (λ xs v ex ec. closed (IsLiteralValue Body (suc h)) kind.RightBrace ts (past kind.Comma v)
    (λ y b. elements_sound Body h l s ts u (expected kind.LeftBrace ts eo) xs v ex (past kind.Comma v) y (pasts kind.Comma v) b) ec))))
    (λ c q. absurd (cc))

module _ (Body : ℕ → Rule BodyRange) (l : Parts) (n : ℕ) (s : SoundParts Body l n) where
  name_alone : (b : Bool) (ts : List Terminal) (x : Expr) (rest : List Terminal) → bind (name ts) (λ n u. Some (expr.Name n, u)) ≡ Some (x, rest) → IsOperand Body b n ts x rest
  name_alone b ts x rest e = with_bind (name ts) _ e (λ m u em r. same (IsOperand Body b n) ts (operand_name (named_by ts em)) r)

  name_operand_sound : (b : Bool) → Sound (IsOperand Body b n) (name_operand b l)
  unfolding name_operand named_composite
  name_operand_sound true ts x rest e = branch (names_composite ts) e
      (λ c e. with_bind (type_name ts) _ e (λ q u eq e. with_bind (l.literal_value u) _ e (λ es v el r. same (IsOperand Body true n) ts
      (above (IsLiteralValue Body) (λ m. IsOperand Body true m ts (expr.Composite (type.Named q) es) v) n (s.literal_value u es v el) (λ h d. operand_named_composite (type_name_sound ts q u eq) d)) r)))
      (λ c e. name_alone true ts x rest e)
  name_operand_sound false ts x rest e = name_alone false ts x rest e

  func_operand_sound : (b : Bool) (ts u : List Terminal) → Takes kind.FuncWord ts u → (x : Expr) (rest : List Terminal) → func_operand l u ≡ Some (x, rest) → IsOperand Body b n ts x rest
  unfolding func_operand
  func_operand_sound b ts u k x rest e = with_bind (l.signature u) _ e (λ g v eg e. branch (begins kind.LeftBrace v) e
      (λ c e. with_bind (l.body v) _ e (λ o w eo r. same (IsOperand Body b n) ts
      (above (IsSignature Body) (λ m. Below Body m v o w → IsOperand Body b m ts (expr.FuncLit g o) w) n (s.signature u g v eg) (λ h d f. operand_func k d f) (s.body v o w eo)) r))
      (λ c r. same (IsOperand Body b n) ts (above (IsSignature Body) (λ m. IsOperand Body b m ts (expr.Type (type.Func g)) v) n (s.signature u g v eg) (λ h d. operand_func_type k d c)) r))

  composite_operand_sound : (b : Bool) → Sound (IsOperand Body b n) (composite_operand l)
  unfolding composite_operand
  composite_operand_sound b ts x rest e = branch (is_composite ts) e
      (λ c e. with_bind (l.composite_type ts) _ e (λ t u et e. with_bind (l.literal_value u) _ e (λ es v el r. same (IsOperand Body b n) ts
      (above (IsCompositeType Body) (λ m. Below (IsLiteralValue Body) m u es v → IsOperand Body b m ts (expr.Composite t es) v) n (s.composite_type ts t u et) (λ h d f. operand_composite d f) (s.literal_value u es v el)) r)))
      (λ c e. with_bind (composite_type l ts) _ e (λ t u et e. branch (begins kind.LeftBrace u) e (λ c r. absurd (cc)) (λ c r. same (IsOperand Body b n) ts (operand_composite_type (composite_type_sound Body l n s ts t u et) c) r)))

  array_operand_sound : (b : Bool) (ts u : List Terminal) → Takes kind.LeftBracket ts u → (x : Expr) (rest : List Terminal) → array_operand l u ≡ Some (x, rest) → IsOperand Body b n ts x rest
  unfolding array_operand
  array_operand_sound b ts u k x rest e = with_bind (expect kind.Ellipsis u) _ e (λ _ v ev e. with_bind (expect kind.RightBracket v) _ e (λ _ w ew e. with_bind (l.typ w) _ e (λ t y et e. with_bind (l.literal_value y) _ e (λ es z el r. same (IsOperand Body b n) ts
      (above (IsType Body) (λ m. Below (IsLiteralValue Body) m y es z → IsOperand Body b m ts (expr.CompositeArray t es) z) n (s.typ w t y et) (λ h d f. operand_composite_array k (expected kind.Ellipsis u ev) (expected kind.RightBracket v ew) d f) (s.literal_value y es z el)) r))))

  paren_operand_sound : (b : Bool) (ts u : List Terminal) → Takes kind.LeftParen ts u → (x : Expr) (rest : List Terminal) → paren_operand l u ≡ Some (x, rest) → IsOperand Body b n ts x rest
  unfolding paren_operand
  paren_operand_sound b ts u k x rest e = branch (begins_receive u) e
      (λ c e. with_bind (l.typ (drop 2 u)) _ e (λ t v et ec. closed (IsOperand Body b n) kind.RightParen ts v (λ w o. let a = receive_taken u c in
      above (IsType Body) (λ m. IsOperand Body b m ts (expr.ParenReceiveChan t) w) n (s.typ (drop 2 u) t v et) (λ h d. operand_paren_receive k a.0 a.1 d o)) ec))
      (λ c e. with_bind (l.expr u) _ e (λ y v ey ec. closed (IsOperand Body b n) kind.RightParen ts v (λ w o.
      above (IsExpr Body true) (λ m. IsOperand Body b m ts (expr.Paren y) w) n (s.expr u y v ey) (λ h d. operand_paren k d o)) ec))

  other_operand_sound : (b : Bool) (ts u : List Terminal) (typ : Reader Typ) → ((t : Typ) (rest : List Terminal) → typ u ≡ Some (t, rest) → IsOtherType Body n ts t rest) → (x : Expr) (rest : List Terminal) → other_operand typ u ≡ Some (x, rest) → IsOperand Body b n ts x rest
  unfolding other_operand
  other_operand_sound b ts u typ sound x rest e = with_bind (typ u) _ e (λ t v et r. same (IsOperand Body b n) ts (operand_other_type (sound t v et)) r)

  sign_operand_sound : (b : Bool) → Sound (IsOperand Body b n) (sign_operand l)
  unfolding sign_operand
  sign_operand_sound b ts x rest e = branch (begins kind.LeftParen ts) e
      (λ c e. paren_operand_sound b ts (drop 1 ts) (taken kind.LeftParen ts c) x rest e)
      (λ c e. branch (begins kind.FuncWord ts) e
      (λ c e. func_operand_sound b ts (drop 1 ts) (taken kind.FuncWord ts c) x rest e)
      (λ c e. branch (begins kind.ChanWord ts) e
      (λ c e. other_operand_sound b ts (drop 1 ts) (chan_type l) (chan_sound Body l n s ts (drop 1 ts) (taken kind.ChanWord ts c)) x rest e)
      (λ c e. branch (begins kind.InterfaceWord ts) e
      (λ c e. other_operand_sound b ts (drop 1 ts) (interface_type l) (interface_sound Body l n s ts (drop 1 ts) (taken kind.InterfaceWord ts c)) x rest e)
      (λ c e. branch (begins kind.LeftBracket ts) e
      (λ c e. branch (begins kind.Ellipsis (drop 1 ts)) e (λ a e. array_operand_sound b ts (drop 1 ts) (taken kind.LeftBracket ts c) x rest e) (λ a e. composite_operand_sound b ts x rest e))
      (λ c e. composite_operand_sound b ts x rest e)))))

  operand_by : (b : Bool) (ts : List Terminal) (o : Option Literal) → literal_at ts ≡ o → (x : Expr) (rest : List Terminal) → operand_at b l o ts ≡ Some (x, rest) → IsOperand Body b n ts x rest
  operand_by b ts None is x rest e = branch (begins_name ts) e (λ c e. name_operand_sound b ts x rest e) (λ c e. sign_operand_sound b ts x rest e)
  operand_by b ts (Some y) is x rest e = same (IsOperand Body b n) ts (operand_literal (literal_taken ts y is)) e

  pub operand_sound : (b : Bool) → Sound (IsOperand Body b n) (operand b l)
  unfolding operand
  operand_sound b ts x rest e = operand_by b ts (literal_at ts) refl x rest e
