-- With what terminals an expression begins.
use Rattle.std.proofs.Common.{◌≡◌, ℕ, List, [], ◌∷◌, Bool, true, false, not, Some, None, refl, ap}
use Rattle.go_syntax.specs.declared.expression.Element.{Element}
use Rattle.go_syntax.specs.declared.expression.ElementValue.{ElementValue}
use Rattle.go_syntax.specs.declared.expression.Expr.{Expr}
use Rattle.go_syntax.specs.declared.expression.Literal.{Literal}
use Rattle.go_syntax.specs.declared.name.Name.{Name}
use Rattle.go_cursor.specs.go_base.declared.operator.PrefixOperator.{PrefixOperator}
use Rattle.go_syntax.specs.declared.body.BodyRange.{BodyRange}
use Rattle.go_syntax.specs.declared.types.«Type».{«Type» as Typ}
use Rattle.go_syntax.specs.declared.token.TokenKind.{TokenKind}
use Rattle.go_syntax.specs.declared.token.TokenKind.TheVariants as kind
use Rattle.go_syntax.specs.grammar.Grammar as grammar
use Rattle.go_syntax.specs.grammar.Grammar.{prefix_operator, is_receive_type}
use Rattle.go_syntax.specs.grammar.Symbols.{Rule, takes, takes_name, takes_literal, begins, closes, sign_at}
use Rattle.go_syntax.specs.grammar.Terminals.{Terminal, Sign, Identifier, Basic, Extent}
use Rattle.go_cursor.specs.LookAheads.{begins_receive}
use Rattle.go_descent.specs.Rules.{operator_at}

-- the first terminal of an operand
pub data BeginsOperand : List Terminal → Type 0 where
  with_literal : {ts : List Terminal} {l : Literal} (place : ℕ) → BeginsOperand (Basic l place ∷ ts)
  with_name : {ts : List Terminal} {n : Name} → BeginsOperand (Identifier n ∷ ts)
  with_paren : {ts : List Terminal} (at : Extent) → BeginsOperand (Sign kind.LeftParen at ∷ ts)
  with_func : {ts : List Terminal} (at : Extent) → BeginsOperand (Sign kind.FuncWord at ∷ ts)
  with_bracket : {ts : List Terminal} (at : Extent) → BeginsOperand (Sign kind.LeftBracket at ∷ ts)
  with_map : {ts : List Terminal} (at : Extent) → BeginsOperand (Sign kind.MapWord at ∷ ts)
  with_struct : {ts : List Terminal} (at : Extent) → BeginsOperand (Sign kind.StructWord at ∷ ts)
  with_chan : {ts : List Terminal} (at : Extent) → BeginsOperand (Sign kind.ChanWord at ∷ ts)
  with_interface : {ts : List Terminal} (at : Extent) → BeginsOperand (Sign kind.InterfaceWord at ∷ ts)

-- whether a keyword or an operator but `<-` can begin an expression
abbrev pub opens_expr : TokenKind → Bool
opens_expr kind.LeftParen = true
opens_expr kind.FuncWord = true
opens_expr kind.LeftBracket = true
opens_expr kind.MapWord = true
opens_expr kind.StructWord = true
opens_expr kind.ChanWord = true
opens_expr kind.InterfaceWord = true
opens_expr kind.Add = true
opens_expr kind.Subtract = true
opens_expr kind.Not = true
opens_expr kind.Xor = true
opens_expr kind.Multiply = true
opens_expr kind.And = true
opens_expr _ = false

-- whether an expression can begin here
abbrev pub begins_expr : List Terminal → Bool
begins_expr (Identifier n ∷ ts) = true
begins_expr (Basic l place ∷ ts) = true
begins_expr (Sign kind.Arrow at ∷ ts) = not (begins kind.ChanWord ts)
begins_expr (Sign k at ∷ ts) = opens_expr k
begins_expr _ = false

-- an expression, or the braces of a literal
abbrev pub begins_value : List Terminal → Bool
begins_value (Sign kind.LeftBrace at ∷ ts) = true
begins_value ts = begins_expr ts

pub operand_no_prefix : {ts : List Terminal} → BeginsOperand ts → operator_at prefix_operator (sign_at ts) ≡ None
operand_no_prefix (with_literal place) = refl
operand_no_prefix with_name = refl
operand_no_prefix (with_paren at) = refl
operand_no_prefix (with_func at) = refl
operand_no_prefix (with_bracket at) = refl
operand_no_prefix (with_map at) = refl
operand_no_prefix (with_struct at) = refl
operand_no_prefix (with_chan at) = refl
operand_no_prefix (with_interface at) = refl

pub operand_no_receive : {ts : List Terminal} → BeginsOperand ts → begins_receive ts ≡ false
operand_no_receive (with_literal place) = refl
operand_no_receive with_name = refl
operand_no_receive (with_paren at) = refl
operand_no_receive (with_func at) = refl
operand_no_receive (with_bracket at) = refl
operand_no_receive (with_map at) = refl
operand_no_receive (with_struct at) = refl
operand_no_receive (with_chan at) = refl
operand_no_receive (with_interface at) = refl

pub operand_opens : {ts : List Terminal} → BeginsOperand ts → begins_expr ts ≡ true
operand_opens (with_literal place) = refl
operand_opens with_name = refl
operand_opens (with_paren at) = refl
operand_opens (with_func at) = refl
operand_opens (with_bracket at) = refl
operand_opens (with_map at) = refl
operand_opens (with_struct at) = refl
operand_opens (with_chan at) = refl
operand_opens (with_interface at) = refl

-- a prefix operator that doesn't begin a type
pub prefix_no_receive : (k : TokenKind) (at : Extent) (u : List Terminal) → is_receive_type k u ≡ false → begins_receive (Sign k at ∷ u) ≡ false
prefix_no_receive kind.Arrow at u e = e
prefix_no_receive _ at u e = refl

pub prefix_opens : (k : TokenKind) (at : Extent) (u : List Terminal) {op : PrefixOperator} → prefix_operator k ≡ Some op → is_receive_type k u ≡ false → begins_expr (Sign k at ∷ u) ≡ true
prefix_opens kind.Add at u e f = refl
prefix_opens kind.Subtract at u e f = refl
prefix_opens kind.Not at u e f = refl
prefix_opens kind.Xor at u e f = refl
prefix_opens kind.Multiply at u e f = refl
prefix_opens kind.And at u e f = refl
prefix_opens kind.Arrow at u e f = ap not f
prefix_opens _ at u e f = absurd (cc)

module _ {Body : ℕ → Rule BodyRange} where
  composite_operand_begins : {h : ℕ} {ts rest : List Terminal} {t : Typ} → grammar.IsCompositeType Body h ts t rest → BeginsOperand ts
  composite_operand_begins (grammar.type_slice (takes at) b d) = with_bracket at
  composite_operand_begins (grammar.type_array (takes at) x b d) = with_bracket at
  composite_operand_begins (grammar.type_map (takes at) b k c d) = with_map at
  composite_operand_begins (grammar.type_struct_empty (takes at) b c) = with_struct at
  composite_operand_begins (grammar.type_struct (takes at) b d c) = with_struct at

  other_operand_begins : {h : ℕ} {ts rest : List Terminal} {t : Typ} → grammar.IsOtherType Body h ts t rest → BeginsOperand ts
  other_operand_begins (grammar.type_chan (takes at) e d) = with_chan at
  other_operand_begins (grammar.type_send (takes at) b d) = with_chan at
  other_operand_begins (grammar.type_interface_empty (takes at) b c) = with_interface at
  other_operand_begins (grammar.type_interface (takes at) b d c) = with_interface at

  pub operand_begins : {b : Bool} {h : ℕ} {ts rest : List Terminal} {x : Expr} → grammar.IsOperand Body b h ts x rest → BeginsOperand ts
  operand_begins (grammar.operand_literal (takes_literal place)) = with_literal place
  operand_begins (grammar.operand_name takes_name) = with_name
  operand_begins (grammar.operand_func (takes at) s d) = with_func at
  operand_begins (grammar.operand_named_composite (grammar.type_name_alone takes_name e) d) = with_name
  operand_begins (grammar.operand_named_composite (grammar.type_name_qualified takes_name p n) d) = with_name
  operand_begins (grammar.operand_composite t d) = composite_operand_begins t
  operand_begins (grammar.operand_composite_array (takes at) b c d e) = with_bracket at
  operand_begins (grammar.operand_composite_type t e) = composite_operand_begins t
  operand_begins (grammar.operand_func_type (takes at) s e) = with_func at
  operand_begins (grammar.operand_other_type t) = other_operand_begins t
  operand_begins (grammar.operand_paren (takes at) d c) = with_paren at
  operand_begins (grammar.operand_paren_receive (takes at) a c d e) = with_paren at

  pub primary_begins : {b : Bool} {h : ℕ} {ts rest : List Terminal} {x : Expr} → grammar.IsPrimary Body b h ts x rest → BeginsOperand ts
  primary_begins (grammar.primary d ps) = operand_begins d

  pub unary_begins : {b : Bool} {h : ℕ} {ts rest : List Terminal} {x : Expr} → grammar.IsUnary Body b h ts x rest → begins_expr ts ≡ true
  unary_begins (grammar.unary_prefix {u = u} {k = k} (takes at) e f d) = prefix_opens k at u e f
  unary_begins (grammar.unary_primary d) = operand_opens (primary_begins d)

  pub expr_begins : {b : Bool} {h : ℕ} {ts rest : List Terminal} {x : Expr} → grammar.IsExpr Body b h ts x rest → begins_expr ts ≡ true
  expr_begins (grammar.expr_or (grammar.expr_and (grammar.expr_compare (grammar.expr_sum (grammar.expr_product d m) s) c) a) o) = unary_begins d

  pub literal_begins : {h : ℕ} {ts rest : List Terminal} {es : List Element} → grammar.IsLiteralValue Body h ts es rest → begins kind.LeftBrace ts ≡ true
  literal_begins (grammar.literal_none (takes at) c) = refl
  literal_begins (grammar.literal_some (takes at) e m c d) = refl

-- what doesn't begin an expression
pub expr_not_right_paren : (ts : List Terminal) → begins_expr ts ≡ true → begins kind.RightParen ts ≡ false
expr_not_right_paren [] e = refl
expr_not_right_paren (Sign kind.RightParen at ∷ ts) e = absurd (cc)
expr_not_right_paren (_ ∷ ts) e = refl

pub expr_not_right_bracket : (ts : List Terminal) → begins_expr ts ≡ true → begins kind.RightBracket ts ≡ false
expr_not_right_bracket [] e = refl
expr_not_right_bracket (Sign kind.RightBracket at ∷ ts) e = absurd (cc)
expr_not_right_bracket (_ ∷ ts) e = refl

pub expr_not_colon : (ts : List Terminal) → begins_expr ts ≡ true → begins kind.Colon ts ≡ false
expr_not_colon [] e = refl
expr_not_colon (Sign kind.Colon at ∷ ts) e = absurd (cc)
expr_not_colon (_ ∷ ts) e = refl

pub expr_not_ellipsis : (ts : List Terminal) → begins_expr ts ≡ true → begins kind.Ellipsis ts ≡ false
expr_not_ellipsis [] e = refl
expr_not_ellipsis (Sign kind.Ellipsis at ∷ ts) e = absurd (cc)
expr_not_ellipsis (_ ∷ ts) e = refl

pub expr_not_left_brace : (ts : List Terminal) → begins_expr ts ≡ true → begins kind.LeftBrace ts ≡ false
expr_not_left_brace [] e = refl
expr_not_left_brace (Sign kind.LeftBrace at ∷ ts) e = absurd (cc)
expr_not_left_brace (_ ∷ ts) e = refl

pub expr_not_closing : (ts : List Terminal) → begins_expr ts ≡ true → closes ts ≡ false
expr_not_closing [] e = refl
expr_not_closing (Sign kind.RightParen at ∷ ts) e = absurd (cc)
expr_not_closing (Sign kind.RightBrace at ∷ ts) e = absurd (cc)
expr_not_closing (_ ∷ ts) e = refl

pub expr_not_receive : (ts : List Terminal) → begins_expr ts ≡ true → begins_receive ts ≡ false
expr_not_receive [] e = refl
expr_not_receive (Sign kind.Arrow at ∷ ts) e = turned (begins kind.ChanWord ts) e
  where
    turned : (b : Bool) → not b ≡ true → b ≡ false
    turned true e = absurd (cc)
    turned false e = refl
expr_not_receive (_ ∷ ts) e = refl

pub value_not_right_brace : (ts : List Terminal) → begins_value ts ≡ true → begins kind.RightBrace ts ≡ false
value_not_right_brace [] e = refl
value_not_right_brace (Sign kind.RightBrace at ∷ ts) e = absurd (cc)
value_not_right_brace (_ ∷ ts) e = refl

pub value_not_closing : (ts : List Terminal) → begins_value ts ≡ true → closes ts ≡ false
value_not_closing [] e = refl
value_not_closing (Sign kind.RightParen at ∷ ts) e = absurd (cc)
value_not_closing (Sign kind.RightBrace at ∷ ts) e = absurd (cc)
value_not_closing (_ ∷ ts) e = refl

pub expr_value : (ts : List Terminal) → begins_expr ts ≡ true → begins_value ts ≡ true
expr_value [] e = e
expr_value (Sign kind.LeftBrace at ∷ ts) e = refl
expr_value (_ ∷ ts) e = e

pub brace_value : (ts : List Terminal) → begins kind.LeftBrace ts ≡ true → begins_value ts ≡ true
brace_value [] e = absurd (cc)
brace_value (Sign kind.LeftBrace at ∷ ts) e = refl
brace_value (_ ∷ ts) e = absurd (cc)

module _ {Body : ℕ → Rule BodyRange} where
  pub value_begins : {h : ℕ} {ts rest : List Terminal} {v : ElementValue} → grammar.IsElementValue Body h ts v rest → begins_value ts ≡ true
  value_begins {ts = ts} (grammar.value_expr d) = expr_value ts (expr_begins d)
  value_begins {ts = ts} (grammar.value_literal d) = brace_value ts (literal_begins d)

  pub element_begins : {h : ℕ} {ts rest : List Terminal} {e : Element} → grammar.IsElement Body h ts e rest → begins_value ts ≡ true
  element_begins (grammar.element_alone d) = value_begins d
  element_begins (grammar.element_keyed d c v) = value_begins d
