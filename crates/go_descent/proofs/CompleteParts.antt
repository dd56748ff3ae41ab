-- What it is for readers of parts to find each tree, and what follows an expression.
use Rattle.std.proofs.Common.{◌≡◌, ℕ, suc, List, ◌∷◌, Bool, true, false, Some, None, refl}
use Rattle.go_syntax.specs.declared.expression.Element.{Element}
use Rattle.go_syntax.specs.declared.expression.Expr.{Expr}
use Rattle.go_syntax.specs.declared.body.BodyRange.{BodyRange}
use Rattle.go_syntax.specs.declared.types.Signature.{Signature}
use Rattle.go_syntax.specs.declared.types.«Type».{«Type» as Typ}
use Rattle.go_syntax.specs.declared.token.TokenKind.TheVariants as kind
use Rattle.go_syntax.specs.grammar.Grammar.{IsType, IsCompositeType, IsSignature, IsExpr, IsUnary, IsLiteralValue, comparison, sum_operator, product_operator}
use Rattle.go_syntax.specs.grammar.Symbols.{Rule, begins, sign_at}
use Rattle.go_syntax.specs.grammar.Terminals.{Terminal, Sign, Extent}
use Rattle.go_cursor.specs.Skipping.{is_composite}
use Rattle.go_cursor.proofs.Steps.{Below}
use Rattle.go_descent.specs.Follow.{begins_post, Over, OverExpr}
use Rattle.go_descent.specs.Rules.{Parts, operator_at}
use Rattle.go_descent.proofs.Shorter.{Shortens}

-- where no operator is next
pub over : (b : Bool) (ts : List Terminal) → begins_post ts ≡ false → (b ≡ true → begins kind.LeftBrace ts ≡ false) → operator_at product_operator (sign_at ts) ≡ None → operator_at sum_operator (sign_at ts) ≡ None
    → operator_at comparison (sign_at ts) ≡ None → begins kind.LogicalAnd ts ≡ false → begins kind.LogicalOr ts ≡ false → OverExpr b ts
over b ts p l q s c a o = record { conjunct = record { comparing = record { sum = record { product = record { operand = record { post = p; brace = l }; operator = q }; operator = s }; operator = c }; operator = a }; operator = o }

pub over_right_paren : (b : Bool) (at : Extent) (ts : List Terminal) → OverExpr b (Sign kind.RightParen at ∷ ts)
over_right_paren b at ts = over b (Sign kind.RightParen at ∷ ts) refl (λ _. refl) refl refl refl refl refl

pub over_right_bracket : (b : Bool) (at : Extent) (ts : List Terminal) → OverExpr b (Sign kind.RightBracket at ∷ ts)
over_right_bracket b at ts = over b (Sign kind.RightBracket at ∷ ts) refl (λ _. refl) refl refl refl refl refl

pub over_right_brace : (b : Bool) (at : Extent) (ts : List Terminal) → OverExpr b (Sign kind.RightBrace at ∷ ts)
over_right_brace b at ts = over b (Sign kind.RightBrace at ∷ ts) refl (λ _. refl) refl refl refl refl refl

pub over_comma : (b : Bool) (at : Extent) (ts : List Terminal) → OverExpr b (Sign kind.Comma at ∷ ts)
over_comma b at ts = over b (Sign kind.Comma at ∷ ts) refl (λ _. refl) refl refl refl refl refl

pub over_colon : (b : Bool) (at : Extent) (ts : List Terminal) → OverExpr b (Sign kind.Colon at ∷ ts)
over_colon b at ts = over b (Sign kind.Colon at ∷ ts) refl (λ _. refl) refl refl refl refl refl

pub over_semicolon : (b : Bool) (at : Extent) (ts : List Terminal) → OverExpr b (Sign kind.Semicolon at ∷ ts)
over_semicolon b at ts = over b (Sign kind.Semicolon at ∷ ts) refl (λ _. refl) refl refl refl refl refl

pub over_ellipsis : (b : Bool) (at : Extent) (ts : List Terminal) → OverExpr b (Sign kind.Ellipsis at ∷ ts)
over_ellipsis b at ts = over b (Sign kind.Ellipsis at ∷ ts) refl (λ _. refl) refl refl refl refl refl

-- the readers find each tree of a height below n
pub record CompleteParts (Body : ℕ → Rule BodyRange) (l : Parts) (n : ℕ) : Type 0 where
  pub is_deep : (h : ℕ) → n ≡ suc h → l.deep ≡ true
  pub reads_expr : (ts : List Terminal) (x : Expr) (rest : List Terminal) → Below (IsExpr Body true) n ts x rest → OverExpr true rest → l.expr ts ≡ Some (x, rest)
  pub reads_unary : (b : Bool) (ts : List Terminal) (x : Expr) (rest : List Terminal) → Below (IsUnary Body b) n ts x rest → Over b rest → l.unary b ts ≡ Some (x, rest)
  pub reads_typ : (ts : List Terminal) (t : Typ) (rest : List Terminal) → Below (IsType Body) n ts t rest → l.typ ts ≡ Some (t, rest)
  pub reads_composite : (ts : List Terminal) (t : Typ) (rest : List Terminal) → Below (IsCompositeType Body) n ts t rest → l.composite_type ts ≡ Some (t, rest)
  pub reads_signature : (ts : List Terminal) (s : Signature) (rest : List Terminal) → Below (IsSignature Body) n ts s rest → l.signature ts ≡ Some (s, rest)
  pub reads_literal : (ts : List Terminal) (es : List Element) (rest : List Terminal) → Below (IsLiteralValue Body) n ts es rest → l.literal_value ts ≡ Some (es, rest)
  pub reads_body : (ts : List Terminal) (b : BodyRange) (rest : List Terminal) → Below Body n ts b rest → l.body ts ≡ Some (b, rest)

-- what is asked of the bodies of function literals, and what is seen ahead of them
pub record KnownBodies (Body : ℕ → Rule BodyRange) : Type 0 where
  pub body_begins : (h : ℕ) (ts : List Terminal) (b : BodyRange) (rest : List Terminal) → Body h ts b rest → begins kind.LeftBrace ts ≡ true
  pub body_shorter : Shortens Body
  -- whether `{` follows a slice, an array, a map or a struct
  pub sees_composite : (h : ℕ) (ts : List Terminal) (t : Typ) (rest : List Terminal) → IsCompositeType Body h ts t rest → is_composite ts ≡ begins kind.LeftBrace rest
