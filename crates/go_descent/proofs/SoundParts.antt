-- What it means that the readers of the parts are sound: they find only what is one level lower.
use Rattle.std.proofs.Common.{◌≡◌, ℕ, zero, suc, Bool, true, arith}
use Rattle.go_syntax.specs.declared.body.BodyRange.{BodyRange}
use Rattle.go_syntax.specs.grammar.Grammar.{IsType, IsCompositeType, IsSignature, IsExpr, IsUnary, IsLiteralValue}
use Rattle.go_syntax.specs.grammar.Symbols.{Rule}
use Rattle.go_descent.specs.Rules.{Parts}
use Rattle.go_cursor.proofs.Steps.{Below, Sound}

pub record SoundParts (Body : ℕ → Rule BodyRange) (l : Parts) (n : ℕ) : Type 0 where
  pub deep : l.deep ≡ true → (h : ℕ) × (n ≡ suc h)
  pub expr : Sound (Below (IsExpr Body true) n) l.expr
  pub unary : (b : Bool) → Sound (Below (IsUnary Body b) n) (l.unary b)
  pub typ : Sound (Below (IsType Body) n) l.typ
  pub composite_type : Sound (Below (IsCompositeType Body) n) l.composite_type
  pub signature : Sound (Below (IsSignature Body) n) l.signature
  pub literal_value : Sound (Below (IsLiteralValue Body) n) l.literal_value
  pub body : Sound (Below Body n) l.body

-- no level is below the bottom
pub no_level : (h : ℕ) × (zero ≡ suc h) → ⊥
no_level (h, e) = omega (arith, e)
