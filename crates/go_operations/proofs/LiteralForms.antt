-- Literals of one token.
use Rattle.std.proofs.Common.{◌≡◌, ◌≤◌, ℕ, List, length, refl, sym, subst, Result, Ok, Err}
use Rattle.std.specs.Prelude.{ℤ, pos}
use Rattle.go_model.specs.declared.constants.value.Untyped.TheVariants as untyped
use Rattle.go_model.specs.declared.constants.value.Value.TheVariants as value
use Rattle.go_model.specs.declared.types.package.ConstTerm.TheVariants as constant
use Rattle.go_rules.specs.Environments.{Env}
use Rattle.go_rules.specs.Expressions.{HasForm, has_int, has_rune, has_string}
use Rattle.go_rules.specs.Nodes.{ExprLayer}
use Rattle.go_rules.specs.Operands.{constant_of}
use Rattle.go_rules.specs.declared.operand.Operand.{Operand}
use Rattle.go_syntax.specs.declared.expression.Expr.{Expr-F}
use Rattle.go_syntax.specs.declared.expression.Literal.{Literal}
use Rattle.go_syntax.specs.declared.expression.Literal.TheVariants as literal
use Rattle.go_type_terms.specs.Answers.{Tells}
use Rattle.go_type_terms.specs.declared.error.ExprError.{ExprError}
use Rattle.go_type_terms.specs.declared.error.ExprError.TheVariants.{NoMemory, Untyped}

module _ (E : Env) where
  literal_of : (l k : Literal) (o q : Operand) → l ≡ k → o ≡ q → HasForm E (Expr-F.«Expr::Literal» k) q → HasForm E (Expr-F.«Expr::Literal» l) o
  literal_of l k o q i j h = subst (λ (m : Literal). HasForm E (Expr-F.«Expr::Literal» m) o) (sym i) (subst (HasForm E (Expr-F.«Expr::Literal» k)) (sym j) h)

  pub int_form : (l : Literal) (x : ℤ) (o : Operand) → l ≡ literal.Int x → o ≡ constant_of (constant.OfKind untyped.IntKind) (value.Int x) → HasForm E (Expr-F.«Expr::Literal» l) o
  int_form l x o i j = literal_of l (literal.Int x) o _ i j has_int

  pub rune_form : (l : Literal) (c : ℕ) (o : Operand) → l ≡ literal.Rune c → o ≡ constant_of (constant.OfKind untyped.RuneKind) (value.Int (pos c)) → HasForm E (Expr-F.«Expr::Literal» l) o
  rune_form l c o i j = literal_of l (literal.Rune c) o _ i j has_rune

  abbrev IsText : List ℕ → Operand → Type 0
  IsText s o = (length s ≤ 65536) × (o ≡ constant_of (constant.OfKind untyped.StrKind) (value.Str s))

  in_text : {s : List ℕ} {o : Operand} → HasForm E (Expr-F.«Expr::Literal» (literal.Str s)) o → IsText s o
  in_text (has_string i) = (i, refl)

  pub text_form : (l : Literal) (s : List ℕ) → l ≡ literal.Str s → (r : Result Operand ExprError) → Tells {A = Operand} (IsText s) r → Tells {A = Operand} (HasForm E (Expr-F.«Expr::Literal» l)) r
  text_form l s i (Ok o) t = literal_of l (literal.Str s) o _ i t.1 (has_string t.0)
  text_form l s i (Err NoMemory) t = tt
  text_form l s i (Err Untyped) t = λ o h. t o (in_text (subst (λ (m : Literal). HasForm E (Expr-F.«Expr::Literal» m) o) i h))
