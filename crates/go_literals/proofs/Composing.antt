-- Composite literals, by what their types are.
use Rattle.std.proofs.Common.{◌≡◌, ℕ, List, refl, sym, ap, ◌∙◌, subst, None}
use Rattle.go_model.specs.declared.types.term.Term.{Term, Term-F, roll-Term, roll-out-Term}
use Rattle.go_model.specs.declared.types.term.Term.TheVariants as term
use Rattle.go_model.specs.declared.types.term.Term.TheVariants.{outs-Array}
use Rattle.go_rules.specs.Environments.{Env}
use Rattle.go_rules.specs.Expressions.{HasElements, HasForm, has_composite, has_composite_array, HasIndexed, OfType}
use Rattle.go_rules.specs.Operands.{plain}
use Rattle.go_rules.specs.declared.operand.Operand.{Operand}
use Rattle.go_rules.proofs.OneOperand.{type_once}
use Rattle.go_syntax.specs.declared.expression.Element.{Element}
use Rattle.go_syntax.specs.declared.expression.Expr.{Expr-F}
use Rattle.go_syntax.specs.declared.types.«Type».{«Type» as Typ}

module _ (E : Env) where
  pub to_composite : (t : Typ) (xs : List Element) (u : Term) (o : Operand) → OfType E t u → HasElements E u xs → o ≡ plain u → HasForm E (Expr-F.Composite t xs) o
  to_composite t xs u o h k i = subst (HasForm E (Expr-F.Composite t xs)) (sym i) (has_composite h k)

  pub in_composite : {t : Typ} {xs : List Element} {u : Term} {o : Operand} → OfType E t u → HasForm E (Expr-F.Composite t xs) o → HasElements E u xs
  in_composite {xs = xs} h (has_composite k m) = subst (λ (v : Term). HasElements E v xs) (type_once E k h) m

  array_is : (n : ℕ) (u : Term) → roll-Term (Term-F.Array n u) ≡ term.Array n u
  array_is n u = ap roll-Term (sym (outs-Array n u)) ∙ roll-out-Term (term.Array n u)

  pub to_array : (t : Typ) (xs : List Element) (u v : Term) (n : ℕ) (o : Operand) → OfType E t u → v ≡ u → HasIndexed E v None 0 xs n → o ≡ plain (term.Array n u) → HasForm E (Expr-F.CompositeArray t xs) o
  to_array t xs u v n o h i k j =
      subst (HasForm E (Expr-F.CompositeArray t xs)) (sym j) (subst (λ (w : Term). HasForm E (Expr-F.CompositeArray t xs) (plain w)) (array_is n u) (has_composite_array h (subst (λ (w : Term). HasIndexed E w None 0 xs n) i k)))

  indexed_in : {t : Typ} {xs : List Element} {u : Term} {o : Operand} → OfType E t u → HasForm E (Expr-F.CompositeArray t xs) o → (n : ℕ) × HasIndexed E u None 0 xs n
  indexed_in {xs = xs} h (has_composite_array {n = n} k m) = (n, subst (λ (v : Term). HasIndexed E v None 0 xs n) (type_once E k h) m)

  pub in_array : (t : Typ) (xs : List Element) (u v : Term) → OfType E t u → v ≡ u → (o : Operand) → HasForm E (Expr-F.CompositeArray t xs) o → (n : ℕ) × HasIndexed E v None 0 xs n
  in_array t xs u v h i o f = let y = indexed_in h f in (y.0, subst (λ (w : Term). HasIndexed E w None 0 xs y.0) (sym i) y.1)
