-- Keys and values: which are values of a type.
use Rattle.std.proofs.Common.{◌≡◌, List, [], ◌∷◌, refl, sym, ap, ◌∙◌, subst, Bool, true, false}
use Rattle.go_model.specs.declared.types.term.Term.{Term, Term-F}
use Rattle.go_model.specs.types.Terms.{Layer}
use Rattle.go_model.specs.types.Underlying.{under}
use Rattle.go_rules.specs.Environments.{Env}
use Rattle.go_rules.specs.Expressions.{ElementFits, fits_value, fits_literal, fits_address, Has, HasElements, elements_keyed, elements_unkeyed, elements_array, elements_slice, elements_map}
use Rattle.go_rules.specs.Nodes.{ValueLayer}
use Rattle.go_rules.specs.Usability.{UsableAs}
use Rattle.go_rules.specs.declared.operand.Operand.{Operand}
use Rattle.go_rules.proofs.OneOperand.{has_once}
use Rattle.go_syntax.specs.declared.expression.Element.{Element}
use Rattle.go_syntax.specs.declared.expression.ElementValue.{ElementValue, ElementValue-F, out-ElementValue}
use Rattle.go_syntax.specs.declared.expression.Expr.{Expr}
use Rattle.go_literals.specs.Elements.{BareFits, ExprFits}

abbrev expr_in : ValueLayer → Expr → Expr
expr_in (ElementValue-F.Value e) d = e
expr_in l d = d

abbrev elements_in : ValueLayer → List Element
elements_in (ElementValue-F.«ElementValue::Literal» xs) = xs
elements_in l = []

abbrev base_in : Layer → Term → Term
base_in (Term-F.Pointer base) d = base
base_in l d = d

-- the expression that a value is, alone
pub one_expr : {l : ValueLayer} {d e : Expr} → l ≡ ElementValue-F.Value d → l ≡ ElementValue-F.Value e → d ≡ e
one_expr {d = d} i j = ap (λ (l : ValueLayer). expr_in l d) (sym i ∙ j)

-- an expression and elements in braces differ
pub expr_or_bare : {l : ValueLayer} {e : Expr} {xs : List Element} → l ≡ ElementValue-F.Value e → l ≡ ElementValue-F.«ElementValue::Literal» xs → ⊥
expr_or_bare {e = e} {xs = xs} i j = apart (sym i ∙ j)
  where
    apart : ◌≡◌ {A = ValueLayer} (ElementValue-F.Value e) (ElementValue-F.«ElementValue::Literal» xs) → ⊥
    apart k = absurd (cc)

one_base : {l : Layer} {t u : Term} → l ≡ Term-F.Pointer t → l ≡ Term-F.Pointer u → t ≡ u
one_base {t = t} i j = ap (λ (l : Layer). base_in l t) (sym i ∙ j)

abbrev is_pointer : Layer → Bool
is_pointer (Term-F.Pointer base) = true
is_pointer l = false

true_false : true ≡ false → ⊥
true_false e = absurd (cc)

module _ (E : Env) where
  pub no_expr_fits : (t : Term) (e : Expr) (o : Operand) → Has E e o → (UsableAs E o t → ⊥) → ExprFits E t e → ⊥
  no_expr_fits t e o h none f = none (subst (λ (q : Operand). UsableAs E q t) (has_once E f.1 h) f.2)

  pub to_value : (t : Term) (v : ElementValue) (e : Expr) → out-ElementValue v ≡ ElementValue-F.Value e → ExprFits E t e → ElementFits E t v
  to_value t v e i f = fits_value i f.1 f.2

  pub in_value : {t : Term} {v : ElementValue} {e : Expr} → out-ElementValue v ≡ ElementValue-F.Value e → ElementFits E t v → ExprFits E t e
  in_value {t = t} i (fits_value j h u) = subst (ExprFits E t) (one_expr j i) (_, h, u)
  in_value i (fits_literal j h) = absurd (expr_or_bare i j)
  in_value i (fits_address j p h) = absurd (expr_or_bare i j)

  -- a literal's type is no pointer
  elements_no_pointer : {t : Term} {xs : List Element} → HasElements E t xs → is_pointer (under E.table t) ≡ false
  elements_no_pointer (elements_keyed u k o) = ap is_pointer u
  elements_no_pointer (elements_unkeyed u e n k) = ap is_pointer u
  elements_no_pointer (elements_array u h) = ap is_pointer u
  elements_no_pointer (elements_slice u h) = ap is_pointer u
  elements_no_pointer (elements_map u h) = ap is_pointer u

  bare : (t : Term) (v : ElementValue) (xs : List Element) (l : Layer) → under E.table t ≡ l → out-ElementValue v ≡ ElementValue-F.«ElementValue::Literal» xs → BareFits E t l xs → ElementFits E t v
  bare t v xs (Term-F.Pointer base) u i h = fits_address i u h
  bare t v xs l u i h = fits_literal i h

  pub to_bare : (t : Term) (v : ElementValue) (xs : List Element) → out-ElementValue v ≡ ElementValue-F.«ElementValue::Literal» xs → BareFits E t (under E.table t) xs → ElementFits E t v
  to_bare t v xs i h = bare t v xs (under E.table t) refl i h

  same_elements : {l : ValueLayer} {xs ys : List Element} → l ≡ ElementValue-F.«ElementValue::Literal» xs → l ≡ ElementValue-F.«ElementValue::Literal» ys → xs ≡ ys
  same_elements i j = ap elements_in (sym i ∙ j)

  bare_of : (t : Term) (xs : List Element) (l : Layer) → under E.table t ≡ l → HasElements E t xs → BareFits E t l xs
  bare_of t xs (Term-F.Pointer base) u h = absurd (true_false (sym (ap is_pointer u) ∙ elements_no_pointer h))
  bare_of t xs l u h = h

  base_of : (t base : Term) (xs : List Element) (l : Layer) → under E.table t ≡ l → l ≡ Term-F.Pointer base → HasElements E base xs → BareFits E t l xs
  base_of t base xs (Term-F.Pointer b) u i h = subst (λ (x : Term). HasElements E x xs) (sym (one_base refl i)) h
  base_of t base xs l u i h = absurd (cc)

  pub in_bare : {t : Term} {v : ElementValue} {xs : List Element} → out-ElementValue v ≡ ElementValue-F.«ElementValue::Literal» xs → ElementFits E t v → BareFits E t (under E.table t) xs
  in_bare i (fits_value j h u) = absurd (expr_or_bare j i)
  in_bare {t = t} i (fits_literal j h) = subst (BareFits E t (under E.table t)) (same_elements j i) (bare_of t _ (under E.table t) refl h)
  in_bare {t = t} i (fits_address {base = base} j p h) = subst (BareFits E t (under E.table t)) (same_elements j i) (base_of t base _ (under E.table t) refl p h)
