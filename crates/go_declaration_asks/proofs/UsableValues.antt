-- Whether the values of variables fit their type, from the one type and the one list of values that they are given.
use Rattle.std.proofs.Common.{◌≡◌, ℕ, Bool, true, false, List, [], ◌∷◌, refl, sym, subst}
use Rattle.go_base.specs.Lists.{Each}
use Rattle.go_model.specs.declared.types.term.Term.{Term}
use Rattle.go_rules.specs.Environments.{Env}
use Rattle.go_rules.specs.Expressions.{OfType}
use Rattle.go_rules.specs.Usability.{UsableAs}
use Rattle.go_rules.specs.declared.operand.Operand.{Operand}
use Rattle.go_rules.proofs.OneOperand.{type_once}
use Rattle.go_selectors.specs.Answers.{Decides}
use Rattle.go_syntax.specs.declared.expression.Expr.{Expr}
use Rattle.go_syntax.specs.declared.types.«Type».{«Type» as Typ}
use Rattle.go_typings.specs.DeclarationAsks.{AreUsable}
use Rattle.go_typings.specs.Initializers.{Initialize}
use Rattle.go_typings.proofs.OneEntry.{initialize_once}
use Rattle.go_declaration_asks.specs.inner.Values.{GivesValues}

module _ (E : Env) (t : Typ) (n : ℕ) where
  usable_some : (e : Expr) (es : List Expr) (v : Term) (os : List Operand) → OfType E t v → Initialize E n (e ∷ es) os → (b : Bool) → Decides b (Each (λ o. UsableAs E o v) os) → Decides b (AreUsable E t n (e ∷ es))
  usable_some e es v os a i true d = (v, os, a, i, d)
  usable_some e es v os a i false none = λ h. none (subst (λ (ps : List Operand). Each (λ o. UsableAs E o v) ps) (initialize_once E h.3 i) (subst (λ (w : Term). Each (λ o. UsableAs E o w) h.1) (type_once E h.2 a) h.4))

  pub usable_empty : (es : List Expr) → es ≡ [] → AreUsable E t n es
  usable_empty es e = subst (AreUsable E t n) (sym e) tt

  -- there are values, and these are given
  pub usable_given : (es : List Expr) → (es ≡ [] → ⊥) → (v : Term) (os : List Operand) → OfType E t v → Initialize E n es os → (b : Bool) → Decides b (Each (λ o. UsableAs E o v) os) → Decides b (AreUsable E t n es)
  usable_given [] some v os a i b d = absurd (some refl)
  usable_given (e ∷ es) some v os a i b d = usable_some e es v os a i b d

  -- there are values, and none are given
  pub usable_none : (es : List Expr) → (es ≡ [] → ⊥) → ((given : Term × List Operand) → GivesValues E t n es given → ⊥) → AreUsable E t n es → ⊥
  usable_none [] some none h = some refl
  usable_none (e ∷ es) some none h = none (h.0, h.1) (h.2, h.3)
