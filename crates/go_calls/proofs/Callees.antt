-- Calls by what is called: what they make, and where they make nothing.
use Rattle.std.proofs.Common.{◌≡◌, Bool, false, Option, Some, None, refl, sym, ap, ◌∙◌, subst, List, [], ◌∷◌}
use Rattle.go_model.specs.declared.types.term.Term.{Term}
use Rattle.go_rules.specs.Environments.{Env}
use Rattle.go_rules.specs.Expressions.{Converts, is_constant}
use Rattle.go_rules.specs.Operands.{IsTyped, typed_value, typed_constant, builtin, is_value_mode, type_name}
use Rattle.go_rules.specs.declared.operand.Mode.{Mode}
use Rattle.go_rules.specs.declared.operand.Mode.TheVariants as mode
use Rattle.go_rules.specs.declared.operand.Operand.{Operand}
use Rattle.go_rules.specs.declared.operand.Shape.{Shape}
use Rattle.go_rules.specs.declared.operand.Shape.TheVariants as shape
use Rattle.go_rules.specs.declared.predeclared.Predeclared.{Predeclared}
use Rattle.go_rules.proofs.OneKind.{no_truth}
use Rattle.go_elements.specs.go_usability.Answers.{Gives}
use Rattle.go_calls.specs.Builtins.{CallsBuiltin}
use Rattle.go_calls.specs.Calls.{Calls, calls_type, calls_builtin, calls_value}
use Rattle.go_calls.specs.Functions.{CallsFunction, calls_function}
use Rattle.go_calls.specs.inner.Conversions.{ConvertsOne, converts_one}
use Rattle.go_elements.proofs.go_operators_proofs.Answers.{false_true}

-- a value is of a mode of values, or constant
pub typed_mode : {o : Operand} {t : Term} {m : Mode} → IsTyped o t → o.mode ≡ m → is_value_mode m ≡ false → is_constant m ≡ false → ⊥
typed_mode (typed_value h) e f g = false_true (sym f ∙ ap is_value_mode (sym e) ∙ h)
typed_mode typed_constant e f g = no_truth (ap is_constant e ∙ g)

shape_term : {t u : Term} → ◌≡◌ {A = Shape} (shape.Of t) (shape.Of u) → t ≡ u
shape_term e = cc

shape_function : {f g : Predeclared} → ◌≡◌ {A = Shape} (shape.OfBuiltin f) (shape.OfBuiltin g) → f ≡ g
shape_function e = cc

pub same_type : {t u : Term} → ◌≡◌ {A = Operand} (type_name t) (type_name u) → t ≡ u
same_type e = shape_term (ap (λ (x : Operand). x.shape) e)

same_builtin : {f g : Predeclared} → ◌≡◌ {A = Operand} (builtin f) (builtin g) → f ≡ g
same_builtin e = shape_function (ap (λ (x : Operand). x.shape) e)

builtin_type : ◌≡◌ {A = Mode} mode.Builtin mode.TypeName → ⊥
builtin_type e = absurd (cc)

mode_of : {o q : Operand} → o ≡ q → o.mode ≡ q.mode
mode_of e = ap (λ (x : Operand). x.mode) e

module _ (E : Env) where
  function_typed : {dots : Bool} {o r : Operand} {os : List Operand} {m : Mode} → CallsFunction E dots o os r → o.mode ≡ m → is_value_mode m ≡ false → is_constant m ≡ false → ⊥
  function_typed (calls_function h e p f) i v c = typed_mode h i v c

  -- ---- of a type

  to_conversion : {loud dots : Bool} {o r : Operand} {os : List Operand} {t : Term} → Calls E loud o os dots r → o ≡ type_name t → ConvertsOne E t os dots r
  to_conversion (calls_type {o = q} {r = r} v) e = converts_one (subst (λ (u : Term). Converts E q u r) (same_type e) v)
  to_conversion (calls_builtin x) e = absurd (builtin_type (mode_of e))
  to_conversion (calls_value x) e = absurd (function_typed x (mode_of e) refl refl)

  of_conversion : {loud dots : Bool} {r : Operand} {os : List Operand} {t : Term} → ConvertsOne E t os dots r → Calls E loud (type_name t) os dots r
  of_conversion (converts_one v) = calls_type v

  pub call_type : (loud dots : Bool) (o : Operand) (os : List Operand) (t : Term) (r : Option Operand) → o ≡ type_name t → Gives (ConvertsOne E t os dots) r → Gives (Calls E loud o os dots) r
  call_type loud dots o os t (Some r) e g = subst (λ (x : Operand). Calls E loud x os dots r) (sym e) (of_conversion g)
  call_type loud dots o os t None e g = λ r x. g r (to_conversion x e)

  one_conversion : {t : Term} {o r : Operand} → ConvertsOne E t (o ∷ []) false r → Converts E o t r
  one_conversion (converts_one v) = v

  one_converts : (t : Term) (o : Operand) (r : Option Operand) → Gives (Converts E o t) r → Gives (ConvertsOne E t (o ∷ []) false) r
  one_converts t o (Some r) g = converts_one g
  one_converts t o None g = λ r x. g r (one_conversion x)

  pub convert_gives : (t : Term) (os : List Operand) (dots : Bool) (o : Operand) (r : Option Operand) → os ≡ o ∷ [] → dots ≡ false → Gives (Converts E o t) r → Gives (ConvertsOne E t os dots) r
  convert_gives t os dots o r e f g = subst (λ (b : Bool). Gives (ConvertsOne E t os b) r) (sym f) (subst (λ (x : List Operand). Gives (ConvertsOne E t x false) r) (sym e) (one_converts t o r g))

  converted : {t : Term} {os : List Operand} {dots : Bool} {r : Operand} → ConvertsOne E t os dots r → (o : Operand) × (os ≡ o ∷ []) × (dots ≡ false)
  converted (converts_one v) = (_, refl, refl)

  pub convert_nothing : (t : Term) (os : List Operand) (dots : Bool) → ((o : Operand) → os ≡ o ∷ [] → dots ≡ false → ⊥) → (r : Operand) → ConvertsOne E t os dots r → ⊥
  convert_nothing t os dots none r x = none _ (converted x).1 (converted x).2

  -- ---- of a builtin function

  to_builtin : {loud dots : Bool} {o r : Operand} {os : List Operand} {f : Predeclared} → Calls E loud o os dots r → o ≡ builtin f → CallsBuiltin E loud f os dots r
  to_builtin (calls_type v) e = absurd (builtin_type (sym (mode_of e)))
  to_builtin {loud = loud} {dots = dots} {r = r} {os = os} (calls_builtin x) e = subst (λ (g : Predeclared). CallsBuiltin E loud g os dots r) (same_builtin e) x
  to_builtin (calls_value x) e = absurd (function_typed x (mode_of e) refl refl)

  pub call_predeclared : (loud dots : Bool) (o : Operand) (os : List Operand) (f : Predeclared) (r : Option Operand) → o ≡ builtin f → Gives (CallsBuiltin E loud f os dots) r → Gives (Calls E loud o os dots) r
  call_predeclared loud dots o os f (Some r) e g = subst (λ (x : Operand). Calls E loud x os dots r) (sym e) (calls_builtin g)
  call_predeclared loud dots o os f None e g = λ r x. g r (to_builtin x e)

  -- ---- of a value

  to_function : {loud dots : Bool} {o r : Operand} {os : List Operand} → ((t : Term) → o ≡ type_name t → ⊥) → ((f : Predeclared) → o ≡ builtin f → ⊥) → Calls E loud o os dots r → CallsFunction E dots o os r
  to_function no_type no_builtin (calls_type v) = absurd (no_type _ refl)
  to_function no_type no_builtin (calls_builtin x) = absurd (no_builtin _ refl)
  to_function no_type no_builtin (calls_value x) = x

  pub call_value : (loud dots : Bool) (o : Operand) (os : List Operand) (r : Option Operand) → ((t : Term) → o ≡ type_name t → ⊥) → ((f : Predeclared) → o ≡ builtin f → ⊥) → Gives (CallsFunction E dots o os) r → Gives (Calls E loud o os dots) r
  call_value loud dots o os (Some r) no_type no_builtin g = calls_value g
  call_value loud dots o os None no_type no_builtin g = λ r x. g r (to_function no_type no_builtin x)
