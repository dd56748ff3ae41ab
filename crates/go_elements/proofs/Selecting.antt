-- Selectors: what they make, and where they make nothing.
use Rattle.std.proofs.Common.{◌≡◌, ℕ, Bool, true, false, Option, Some, None, refl, sym, ap, ◌∙◌, subst, if◌then◌else◌, List}
use Rattle.go_model.specs.declared.types.found.FieldFound.{FieldFound}
use Rattle.go_model.specs.declared.types.found.Found.{Found as Find}
use Rattle.go_model.specs.declared.types.found.Found.TheVariants as find
use Rattle.go_model.specs.declared.types.names.Sel.{Sel}
use Rattle.go_model.specs.declared.types.term.Signature.{Signature}
use Rattle.go_model.specs.declared.types.term.Term.{Term}
use Rattle.go_model.specs.types.Selectors.{field}
use Rattle.go_rules.specs.Environments.{Env, Found, HasMethod, selector_of}
use Rattle.go_rules.specs.Expressions.{is_blank, reached, with_receiver}
use Rattle.go_rules.specs.Operands.{IsTyped, function_of, is_variable, plain, type_name, value_of}
use Rattle.go_rules.specs.declared.operand.Operand.{Operand}
use Rattle.go_rules.proofs.OneFound.{field_or_method, one_found}
use Rattle.go_rules.proofs.OneForm.{typed_no_type}
use Rattle.go_rules.proofs.OneKind.{no_truth, one_type}
use Rattle.go_operators.specs.go_usability.Answers.{FindsIn, Gives}
use Rattle.go_elements.specs.Selections.{Selects, selects_field, selects_method, selects_function}
use Rattle.go_elements.specs.inner.Selected.{SelectsFunction, selects_expression, SelectsMethod, selects_value, SelectsIn, in_field, in_method}

module _ (E : Env) (s : Sel) where
  function_in : {t : Term} {r : Operand} → SelectsFunction E s t r → (g : Signature) × HasMethod E false t s g
  function_in (selects_expression m) = (_, m)

  pub function_none : (t : Term) → ((g : Signature) → HasMethod E false t s g → ⊥) → (r : Operand) → SelectsFunction E s t r → ⊥
  function_none t none r x = none _ (function_in x).1

  pub function_some : (t : Term) (g h : Signature) (r : Operand) → HasMethod E false t s g → h ≡ with_receiver t g → r ≡ plain (function_of h) → SelectsFunction E s t r
  function_some t g h r m e f = subst (SelectsFunction E s t) (sym (f ∙ ap (λ (x : Signature). plain (function_of x)) e)) (selects_expression m)

  method_in : {a : Bool} {t : Term} {r : Operand} → SelectsMethod E s a t r → (g : Signature) × HasMethod E a t s g
  method_in (selects_value m) = (_, m)

  pub method_none : (a : Bool) (t : Term) → ((g : Signature) → HasMethod E a t s g → ⊥) → (r : Operand) → SelectsMethod E s a t r → ⊥
  method_none a t none r x = none _ (method_in x).1

  pub method_some : (a : Bool) (t : Term) (g : Signature) (r : Operand) → HasMethod E a t s g → r ≡ plain (function_of g) → SelectsMethod E s a t r
  method_some a t g r m e = subst (SelectsMethod E s a t) (sym e) (selects_value m)

  pub field_some : (a : Bool) (t : Term) (f : FieldFound) (o : Option Find) (r : Operand) → o ≡ Some (find.FieldAt f) → FindsIn E s t o → r ≡ value_of (reached (if f.through_pointer then true else a)) f.term → SelectsIn E s a t r
  field_some a t f o r e d q = subst (SelectsIn E s a t) (sym q) (in_field (subst (FindsIn E s t) e d).0)

  no_field : {t u : Term} {through : Bool} (o : Option Find) → FindsIn E s t o → ((f : FieldFound) → o ≡ Some (find.FieldAt f) → ⊥) → Found E s t (record { through = through; target = field u }) → ⊥
  no_field None d none h = d.no_field _ _ h
  no_field (Some (find.FieldAt f)) d none h = none f refl
  no_field (Some (find.MethodAt m)) d none h = field_or_method (one_found h d.0)
  no_field (Some find.Ambiguous) d none h = d
  no_field (Some find.Nothing) d none h = d

  to_method : {a : Bool} {t : Term} {r : Operand} (o : Option Find) → FindsIn E s t o → ((f : FieldFound) → o ≡ Some (find.FieldAt f) → ⊥) → SelectsIn E s a t r → SelectsMethod E s a t r
  to_method o d none (in_field h) = absurd (no_field o d none h)
  to_method o d none (in_method m) = m

  pub method_gives : (a : Bool) (t : Term) (o : Option Find) (r : Option Operand) → FindsIn E s t o → ((f : FieldFound) → o ≡ Some (find.FieldAt f) → ⊥) → Gives (SelectsMethod E s a t) r → Gives (SelectsIn E s a t) r
  method_gives a t o (Some r) d none g = in_method g
  method_gives a t o None d none g = λ r x. g r (to_method o d none x)

-- ---- the result

module _ (E : Env) (name : List ℕ) where
  of_function : {t : Term} {r : Operand} → is_blank name ≡ false → SelectsFunction E (selector_of E name) t r → Selects E name (type_name t) r
  of_function b (selects_expression m) = selects_function b m

  to_function : {t : Term} {r : Operand} → Selects E name (type_name t) r → SelectsFunction E (selector_of E name) t r
  to_function (selects_field b h f) = absurd (no_truth (typed_no_type h))
  to_function (selects_method b h m) = absurd (no_truth (typed_no_type h))
  to_function (selects_function b m) = selects_expression m

  type_gives : (t : Term) (r : Option Operand) → is_blank name ≡ false → Gives (SelectsFunction E (selector_of E name) t) r → Gives (Selects E name (type_name t)) r
  type_gives t (Some r) b g = of_function b g
  type_gives t None b g = λ r x. g r (to_function x)

  pub select_type : (o : Operand) (t : Term) (s : Sel) (r : Option Operand) → is_blank name ≡ false → o ≡ type_name t → s ≡ selector_of E name → Gives (SelectsFunction E s t) r → Gives (Selects E name o) r
  select_type o t s r b e f g = subst (λ (x : Operand). Gives (Selects E name x) r) (sym e) (type_gives t r b (subst (λ (x : Sel). Gives (SelectsFunction E x t) r) f g))

  of_method : {o r : Operand} {t : Term} → is_blank name ≡ false → IsTyped o t → SelectsMethod E (selector_of E name) (is_variable o.mode) t r → Selects E name o r
  of_method b h (selects_value m) = selects_method b h m

  of_in : {o r : Operand} {t : Term} → is_blank name ≡ false → IsTyped o t → SelectsIn E (selector_of E name) (is_variable o.mode) t r → Selects E name o r
  of_in b h (in_field f) = selects_field b h f
  of_in b h (in_method m) = of_method b h m

  at_type : {o r : Operand} {t u : Term} → IsTyped o t → IsTyped o u → SelectsIn E (selector_of E name) (is_variable o.mode) u r → SelectsIn E (selector_of E name) (is_variable o.mode) t r
  at_type {o = o} {r = r} h g x = subst (λ (y : Term). SelectsIn E (selector_of E name) (is_variable o.mode) y r) (one_type g h) x

  to_in : {o r : Operand} {t : Term} → IsTyped o t → Selects E name o r → SelectsIn E (selector_of E name) (is_variable o.mode) t r
  to_in h (selects_field b g f) = at_type h g (in_field f)
  to_in h (selects_method b g m) = at_type h g (in_method (selects_value m))
  to_in h (selects_function b m) = absurd (no_truth (typed_no_type h))

  value_gives : (o : Operand) (t : Term) (r : Option Operand) → is_blank name ≡ false → IsTyped o t → Gives (SelectsIn E (selector_of E name) (is_variable o.mode) t) r → Gives (Selects E name o) r
  value_gives o t (Some r) b h g = of_in b h g
  value_gives o t None b h g = λ r x. g r (to_in h x)

  pub select_value : (o : Operand) (t : Term) (s : Sel) (a : Bool) (r : Option Operand) → is_blank name ≡ false → IsTyped o t → s ≡ selector_of E name → a ≡ is_variable o.mode → Gives (SelectsIn E s a t) r → Gives (Selects E name o) r
  select_value o t s a r b h f e g = value_gives o t r b h (subst (λ (x : Bool). Gives (SelectsIn E (selector_of E name) x t) r) e (subst (λ (x : Sel). Gives (SelectsIn E x a t) r) f g))

  selected : {o r : Operand} → ((t : Term) → o ≡ type_name t → ⊥) → ((t : Term) → IsTyped o t → ⊥) → Selects E name o r → ⊥
  selected no_name none (selects_field b g f) = none _ g
  selected no_name none (selects_method b g m) = none _ g
  selected no_name none (selects_function b m) = no_name _ refl

  pub select_nothing : (o : Operand) → ((t : Term) → o ≡ type_name t → ⊥) → ((t : Term) → IsTyped o t → ⊥) → (r : Operand) → Selects E name o r → ⊥
  select_nothing o no_name none r x = selected no_name none x
