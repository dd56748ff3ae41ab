-- What an operand's mode and shape say of its type or kind.
use Rattle.std.proofs.Common.{◌≡◌, Bool, true, false, refl, sym, ap, ◌∙◌, subst}
use Rattle.go_model.specs.constants.Classes.{class_of_basic, is_integer}
use Rattle.go_model.specs.declared.constants.value.Basic.{Basic}
use Rattle.go_model.specs.declared.constants.value.Basic.TheVariants as basic
use Rattle.go_model.specs.declared.constants.value.Kind.TheVariants as kind
use Rattle.go_model.specs.declared.constants.value.Untyped.{Untyped}
use Rattle.go_model.specs.declared.constants.value.Untyped.TheVariants as untyped
use Rattle.go_model.specs.declared.constants.value.Value.{Value}
use Rattle.go_model.specs.declared.types.package.ConstTerm.{ConstTerm}
use Rattle.go_model.specs.declared.types.package.ConstTerm.TheVariants as constant
use Rattle.go_model.specs.declared.types.term.Term.{Term, Term-F}
use Rattle.go_model.specs.types.Underlying.{under}
use Rattle.go_rules.specs.Environments.{Env}
use Rattle.go_rules.specs.Expressions.{is_constant}
use Rattle.go_rules.specs.Operands.{HasKind, kind_of_type, kind_of_untyped, IsOf, is_of_type, is_of_kind, IsTyped, typed_value, typed_constant, IsUntyped, untyped_constant, untyped_truth, constant_of, is_value_mode, is_variable, loose, plain, value_of, variable}
use Rattle.go_rules.specs.declared.operand.Mode.{Mode}
use Rattle.go_rules.specs.declared.operand.Mode.TheVariants as mode
use Rattle.go_rules.specs.declared.operand.Operand.{Operand}
use Rattle.go_rules.specs.declared.operand.Shape.{Shape}
use Rattle.go_rules.specs.declared.operand.Shape.TheVariants as shape
use Rattle.go_rules.proofs.OneKind.{one_type, typed_or_untyped}
use Rattle.go_usability.specs.go_selectors.Answers.{Decides}
use Rattle.go_operators.specs.inner.Constants.{HasValue, has_value}
use Rattle.go_operators.specs.inner.Values.{IsIntegerValue, IsStringValue}
use Rattle.go_operators.proofs.Answers.{false_true}

value_mode : (m : Mode) → is_value_mode m ≡ true → is_constant m ≡ false
value_mode mode.Variable h = refl
value_mode mode.Plain h = refl
value_mode mode.MapElement h = refl
value_mode mode.NoValue h = absurd (false_true h)
value_mode mode.TypeName h = absurd (false_true h)
value_mode mode.Constant h = absurd (false_true h)
value_mode mode.Nil h = absurd (false_true h)
value_mode mode.Builtin h = absurd (false_true h)
value_mode mode.Tuple h = absurd (false_true h)

-- an operand of a type, by its mode and shape
pub typed_by : (m : Mode) (s : Shape) (t : Term) → is_value_mode m ≡ true → s ≡ shape.Of t → IsTyped (record { mode = m; shape = s }) t
typed_by m s t h e = subst (λ (x : Shape). IsTyped (record { mode = m; shape = x }) t) (sym e) (typed_value h)

-- an operand of a type that is no constant hasn't their mode
pub typed_mode : {o : Operand} {t : Term} → IsTyped o t → ((c : ConstTerm) (v : Value) → o ≡ constant_of c v → ⊥) → is_constant o.mode ≡ false
typed_mode (typed_value {m = m} h) none = value_mode m h
typed_mode typed_constant none = absurd (none _ _ refl)

variable_mode : (m : Mode) → is_variable m ≡ true → m ≡ mode.Variable
variable_mode mode.Variable e = refl
variable_mode mode.Plain e = absurd (false_true e)
variable_mode mode.MapElement e = absurd (false_true e)
variable_mode mode.NoValue e = absurd (false_true e)
variable_mode mode.TypeName e = absurd (false_true e)
variable_mode mode.Constant e = absurd (false_true e)
variable_mode mode.Nil e = absurd (false_true e)
variable_mode mode.Builtin e = absurd (false_true e)
variable_mode mode.Tuple e = absurd (false_true e)

value_typed : {o : Operand} {t : Term} {m : Mode} → IsTyped o t → o.mode ≡ m → is_constant m ≡ false → o ≡ value_of m t
value_typed (typed_value {t = t} h) e n = ap (λ (x : Mode). value_of x t) e
value_typed typed_constant e n = absurd (false_true (sym n ∙ ap is_constant (sym e)))

pub typed_variable : (o : Operand) (t : Term) → IsTyped o t → is_variable o.mode ≡ true → o ≡ variable t
typed_variable o t h e = value_typed h (variable_mode o.mode e) refl

pub typed_plain : (o : Operand) (t : Term) → IsTyped o t → o.mode ≡ mode.Plain → o ≡ plain t
typed_plain o t h e = value_typed h e refl

pub typed_by_shape : (o : Operand) (t : Term) → o.shape ≡ shape.Of t → is_value_mode o.mode ≡ true → IsTyped o t
typed_by_shape o t e h = typed_by o.mode o.shape t h e

pub typed_by_constant : (o : Operand) (c : ConstTerm) (v : Value) (t : Term) → o ≡ constant_of c v → c ≡ constant.OfTerm t → IsTyped o t
typed_by_constant o c v t e f = subst (λ (x : Operand). IsTyped x t) (sym (e ∙ ap (λ (x : ConstTerm). constant_of x v) f)) typed_constant

shape_of : {o : Operand} {t : Term} → IsTyped o t → ((c : ConstTerm) (v : Value) → o ≡ constant_of c v → ⊥) → (is_value_mode o.mode ≡ true) × (o.shape ≡ shape.Of t)
shape_of (typed_value h) none = (h, refl)
shape_of typed_constant none = absurd (none _ _ refl)

pub untyped_mode : (o : Operand) → ((c : ConstTerm) (v : Value) → o ≡ constant_of c v → ⊥) → is_value_mode o.mode ≡ false → (t : Term) → IsTyped o t → ⊥
untyped_mode o none f t h = false_true (sym f ∙ (shape_of h none).0)

pub untyped_shape : (o : Operand) (s : Shape) → ((c : ConstTerm) (v : Value) → o ≡ constant_of c v → ⊥) → o.shape ≡ s → ((t : Term) → s ≡ shape.Of t → ⊥) → (t : Term) → IsTyped o t → ⊥
untyped_shape o s none e other t h = other t (sym e ∙ (shape_of h none).1)

kind_apart : {t : Term} {k : Untyped} → ◌≡◌ {A = ConstTerm} (constant.OfTerm t) (constant.OfKind k) → ⊥
kind_apart e = absurd (cc)

fixed_apart : {c : ConstTerm} {v : Value} {t : Term} → ◌≡◌ {A = Shape} (shape.Fixed c v) (shape.Of t) → ⊥
fixed_apart e = absurd (cc)

pub untyped_fixed : (o : Operand) (c : ConstTerm) (v : Value) → ((c : ConstTerm) (v : Value) → o ≡ constant_of c v → ⊥) → o.shape ≡ shape.Fixed c v → (t : Term) → IsTyped o t → ⊥
untyped_fixed o c v none e t h = untyped_shape o (shape.Fixed c v) none e (λ u f. fixed_apart f) t h

pub kind_typed : (E : Env) (c : ConstTerm) (t : Term) (b : Basic) → c ≡ constant.OfTerm t → under E.table t ≡ Term-F.Plain b → HasKind E c (kind.Typed b)
kind_typed E c t b e f = subst (λ (x : ConstTerm). HasKind E x (kind.Typed b)) (sym e) (kind_of_type f)

pub kind_untyped : (E : Env) (c : ConstTerm) (k : Untyped) → c ≡ constant.OfKind k → HasKind E c (kind.Loose k)
kind_untyped E c k e = subst (λ (x : ConstTerm). HasKind E x (kind.Loose k)) (sym e) kind_of_untyped

pub untyped_by_constant : (o : Operand) (c : ConstTerm) (v : Value) (k : Untyped) → o ≡ constant_of c v → c ≡ constant.OfKind k → IsUntyped o k
untyped_by_constant o c v k e f = subst (λ (x : Operand). IsUntyped x k) (sym (e ∙ ap (λ (x : ConstTerm). constant_of x v) f)) untyped_constant

pub no_type_of_kind : (o : Operand) (c : ConstTerm) (v : Value) (k : Untyped) → o ≡ constant_of c v → c ≡ constant.OfKind k → (t : Term) → IsTyped o t → ⊥
no_type_of_kind o c v k e f t h = typed_or_untyped h (untyped_by_constant o c v k e f)

pub no_kind_of_type : (o : Operand) (c : ConstTerm) (v : Value) (t : Term) → o ≡ constant_of c v → c ≡ constant.OfTerm t → (k : Untyped) → IsUntyped o k → ⊥
no_kind_of_type o c v t e f k h = typed_or_untyped (typed_by_constant o c v t e f) h

pub untyped_by_loose : (o : Operand) → o ≡ loose untyped.BoolKind → IsUntyped o untyped.BoolKind
untyped_by_loose o e = subst (λ (x : Operand). IsUntyped x untyped.BoolKind) (sym e) untyped_truth

untyped_in : {o : Operand} {k : Untyped} → IsUntyped o k → ((c : ConstTerm) (v : Value) → o ≡ constant_of c v → ⊥) → o ≡ loose untyped.BoolKind
untyped_in untyped_constant none = absurd (none _ _ refl)
untyped_in untyped_truth none = refl

pub no_kind_of_loose : (o : Operand) → ((c : ConstTerm) (v : Value) → o ≡ constant_of c v → ⊥) → (o ≡ loose untyped.BoolKind → ⊥) → (k : Untyped) → IsUntyped o k → ⊥
no_kind_of_loose o none other k h = other (untyped_in h none)

pub value_at : (o : Operand) (c : ConstTerm) (v : Value) → o ≡ constant_of c v → HasValue o v
value_at o c v e = subst (λ (x : Operand). HasValue x v) (sym e) has_value

constant_in : {o : Operand} {v : Value} → HasValue o v → (c : ConstTerm) × (o ≡ constant_of c v)
constant_in has_value = (_, refl)

pub no_value_at : (o : Operand) → ((c : ConstTerm) (v : Value) → o ≡ constant_of c v → ⊥) → (v : Value) → HasValue o v → ⊥
no_value_at o none v x = none _ _ (constant_in x).1

pub of_type : (o : Operand) (t u : Term) → IsTyped o t → u ≡ t → IsOf o (constant.OfTerm u)
of_type o t u h e = is_of_type (subst (IsTyped o) (sym e) h)

of_neither : {o : Operand} {c : ConstTerm} → ((t : Term) → IsTyped o t → ⊥) → ((k : Untyped) → IsUntyped o k → ⊥) → IsOf o c → ⊥
of_neither none no_kind (is_of_type h) = none _ h
of_neither none no_kind (is_of_kind h) = no_kind _ h

pub of_nothing : (o : Operand) → ((t : Term) → IsTyped o t → ⊥) → ((k : Untyped) → IsUntyped o k → ⊥) → (c : ConstTerm) → IsOf o c → ⊥
of_nothing o none no_kind c x = of_neither none no_kind x

module _ (E : Env) where
  pub integer_decides : (o : Operand) (t : Term) (b : Bool) → is_constant o.mode ≡ false → IsTyped o t → Decides b ((k : Basic) × (under E.table t ≡ Term-F.Plain k) × (is_integer (class_of_basic k) ≡ true)) → Decides b (IsIntegerValue E o)
  integer_decides o t true n h d = record { variable = n; term = t; typed = h; underlying = d.0; under_term = d.1; integer = d.2 }
  integer_decides o t false n h d = λ x. d (x.underlying, ap (under E.table) (one_type h x.typed) ∙ x.under_term, x.integer)

  pub string_decides : (o : Operand) (t : Term) (b : Bool) → is_constant o.mode ≡ false → IsTyped o t → Decides b (under E.table t ≡ Term-F.Plain basic.Str) → Decides b (IsStringValue E o)
  string_decides o t true n h d = record { variable = n; term = t; typed = h; under_term = d }
  string_decides o t false n h d = λ x. d (ap (under E.table) (one_type h x.typed) ∙ x.under_term)
