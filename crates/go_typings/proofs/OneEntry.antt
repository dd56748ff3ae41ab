-- A declaration is given one entry.
use Rattle.std.proofs.Common.{◌≡◌, ℕ, ◌≤◌, Bool, true, false, List, [], ◌∷◌, Option, Some, map, length, refl, sym, ap, ◌∙◌, subst, arith}
use Rattle.std.specs.Prelude.{replicate}
use Rattle.go_rules.specs.go_model.declared.constants.value.Untyped.TheVariants as untyped
use Rattle.go_rules.specs.go_model.declared.constants.value.Value.{Value}
use Rattle.go_rules.specs.go_model.declared.types.package.ConstTerm.{ConstTerm}
use Rattle.go_rules.specs.go_model.declared.types.package.ConstTerm.TheVariants as constant
use Rattle.go_rules.specs.go_model.declared.types.package.Entity.{Entity}
use Rattle.go_rules.specs.go_model.declared.types.package.Entity.TheVariants as entity
use Rattle.go_rules.specs.go_model.declared.types.term.Term.{Term, roll-Term}
use Rattle.go_rules.specs.go_model.types.Underlying.{under}
use Rattle.go_rules.specs.Environments.{Env}
use Rattle.go_rules.specs.Expressions.{Has, OfType}
use Rattle.go_rules.specs.Operands.{default_type, loose, plain, tuple}
use Rattle.go_rules.specs.declared.operand.Mode.{Mode}
use Rattle.go_rules.specs.declared.operand.Mode.TheVariants as mode
use Rattle.go_rules.specs.declared.operand.Operand.{Operand}
use Rattle.go_rules.specs.declared.operand.Shape.{Shape}
use Rattle.go_rules.specs.declared.operand.Shape.TheVariants as shape
use Rattle.go_rules.proofs.OneKind.{const_in, no_truth, term_in, typed, value_in}
use Rattle.go_rules.proofs.OneOperand.{each_once, has_once, signature_once, type_once}
use Rattle.go_references.specs.go_syntax.declared.expression.Expr.{Expr}
use Rattle.go_references.specs.go_syntax.declared.types.«Type».{«Type» as Typ}
use Rattle.go_typings.specs.DeclarationRules.{AreConstants, constants_none, constants_more, Gives, gives_constants, gives_typed_variables, gives_variables, gives_alias, gives_definition, gives_function, gives_method, TypeOfConstant, own_kind, given_type}
use Rattle.go_typings.specs.Declarations.{Declaration, Form}
use Rattle.go_typings.specs.Initializers.{GivesValueAndTruth, two_of_map, two_of_value, Initialize, by_each, by_call, by_two, TypeOfValue, own_type, default_of_constant, default_of_truth, TypesOfValues, types_none, types_more}
use Rattle.go_typings.specs.PackageEnvironments.{Entry, objects, underlying, signed}
use Rattle.go_typings.proofs.Cells.{none_some, some_once}

abbrev is_many : Shape → Bool
is_many (shape.Many ts) = true
is_many s = false

abbrev many_in : Shape → List Term
many_in (shape.Many ts) = ts
many_in s = []

abbrev is_plain : Mode → Bool
is_plain mode.Plain = true
is_plain m = false

abbrev of_const : ConstTerm → Term
of_const (constant.OfTerm t) = t
of_const (constant.OfKind k) = default_type k

-- the type of a variable that is given a value
typed_in : {E : Env} {o : Operand} {t : Term} → TypeOfValue E o t → of_const (const_in o.shape) ≡ t
typed_in (own_type h) = ap of_const (typed h)
typed_in (default_of_constant h) = refl
typed_in default_of_truth = refl

one_and_two : {n : ℕ} → 1 ≡ n → 2 ≤ n → ⊥
one_and_two e l = absurd (omega (arith, e, l))

one_is_two : {n : ℕ} → 1 ≡ n → n ≡ 2 → ⊥
one_is_two e f = absurd (omega (arith, e, f))

module _ (E : Env) where
  -- ---- constants

  constant_once : {t : Option Typ} {b c d e : ConstTerm} {v w : Value} → b ≡ c → TypeOfConstant E t b v d → TypeOfConstant E t c w e → d ≡ e
  constant_once p own_kind own_kind = p
  constant_once p (given_type a f i h) (given_type b g j k) = ap constant.OfTerm (type_once E a b)

  constants_once : {t : Option Typ} {es : List Expr} {xs ys : List Entity} → AreConstants E t es xs → AreConstants E t es ys → xs ≡ ys
  constants_once constants_none constants_none = refl
  constants_once (constants_more a h r) (constants_more b k q) =
      let o = has_once E a b in
      let d = constant_once (ap (λ (z : Operand). const_in z.shape) o) h k in
      let v = ap (λ (z : Operand). value_in z.shape) o in
      let xs = constants_once r q in
      λ i. entity.Const (d i) (v i) ∷ xs i

  -- ---- values of variables

  no_tuple : {e : Expr} {t : Term} {ts : List Term} → GivesValueAndTruth E e t → Has E e (tuple ts) → ⊥
  no_tuple (two_of_map a) b = no_truth (ap (λ (z : Operand). is_many z.shape) (has_once E b a))
  no_tuple (two_of_value i a) b = no_truth (ap (λ (z : Operand). is_many z.shape) (has_once E b a))

  two_once : {e : Expr} {t u : Term} → GivesValueAndTruth E e t → GivesValueAndTruth E e u → t ≡ u
  two_once (two_of_map a) (two_of_map b) = ap (λ (z : Operand). term_in (const_in z.shape)) (has_once E a b)
  two_once (two_of_map a) (two_of_value i b) = absurd (no_truth (ap (λ (z : Operand). is_plain z.mode) (has_once E b a)))
  two_once (two_of_value i a) (two_of_map b) = absurd (no_truth (ap (λ (z : Operand). is_plain z.mode) (has_once E a b)))
  two_once (two_of_value i a) (two_of_value j b) = ap (λ (z : Operand). term_in (const_in z.shape)) (has_once E a b)

  pub initialize_once : {n : ℕ} {es : List Expr} {os ps : List Operand} → Initialize E n es os → Initialize E n es ps → os ≡ ps
  initialize_once (by_each a e) (by_each b f) = each_once E a b
  initialize_once (by_each a e) (by_call b f l) = absurd (one_and_two e l)
  initialize_once (by_each a e) (by_two b f) = absurd (one_is_two e f)
  initialize_once (by_call a e l) (by_each b f) = absurd (one_and_two f l)
  initialize_once (by_call a e l) (by_call b f k) = ap (λ (z : Operand). map plain (many_in z.shape)) (has_once E a b)
  initialize_once (by_call a e l) (by_two b f) = absurd (no_tuple b a)
  initialize_once (by_two a e) (by_each b f) = absurd (one_is_two f e)
  initialize_once (by_two a e) (by_call b f l) = absurd (no_tuple a b)
  initialize_once (by_two a e) (by_two b f) = ap (λ z. plain z ∷ loose untyped.BoolKind ∷ []) (two_once a b)

  value_once : {o : Operand} {t u : Term} → TypeOfValue E o t → TypeOfValue E o u → t ≡ u
  value_once a b = sym (typed_in a) ∙ typed_in b

  values_once : {os : List Operand} {ts us : List Term} → TypesOfValues E os ts → TypesOfValues E os us → ts ≡ us
  values_once types_none types_none = refl
  values_once (types_more a r) (types_more b q) = let t = value_once a b in let ts = values_once r q in λ i. t i ∷ ts i

  same_values : {os ps : List Operand} {ts us : List Term} → os ≡ ps → TypesOfValues E os ts → TypesOfValues E ps us → ts ≡ us
  same_values {us = us} e a b = values_once a (subst (λ z. TypesOfValues E z us) (sym e) b)

  same_type : {c : Option Typ} {t r : Typ} {u v : Term} → c ≡ Some t → OfType E t u → c ≡ Some r → OfType E r v → u ≡ v
  same_type {t = t} {r = r} {v = v} e a f b = type_once E a (subst (λ z. OfType E z v) (some_once r t (sym f ∙ e)) b)

  -- ---- declarations

  pub gives_once : {ds : List Declaration} {f : Form} {x y : Entry} → Gives E ds f x → Gives E ds f y → x ≡ y
  gives_once (gives_constants a e) (gives_constants b f) = ap objects (constants_once a b)
  gives_once (gives_typed_variables {s = s} e a) (gives_typed_variables f b) = ap (λ z. objects (replicate (length s.names) (entity.Var z))) (same_type e a f b)
  gives_once (gives_typed_variables {s = s} {t = t} e a) (gives_variables f b k) = none_some s.type_ t f e
  gives_once (gives_variables e a h) (gives_typed_variables {s = s} {t = t} f b) = none_some s.type_ t e f
  gives_once (gives_variables e a h) (gives_variables f b k) = ap (λ z. objects (map entity.Var z)) (same_values (initialize_once a b) h k)
  gives_once (gives_alias a) (gives_alias b) = ap (λ z. objects (entity.TypeOf z ∷ [])) (type_once E a b)
  gives_once (gives_definition a e n h) (gives_definition b f m k) = ap (λ z. underlying (roll-Term z)) (sym e ∙ ap (under E.table) (type_once E a b) ∙ f)
  gives_once (gives_function a i) (gives_function b j) = ap (λ z. objects (entity.Function z ∷ [])) (signature_once E a b)
  gives_once (gives_method a i) (gives_method b j) = ap signed (signature_once E a b)
