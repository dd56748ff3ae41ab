-- Among more entries a declaration is given what it was given.
use Rattle.std.proofs.Common.{◌≡◌, ℕ, true, false, List, Option, refl, subst}
use Rattle.go_rules.specs.go_model.declared.types.package.ConstTerm.{ConstTerm}
use Rattle.go_rules.specs.go_model.declared.constants.value.Value.{Value}
use Rattle.go_rules.specs.go_model.declared.types.package.Entity.{Entity}
use Rattle.go_rules.specs.go_model.declared.types.term.Term.{Term, Term-F}
use Rattle.go_rules.specs.go_model.types.Terms.{Layer}
use Rattle.go_rules.specs.Environments.{Env}
use Rattle.go_rules.specs.Growth.{Grows}
use Rattle.go_rules.specs.declared.operand.Operand.{Operand}
use Rattle.go_rules.proofs.GrowOperand.{all_more, has_more, signature_more, type_more}
use Rattle.go_rules.proofs.GrowRelations.{usable_more}
use Rattle.go_rules.proofs.GrowTypes.{form_more, is_form, joined, joined_is}
use Rattle.go_rules.proofs.OneKind.{no_truth}
use Rattle.go_references.specs.go_syntax.declared.expression.Expr.{Expr}
use Rattle.go_references.specs.go_syntax.declared.types.«Type».{«Type» as Typ}
use Rattle.go_typings.specs.DeclarationRules.{AreConstants, constants_none, constants_more, Gives, gives_constants, gives_typed_variables, gives_variables, gives_alias, gives_definition, gives_function, gives_method, MayDefine, TypeOfConstant, own_kind, given_type, is_name}
use Rattle.go_typings.specs.Declarations.{Declaration, Form}
use Rattle.go_typings.specs.Initializers.{GivesValueAndTruth, two_of_map, two_of_value, Initialize, by_each, by_call, by_two, TypeOfValue, own_type, default_of_constant, default_of_truth, TypesOfValues, types_none, types_more}
use Rattle.go_typings.specs.PackageEnvironments.{Entry}

no_name : (l : Layer) → is_name l ≡ false → is_form l ≡ true
no_name (Term-F.Named n) h = absurd (no_truth h)
no_name l h = refl

module _ (E F : Env) (m : Grows E F) where
  abbrev G : Env
  G = joined E F

  constant_more : {t : Option Typ} {c d : ConstTerm} {v : Value} → TypeOfConstant E t c v d → TypeOfConstant G t c v d
  constant_more own_kind = own_kind
  constant_more (given_type {u = u} {b = b} a e i h) = given_type (type_more E F m a) (form_more E F m u (Term-F.Plain b) refl e) i (usable_more E F m h)

  constants_more_of : {t : Option Typ} {es : List Expr} {xs : List Entity} → AreConstants E t es xs → AreConstants G t es xs
  constants_more_of constants_none = constants_none
  constants_more_of (constants_more a h r) = constants_more (has_more E F m a) (constant_more h) (constants_more_of r)

  two_more : {e : Expr} {t : Term} → GivesValueAndTruth E e t → GivesValueAndTruth G e t
  two_more (two_of_map a) = two_of_map (has_more E F m a)
  two_more (two_of_value i a) = two_of_value i (has_more E F m a)

  pub initialize_more : {n : ℕ} {es : List Expr} {os : List Operand} → Initialize E n es os → Initialize G n es os
  initialize_more (by_each a e) = by_each (all_more E F m a) e
  initialize_more (by_call a e l) = by_call (has_more E F m a) e l
  initialize_more (by_two a e) = by_two (two_more a) e

  value_more : {o : Operand} {t : Term} → TypeOfValue E o t → TypeOfValue G o t
  value_more (own_type h) = own_type h
  value_more (default_of_constant h) = default_of_constant h
  value_more default_of_truth = default_of_truth

  values_more : {os : List Operand} {ts : List Term} → TypesOfValues E os ts → TypesOfValues G os ts
  values_more types_none = types_none
  values_more (types_more a r) = types_more (value_more a) (values_more r)

  define_more : (ds : List Declaration) (t : Typ) (l : Layer) → MayDefine E ds t l → MayDefine G ds t l
  define_more ds t l h = λ p. h (m.profile p)

  joined_gives : {ds : List Declaration} {f : Form} {x : Entry} → Gives E ds f x → Gives G ds f x
  joined_gives (gives_constants a e) = gives_constants (constants_more_of a) e
  joined_gives (gives_typed_variables e a) = gives_typed_variables e (type_more E F m a)
  joined_gives (gives_variables e a h) = gives_variables e (initialize_more a) (values_more h)
  joined_gives (gives_alias a) = gives_alias (type_more E F m a)
  joined_gives {ds = ds} (gives_definition {s = s} {u = u} {l = l} a e n h) = gives_definition (type_more E F m a) (form_more E F m u l (no_name l n) e) n (define_more ds s.type_ l h)
  joined_gives (gives_function a b) = gives_function (signature_more E F m a) b
  joined_gives (gives_method a b) = gives_method (signature_more E F m a) b

  pub gives_more : {ds : List Declaration} {f : Form} {x : Entry} → Gives E ds f x → Gives F ds f x
  gives_more {ds = ds} {f = f} {x = x} g = subst (λ z. Gives z ds f x) (joined_is E F m) (joined_gives g)
