-- What a declaration is given is kept, where the environment is, and the members in it are named well.
use Rattle.std.proofs.Common.{◌≡◌, ℕ, zero, suc, List, ◌++◌, Option, Some, map, subst}
use Rattle.std.specs.Prelude.{replicate}
use Rattle.go_base.specs.Lists.{Each}
use Rattle.go_model.specs.declared.constants.value.Untyped.TheVariants as untyped
use Rattle.go_model.specs.declared.constants.value.Value.{Value}
use Rattle.go_model.specs.declared.types.names.Sel.{Sel}
use Rattle.go_model.specs.declared.types.names.TypeName.{TypeName}
use Rattle.go_model.specs.declared.types.package.ConstTerm.{ConstTerm}
use Rattle.go_model.specs.declared.types.package.Entity.{Entity}
use Rattle.go_model.specs.declared.types.package.Entity.TheVariants as entity
use Rattle.go_model.specs.declared.types.term.Term.{Term}
use Rattle.go_rules.proofs.LocalParts.{each_left, each_right}
use Rattle.go_rules.specs.Environments.{Env}
use Rattle.go_rules.specs.Expressions.{HasEach, each_none, each_more}
use Rattle.go_rules.specs.Nodes.{Node, expression, optional, type}
use Rattle.go_rules.specs.declared.operand.Operand.{Operand}
use Rattle.go_syntax.specs.declared.expression.Expr.{Expr}
use Rattle.go_syntax.specs.declared.types.«Type».{«Type» as Typ}
use Rattle.go_typings.specs.DeclarationNodes.{nodes}
use Rattle.go_typings.specs.DeclarationRules.{AreConstants, constants_none, constants_more, Gives, gives_constants, gives_typed_variables, gives_variables, gives_alias, gives_definition, gives_function, gives_method, TypeOfConstant, own_kind, given_type}
use Rattle.go_typings.specs.Declarations.{Declaration, Form}
use Rattle.go_typings.specs.Initializers.{GivesValueAndTruth, two_of_map, two_of_value, Initialize, by_each, by_call, by_two, TypeOfValue, own_type, default_of_constant, default_of_truth, TypesOfValues, types_none, types_more}
use Rattle.go_typings.specs.PackageEnvironments.{Entry}
use Rattle.go_typed_packages.proofs.KeptFinds.{level_kept}
use Rattle.go_typed_packages.proofs.KeptResults.{default_kept, plains_kept, typed_kept}
use Rattle.go_typed_packages.proofs.KeptRules.{has_kept, type_kept, whole_kept}
use Rattle.go_typed_packages.proofs.KeptTerms.{close_term}
use Rattle.go_typed_packages.specs.inner.KeptTypes.{ConstKept, EntityKept, EntryKept, EnvKept, OperandKept, TermKept}
use Rattle.go_typed_packages.specs.inner.NamedMembers.{AreNamed}

module _ (N : TypeName → Type 0) (S : Sel → Type 0) (E : Env) (w : EnvKept N S E) where
  abbrev Named : List Node → Type 0
  Named xs = Each AreNamed xs

  -- ---- constants

  constant_kept : {t : Option Typ} {c d : ConstTerm} {v : Value} → Named (optional type t) → TypeOfConstant E t c v d → ConstKept N S c → ConstKept N S d
  constant_kept n own_kind k = k
  constant_kept n (given_type a e i h) k = type_kept N S E w a n.0

  constants_kept : {t : Option Typ} {es : List Expr} {xs : List Entity} → Named (optional type t) → Named (map expression es) → AreConstants E t es xs → Each (EntityKept N S) xs
  constants_kept n m constants_none = tt
  constants_kept n m (constants_more a h r) = (constant_kept n h (has_kept N S E w a m.0), constants_kept n m.1 r)

  -- ---- variables

  each_kept : {es : List Expr} {os : List Operand} → Named (map expression es) → HasEach E es os → Each (OperandKept N S) os
  each_kept n each_none = tt
  each_kept n (each_more a r) = (has_kept N S E w a n.0, each_kept n.1 r)

  two_kept : {e : Expr} {t : Term} → AreNamed (expression e) → GivesValueAndTruth E e t → TermKept N S t
  two_kept n (two_of_map a) = has_kept N S E w a n
  two_kept n (two_of_value i a) = has_kept N S E w a n

  initialize_kept : {n : ℕ} {es : List Expr} {os : List Operand} → Named (map expression es) → Initialize E n es os → Each (OperandKept N S) os
  initialize_kept n (by_each a e) = each_kept n a
  initialize_kept n (by_call {ts = ts} a e l) = plains_kept N S ts (has_kept N S E w a n.0)
  initialize_kept n (by_two a e) = (two_kept n.0 a, (tt, tt))

  value_kept : {o : Operand} {t : Term} → TypeOfValue E o t → OperandKept N S o → TermKept N S t
  value_kept (own_type h) i = typed_kept N S i h
  value_kept (default_of_constant {k = k} h) i = default_kept N S k
  value_kept default_of_truth i = default_kept N S untyped.BoolKind

  variables_kept : {os : List Operand} {ts : List Term} → TypesOfValues E os ts → Each (OperandKept N S) os → Each (EntityKept N S) (map entity.Var ts)
  variables_kept types_none i = tt
  variables_kept (types_more a r) i = (value_kept a i.0, variables_kept r i.1)

  same_kept : (n : ℕ) (t : Term) → TermKept N S t → Each (EntityKept N S) (replicate n (entity.Var t))
  same_kept zero t h = tt
  same_kept (suc n) t h = (h, same_kept n t h)

  -- ---- declarations

  typed_named : (c : Option Typ) (t : Typ) (es : List Expr) → c ≡ Some t → Named (optional type c ++ map expression es) → AreNamed (type t)
  typed_named c t es e n = (subst (λ z. Named (optional type z)) e (each_left AreNamed (optional type c) (map expression es) n)).0

  pub gives_kept : {ds : List Declaration} {f : Form} {x : Entry} → Named (nodes f) → Gives E ds f x → EntryKept N S x
  gives_kept n (gives_constants {s = s} a e) = constants_kept (each_left AreNamed (optional type s.type_) (map expression s.values) n) (each_right AreNamed (optional type s.type_) (map expression s.values) n) a
  gives_kept n (gives_typed_variables {s = s} {t = t} {u = u} e a) = same_kept _ u (type_kept N S E w a (typed_named s.type_ t s.values e n))
  gives_kept n (gives_variables {s = s} e a h) = variables_kept h (initialize_kept (each_right AreNamed (optional type s.type_) (map expression s.values) n) a)
  gives_kept n (gives_alias a) = (type_kept N S E w a n.0, tt)
  gives_kept n (gives_definition {u = u} {l = l} a e m h) = close_term N S l (level_kept N S E w u l (type_kept N S E w a n.0) e)
  gives_kept n (gives_function {f = f} {g = g} a b) = (whole_kept N S E w f.signature g a n.0, tt)
  gives_kept n (gives_method {f = f} {g = g} a b) = whole_kept N S E w f.signature g a n.1.0
