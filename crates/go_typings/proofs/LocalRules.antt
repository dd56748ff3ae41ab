-- What a declaration is given depends on a closed region alone, where it refers to that alone, and is of it.
use Rattle.std.proofs.Common.{◌≡◌, ℕ, zero, suc, true, List, [], ◌∷◌, ◌++◌, Option, Some, map, subst}
use Rattle.std.specs.Prelude.{replicate}
use Rattle.go_references.specs.go_base.Lists.{Each}
use Rattle.go_rules.specs.go_model.declared.constants.value.Untyped.{Untyped}
use Rattle.go_rules.specs.go_model.declared.constants.value.Untyped.TheVariants as untyped
use Rattle.go_rules.specs.go_model.declared.constants.value.Basic.TheVariants as basic
use Rattle.go_rules.specs.go_model.declared.constants.value.Value.{Value}
use Rattle.go_rules.specs.go_model.declared.types.package.ConstTerm.{ConstTerm}
use Rattle.go_rules.specs.go_model.declared.types.package.Entity.{Entity}
use Rattle.go_rules.specs.go_model.declared.types.package.Entity.TheVariants as entity
use Rattle.go_rules.specs.go_model.declared.types.term.Term.{Term, Term-F}
use Rattle.go_rules.specs.Environments.{Env}
use Rattle.go_rules.specs.Expressions.{HasEach, each_none, each_more}
use Rattle.go_rules.specs.Nodes.{Node, expression, optional, type}
use Rattle.go_rules.specs.Operands.{default_type}
use Rattle.go_rules.specs.Regions.{ConstIn, EntityIn, IsClosed, NameIn, RefersIn, Region, TermIn, cut, node_names}
use Rattle.go_rules.specs.declared.operand.Operand.{Operand}
use Rattle.go_rules.proofs.LocalAsks.{whole_signature_local}
use Rattle.go_rules.proofs.LocalOperand.{has_local, type_local}
use Rattle.go_rules.proofs.LocalParts.{each_left, each_right, plains_in}
use Rattle.go_rules.proofs.LocalRelations.{OperandIn, basic_in, typed_in, usable_local}
use Rattle.go_rules.proofs.LocalTerms.{close_in, form_in}
use Rattle.go_rules.proofs.LocalTypes.{form_same}
use Rattle.go_references.specs.go_syntax.declared.expression.Expr.{Expr}
use Rattle.go_references.specs.go_syntax.declared.name.Name.{Name}
use Rattle.go_references.specs.go_syntax.declared.types.«Type».{«Type» as Typ}
use Rattle.go_typings.specs.DeclarationRules.{AreConstants, constants_none, constants_more, Gives, gives_constants, gives_typed_variables, gives_variables, gives_alias, gives_definition, gives_function, gives_method, TypeOfConstant, own_kind, given_type}
use Rattle.go_typings.specs.DeclarationNodes.{nodes}
use Rattle.go_typings.specs.Declarations.{Declaration, Form}
use Rattle.go_typings.specs.Initializers.{GivesValueAndTruth, two_of_map, two_of_value, Initialize, by_each, by_call, by_two, TypeOfValue, own_type, default_of_constant, default_of_truth, TypesOfValues, types_none, types_more}
use Rattle.go_typings.specs.PackageEnvironments.{Entry}
use Rattle.go_typings.proofs.ReachedRegion.{EntryIn}

default_in : (R : Region) (k : Untyped) → TermIn R (default_type k)
default_in R untyped.IntKind = basic_in R basic.Int
default_in R untyped.RuneKind = basic_in R basic.Int32
default_in R untyped.StrKind = basic_in R basic.Str
default_in R untyped.BoolKind = basic_in R basic.Bool

-- where all names are of the region, each tree refers to it alone
names_all : (R : Region) → ((name : List ℕ) → R.names name ≡ true) → (ns : List Name) → Each (NameIn R) ns
names_all R every [] = tt
names_all R every (n ∷ ns) = (every n.text, names_all R every ns)

refers : (R : Region) → ((name : List ℕ) → R.names name ≡ true) → (at : Node) → RefersIn R at
refers R every at b h = names_all R every (node_names b)

pub all_refer : (R : Region) → ((name : List ℕ) → R.names name ≡ true) → (xs : List Node) → Each (RefersIn R) xs
all_refer R every [] = tt
all_refer R every (x ∷ xs) = (refers R every x, all_refer R every xs)

module _ (E : Env) (R : Region) (w : IsClosed E R) where
  abbrev C : Env
  C = cut R E

  -- the trees refer to the region alone
  abbrev Refer : List Node → Type 0
  Refer xs = Each (RefersIn R) xs

  -- ---- constants

  constant_local : {t : Option Typ} {c d : ConstTerm} {v : Value} → Refer (optional type t) → TypeOfConstant E t c v d → ConstIn R c → TypeOfConstant C t c v d × ConstIn R d
  constant_local n own_kind i = (own_kind, i)
  constant_local n (given_type {u = u} {b = b} a e i h) k = let f = type_local E R w a n.0 in (given_type f.0 (form_same E R w u (Term-F.Plain b) f.1 e) i (usable_local E R w k f.1 h), f.1)

  constants_local : {t : Option Typ} {es : List Expr} {xs : List Entity} → Refer (optional type t) → Refer (map expression es) → AreConstants E t es xs → AreConstants C t es xs × Each (EntityIn R) xs
  constants_local n m constants_none = (constants_none, tt)
  constants_local n m (constants_more a h r) =
      let f = has_local E R w a m.0 in let g = constant_local n h f.1 in let q = constants_local n m.1 r in
      (constants_more f.0 g.0 q.0, (g.1, q.1))

  -- ---- variables

  each_local : {es : List Expr} {os : List Operand} → Refer (map expression es) → HasEach E es os → HasEach C es os × Each (OperandIn R) os
  each_local n each_none = (each_none, tt)
  each_local n (each_more a r) = let f = has_local E R w a n.0 in let q = each_local n.1 r in (each_more f.0 q.0, (f.1, q.1))

  two_local : {e : Expr} {t : Term} → RefersIn R (expression e) → GivesValueAndTruth E e t → GivesValueAndTruth C e t × TermIn R t
  two_local n (two_of_map a) = let f = has_local E R w a n in (two_of_map f.0, f.1)
  two_local n (two_of_value i a) = let f = has_local E R w a n in (two_of_value i f.0, f.1)

  pub initialize_local : {n : ℕ} {es : List Expr} {os : List Operand} → Refer (map expression es) → Initialize E n es os → Initialize C n es os × Each (OperandIn R) os
  initialize_local n (by_each a e) = let f = each_local n a in (by_each f.0 e, f.1)
  initialize_local n (by_call {ts = ts} a e l) = let f = has_local E R w a n.0 in (by_call f.0 e l, plains_in R ts f.1)
  initialize_local n (by_two a e) = let f = two_local n.0 a in (by_two f.0 e, (f.1, (tt, tt)))

  value_local : {o : Operand} {t : Term} → TypeOfValue E o t → OperandIn R o → TypeOfValue C o t × TermIn R t
  value_local (own_type h) i = (own_type h, typed_in R i h)
  value_local (default_of_constant {k = k} h) i = (default_of_constant h, default_in R k)
  value_local default_of_truth i = (default_of_truth, default_in R untyped.BoolKind)

  variables_in : {os : List Operand} {ts : List Term} → TypesOfValues E os ts → Each (OperandIn R) os → TypesOfValues C os ts × Each (EntityIn R) (map entity.Var ts)
  variables_in types_none i = (types_none, tt)
  variables_in (types_more a r) i = let f = value_local a i.0 in let q = variables_in r i.1 in (types_more f.0 q.0, (f.1, q.1))

  same_in : (n : ℕ) (t : Term) → TermIn R t → Each (EntityIn R) (replicate n (entity.Var t))
  same_in zero t i = tt
  same_in (suc n) t i = (i, same_in n t i)

  -- ---- declarations

  typed_refer : (c : Option Typ) (t : Typ) (es : List Expr) → c ≡ Some t → Refer (optional type c ++ map expression es) → RefersIn R (type t)
  typed_refer c t es e n = (subst (λ z. Refer (optional type z)) e (each_left (RefersIn R) (optional type c) (map expression es) n)).0

  pub gives_local : {ds : List Declaration} {f : Form} {x : Entry} → Refer (nodes f) → Gives E ds f x → Gives C ds f x × EntryIn R x
  gives_local n (gives_constants {s = s} a e) = let f = constants_local (each_left (RefersIn R) (optional type s.type_) (map expression s.values) n) (each_right (RefersIn R) (optional type s.type_) (map expression s.values) n) a in (gives_constants f.0 e, f.1)
  gives_local n (gives_typed_variables {s = s} {t = t} {u = u} e a) = let f = type_local E R w a (typed_refer s.type_ t s.values e n) in (gives_typed_variables e f.0, same_in _ u f.1)
  gives_local n (gives_variables {s = s} e a h) = let f = initialize_local (each_right (RefersIn R) (optional type s.type_) (map expression s.values) n) a in let g = variables_in h f.1 in (gives_variables e f.0 g.0, g.1)
  gives_local n (gives_alias a) = let f = type_local E R w a n.0 in (gives_alias f.0, (f.1, tt))
  gives_local n (gives_definition {u = u} {l = l} a e m h) = let f = type_local E R w a n.0 in (gives_definition f.0 (form_same E R w u l f.1 e) m h, close_in R l (form_in E R w u l f.1 e))
  gives_local n (gives_function {f = x} a b) = let f = whole_signature_local E R w x.signature n.0 a in (gives_function f.0 b, (f.1, tt))
  gives_local n (gives_method {f = x} a b) = let f = whole_signature_local E R w x.signature n.1.0 a in (gives_method f.0 b, f.1)
