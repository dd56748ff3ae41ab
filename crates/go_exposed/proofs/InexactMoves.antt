-- Inexact constants are so among more entries too, and in a closed region to which the declaration refers alone.
use Rattle.std.proofs.Common.{◌≡◌, List, [], ◌∷◌, Option, Some, None, map, refl, subst, inl, inr}
use Rattle.go_base.specs.Lists.{Each, Has}
use Rattle.go_model.specs.declared.types.term.Term.{Term, Term-F}
use Rattle.go_typings.specs.go_rules.Environments.{Env}
use Rattle.go_typings.specs.go_rules.Expressions.{Has as HasOperand, OfType}
use Rattle.go_typings.specs.go_rules.Growth.{Grows}
use Rattle.go_typings.specs.go_rules.Nodes.{expression, optional, type}
use Rattle.go_typings.specs.go_rules.Operands.{plain}
use Rattle.go_typings.specs.go_rules.Regions.{IsClosed, RefersIn, Region, TermIn, cut}
use Rattle.go_typings.specs.go_rules.Usability.{UsableAs}
use Rattle.go_typings.proofs.go_rules_proofs.GrowOperand.{has_more, type_more}
use Rattle.go_typings.proofs.go_rules_proofs.GrowRelations.{usable_more}
use Rattle.go_typings.proofs.go_rules_proofs.GrowTypes.{form_more, joined_is}
use Rattle.go_typings.proofs.go_rules_proofs.LocalOperand.{has_local, type_local}
use Rattle.go_typings.proofs.go_rules_proofs.LocalParts.{each_left, each_right}
use Rattle.go_typings.proofs.go_rules_proofs.LocalRelations.{usable_local}
use Rattle.go_typings.proofs.go_rules_proofs.LocalTypes.{form_same}
use Rattle.go_syntax.specs.declared.declaration.ConstSpec.{ConstSpec}
use Rattle.go_syntax.specs.declared.expression.Expr.{Expr}
use Rattle.go_syntax.specs.declared.types.«Type».{«Type» as Typ}
use Rattle.go_typings.specs.DeclarationNodes.{nodes}
use Rattle.go_typings.specs.Declarations.{Form, constants, variables, alias, definition, function, method}
use Rattle.go_typings.proofs.Cells.{none_some, some_once}
use Rattle.go_exposed.specs.BeyondProfile.{GivesInexact, HasInexactType, HasInexactValue, HoldsInexact, IsInexact, IsValue, IsValueOf}
use Rattle.go_exposed.proofs.MaybeConstants.{may_in, may_more}

each_to : {P Q : Expr → Type 0} (es : List Expr) → ((e : Expr) → Has es e → P e → Q e) → Each P es → Each Q es
each_to [] f h = tt
each_to (e ∷ es) f h = (f e (inl refl) h.0, each_to es (λ x i. f x (inr i)) h.1)

-- ---- more entries

module _ (E F : Env) (m : Grows E F) where
  inexact_more : (t : Term) → IsInexact E t → IsInexact F t
  inexact_more t k = record { basic = k.basic; is = form_more E F m t (Term-F.Plain k.basic) refl k.is; inexact = k.inexact }

  value_more : (e : Expr) → IsValue E e → IsValue F e
  value_more e k = record { operand = k.operand; has = subst (λ z. HasOperand z e k.operand) (joined_is E F m) (has_more E F m k.has); constant = may_more E F m k.constant }

  value_of_more : (t : Term) (e : Expr) → IsValueOf E t e → IsValueOf F t e
  value_of_more t e k = record {
    operand = k.operand;
    has = subst (λ z. HasOperand z e k.operand) (joined_is E F m) (has_more E F m k.has);
    usable = subst (λ z. UsableAs z k.operand t) (joined_is E F m) (usable_more E F m k.usable);
    constant = may_more E F m k.constant;
  }

  given_more : (s : ConstSpec) → GivesInexact E s → GivesInexact F s
  given_more s k = record {
    form = k.form;
    given = k.given;
    type = k.type;
    is = subst (λ z. OfType z k.form k.type) (joined_is E F m) (type_more E F m k.is);
    inexact = inexact_more k.type k.inexact;
    counted = k.counted;
    values = each_to s.values (λ e i. value_of_more k.type e) k.values;
  }

  held_more : (s : ConstSpec) → HoldsInexact E s → HoldsInexact F s
  held_more s k = record {
    own = k.own;
    counted = k.counted;
    values = each_to s.values (λ e i. value_more e) k.values;
    value = k.value;
    among = k.among;
    type = k.type;
    has = subst (λ z. HasOperand z k.value (plain k.type)) (joined_is E F m) (has_more E F m k.has);
    inexact = inexact_more k.type k.inexact;
  }

  pub type_grows : (f : Form) → HasInexactType E f → HasInexactType F f
  type_grows (constants c place) k = given_more c k
  type_grows (variables c) k = k
  type_grows (alias c) k = k
  type_grows (definition c) k = k
  type_grows (function f) k = k
  type_grows (method r f) k = k

  pub value_grows : (f : Form) → HasInexactValue E f → HasInexactValue F f
  value_grows (constants c place) k = held_more c k
  value_grows (variables c) k = k
  value_grows (alias c) k = k
  value_grows (definition c) k = k
  value_grows (function f) k = k
  value_grows (method r f) k = k

-- ---- a region

module _ (E : Env) (R : Region) (w : IsClosed E R) where
  abbrev C : Env
  C = cut R E

  inexact_in : (t : Term) → TermIn R t → IsInexact E t → IsInexact C t
  inexact_in t i k = record { basic = k.basic; is = form_same E R w t (Term-F.Plain k.basic) i k.is; inexact = k.inexact }

  refers_in : (es : List Expr) (e : Expr) → Each (RefersIn R) (map expression es) → Has es e → RefersIn R (expression e)
  refers_in [] e r h = absurd h
  refers_in (x ∷ es) e r (inl q) = subst (λ z. RefersIn R (expression z)) q r.0
  refers_in (x ∷ es) e r (inr h) = refers_in es e r.1 h

  value_here : (e : Expr) → RefersIn R (expression e) → IsValue E e → IsValue C e
  value_here e r k = record { operand = k.operand; has = (has_local E R w k.has r).0; constant = may_in E R w r k.constant }

  value_of_here : (t : Term) → TermIn R t → (e : Expr) → RefersIn R (expression e) → IsValueOf E t e → IsValueOf C t e
  value_of_here t i e r k =
      let f = has_local E R w k.has r in
      record { operand = k.operand; has = f.0; usable = usable_local E R w f.1 i k.usable; constant = may_in E R w r k.constant }

  form_in : (o : Option Typ) (t : Typ) → o ≡ Some t → Each (RefersIn R) (optional type o) → RefersIn R (type t)
  form_in None t e r = none_some {A = Typ} None t refl e
  form_in (Some x) t e r = subst (λ z. RefersIn R (type z)) (some_once x t e) r.0

  given_in : (s : ConstSpec) → Each (RefersIn R) (optional type s.type_) → Each (RefersIn R) (map expression s.values) → GivesInexact E s → GivesInexact C s
  given_in s r q k =
      let f = type_local E R w k.is (form_in s.type_ k.form k.given r) in
      record {
        form = k.form;
        given = k.given;
        type = k.type;
        is = f.0;
        inexact = inexact_in k.type f.1 k.inexact;
        counted = k.counted;
        values = each_to s.values (λ e i. value_of_here k.type f.1 e (refers_in s.values e q i)) k.values;
      }

  held_in : (s : ConstSpec) → Each (RefersIn R) (map expression s.values) → HoldsInexact E s → HoldsInexact C s
  held_in s q k =
      let f = has_local E R w k.has (refers_in s.values k.value q k.among) in
      record {
        own = k.own;
        counted = k.counted;
        values = each_to s.values (λ e i. value_here e (refers_in s.values e q i)) k.values;
        value = k.value;
        among = k.among;
        type = k.type;
        has = f.0;
        inexact = inexact_in k.type f.1 k.inexact;
      }

  pub type_in : (f : Form) → Each (RefersIn R) (nodes f) → HasInexactType E f → HasInexactType C f
  type_in (constants c place) r k = given_in c (each_left (RefersIn R) (optional type c.type_) (map expression c.values) r) (each_right (RefersIn R) (optional type c.type_) (map expression c.values) r) k
  type_in (variables c) r k = k
  type_in (alias c) r k = k
  type_in (definition c) r k = k
  type_in (function f) r k = k
  type_in (method q f) r k = k

  pub value_in : (f : Form) → Each (RefersIn R) (nodes f) → HasInexactValue E f → HasInexactValue C f
  value_in (constants c place) r k = held_in c (each_right (RefersIn R) (optional type c.type_) (map expression c.values) r) k
  value_in (variables c) r k = k
  value_in (alias c) r k = k
  value_in (definition c) r k = k
  value_in (function f) r k = k
  value_in (method q f) r k = k
