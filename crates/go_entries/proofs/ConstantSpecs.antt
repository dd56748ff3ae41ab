-- The constants of a spec, one by one.
use Rattle.std.proofs.Common.{◌≡◌, ◌==◌, true, false, length, List, [], ◌∷◌, Option, Some, None, Result, refl, sym, ap, ◌∙◌, subst, arith}
use Rattle.std.proofs.lemmas.Bool.{eqb-true}
use Rattle.std.specs.List.{AllZip}
use Rattle.go_model.specs.declared.types.package.ConstTerm.TheVariants as constant
use Rattle.go_model.specs.declared.types.package.Entity.{Entity}
use Rattle.go_model.specs.declared.types.package.Entity.TheVariants as entity
use Rattle.go_model.specs.declared.types.term.Term.{Term}
use Rattle.go_rules.specs.Environments.{Env}
use Rattle.go_rules.specs.Expressions.{Has, OfType}
use Rattle.go_rules.specs.Operands.{constant_of}
use Rattle.go_rules.specs.Usability.{UsableAs}
use Rattle.go_rules.specs.declared.operand.Operand.{Operand}
use Rattle.go_rules.proofs.OneKind.{no_truth}
use Rattle.go_rules.proofs.OneOperand.{has_once, type_once}
use Rattle.go_syntax.specs.declared.expression.Expr.{Expr}
use Rattle.go_syntax.specs.declared.types.«Type».{«Type» as Typ}
use Rattle.go_typings.specs.DeclarationRules.{AreConstants, constants_none, constants_more, own_kind, given_type}
use Rattle.go_type_terms.specs.Answers.{Tells}
use Rattle.go_type_terms.specs.declared.error.ExprError.{ExprError}
use Rattle.go_type_terms.proofs.NamedTypes.{same_tells}
use Rattle.go_entries.specs.inner.Constants.{HoldsConstants, IsConstant, IsOwnConstant, IsTypedConstant, IsTypeOfConstants}

module _ (E : Env) where
  -- ---- one constant

  module _ (e : Expr) (o : Operand) (has : Has E e o) (r : Result Entity ExprError) where
    pub told_typed : (g : Option Term) (u : Term) → g ≡ Some u → Tells {A = Entity} (IsTypedConstant E u o) r → Tells {A = Entity} (IsConstant E g e) r
    told_typed g u i t = subst (λ (k : Option Term). Tells {A = Entity} (IsConstant E k e) r) (sym i)
        (same_tells (IsTypedConstant E u o) (IsConstant E (Some u) e) r (λ x k. (o, has, k)) (λ x k. subst (λ (p : Operand). IsTypedConstant E u p x) (has_once E k.1 has) k.2) t)

    pub told_own : (g : Option Term) → g ≡ None → Tells {A = Entity} (IsOwnConstant o) r → Tells {A = Entity} (IsConstant E g e) r
    told_own g i t = subst (λ (k : Option Term). Tells {A = Entity} (IsConstant E k e) r) (sym i)
        (same_tells (IsOwnConstant o) (IsConstant E None e) r (λ x k. (o, has, k)) (λ x k. subst (λ (p : Operand). IsOwnConstant p x) (has_once E k.1 has) k.2) t)

  -- ---- without a type

  own_more : (e : Expr) (es : List Expr) (x : Entity) (xs : List Entity) → IsConstant E None e x → AreConstants E None es xs → AreConstants E None (e ∷ es) (x ∷ xs)
  own_more e es x xs h r =
      let k = h.2 in
      subst (λ (y : Entity). AreConstants E None (e ∷ es) (y ∷ xs)) (sym k.3) (constants_more (subst (λ (o : Operand). Has E e o) k.2 h.1) own_kind r)

  pub to_own : (es : List Expr) (xs : List Entity) → AllZip (IsConstant E None) es xs → AreConstants E None es xs
  to_own [] [] h = constants_none
  to_own [] (x ∷ xs) h = absurd h
  to_own (e ∷ es) [] h = absurd h
  to_own (e ∷ es) (x ∷ xs) h = own_more e es x xs h.0 (to_own es xs h.1)

  pub in_own : (es : List Expr) (xs : List Entity) → AreConstants E None es xs → AllZip (IsConstant E None) es xs
  in_own es xs constants_none = tt
  in_own es xs (constants_more h own_kind r) = ((_, h, (_, _, refl, refl)), in_own _ _ r)

  -- ---- of a type

  module _ (t : Typ) (u : Term) (of : OfType E t u) where
    typed_more : HoldsConstants E u → (e : Expr) (es : List Expr) (x : Entity) (xs : List Entity) → IsConstant E (Some u) e x → AreConstants E (Some t) es xs → AreConstants E (Some t) (e ∷ es) (x ∷ xs)
    typed_more holds e es x xs h r =
        let k = h.2.1 in
        subst (λ (y : Entity). AreConstants E (Some t) (e ∷ es) (y ∷ xs)) (sym k.3)
        (constants_more (subst (λ (o : Operand). Has E e o) k.2 h.1) (given_type of holds.1 holds.2 (subst (λ (o : Operand). UsableAs E o u) k.2 h.2.0)) r)

    pub to_typed : HoldsConstants E u → (es : List Expr) (xs : List Entity) → AllZip (IsConstant E (Some u)) es xs → AreConstants E (Some t) es xs
    to_typed holds [] [] h = constants_none
    to_typed holds [] (x ∷ xs) h = absurd h
    to_typed holds (e ∷ es) [] h = absurd h
    to_typed holds (e ∷ es) (x ∷ xs) h = typed_more holds e es x xs h.0 (to_typed holds es xs h.1)

    pub in_typed : (es : List Expr) (xs : List Entity) → AreConstants E (Some t) es xs → AllZip (IsConstant E (Some u)) es xs
    in_typed es xs constants_none = tt
    in_typed es xs (constants_more {c = c} {v = v} h (given_type a f i fits) r) =
        let once = type_once E a of in
        ((_, h, (subst (λ (w : Term). UsableAs E (constant_of c v) w) once fits, (c, v, refl, ap (λ w. entity.Const (constant.OfTerm w) v) once))), in_typed _ _ r)

  -- where there are values, there is the type
  pub type_first : (t : Typ) (es : List Expr) (xs : List Entity) → (es ≡ [] → ⊥) → AreConstants E (Some t) es xs → (u : Term) × IsTypeOfConstants E t u
  type_first t es xs some constants_none = absurd (some refl)
  type_first t es xs some (constants_more h (given_type a f i fits) r) = (_, (a, (_, f, i)))

  pub no_values : (t : Option Typ) (es : List Expr) (xs : List Entity) → (length es == 0) ≡ true → xs ≡ [] → AreConstants E t es xs
  no_values t [] xs e i = subst (λ (ys : List Entity). AreConstants E t [] ys) (sym i) constants_none
  no_values t (d ∷ es) xs e i = absurd (omega (arith, eqb-true (length (d ∷ es)) 0 e))

  pub some_values : (es : List Expr) → (length es == 0) ≡ false → es ≡ [] → ⊥
  some_values es e i = no_truth (sym (ap (λ (ds : List Expr). length ds == 0) i) ∙ e)

  -- ---- a list of them

  module _ (es : List Expr) (r : Result (List Entity) ExprError) where
    pub all_own : (t : Option Typ) → t ≡ None → Tells {A = List Entity} (AllZip (IsConstant E None) es) r → Tells {A = List Entity} (AreConstants E t es) r
    all_own t i h = subst (λ (k : Option Typ). Tells {A = List Entity} (AreConstants E k es) r) (sym i) (same_tells (AllZip (IsConstant E None) es) (AreConstants E None es) r (to_own es) (in_own es) h)

    pub all_typed : (t : Typ) (u : Term) → IsTypeOfConstants E t u → Tells {A = List Entity} (AllZip (IsConstant E (Some u)) es) r → Tells {A = List Entity} (AreConstants E (Some t) es) r
    all_typed t u k h = same_tells (AllZip (IsConstant E (Some u)) es) (AreConstants E (Some t) es) r (to_typed t u k.0 k.1 es) (in_typed t u k.0 es) h
