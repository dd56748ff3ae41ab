-- The variables of a spec, one by one.
use Rattle.std.proofs.Common.{◌≡◌, ℕ, List, [], ◌∷◌, Option, Some, None, Result, length, map, refl, sym, subst}
use Rattle.std.specs.List.{AllZip}
use Rattle.go_model.specs.declared.constants.value.Untyped.{Untyped}
use Rattle.go_model.specs.declared.constants.value.Untyped.TheVariants as untyped
use Rattle.go_model.specs.declared.types.package.Entity.{Entity}
use Rattle.go_model.specs.declared.types.package.Entity.TheVariants as entity
use Rattle.go_model.specs.declared.types.term.Term.{Term}
use Rattle.go_rules.specs.Environments.{Env}
use Rattle.go_rules.specs.Operands.{IsTyped, default_type, loose}
use Rattle.go_rules.specs.declared.operand.Operand.{Operand}
use Rattle.go_syntax.specs.declared.declaration.VarSpec.{VarSpec}
use Rattle.go_syntax.specs.declared.expression.Expr.{Expr}
use Rattle.go_syntax.specs.declared.types.«Type».{«Type» as Typ}
use Rattle.go_type_terms.specs.Answers.{Tells}
use Rattle.go_type_terms.specs.declared.error.ExprError.{ExprError}
use Rattle.go_type_terms.proofs.NamedTypes.{same_tells}
use Rattle.go_typings.specs.Initializers.{Initialize, TypeOfValue, own_type, default_of_constant, default_of_truth, TypesOfValues, types_none, types_more}
use Rattle.go_typings.proofs.OneEntry.{initialize_once}
use Rattle.go_expr.specs.go_usability.Answers.{Gives}
use Rattle.go_entries.specs.inner.Variables.{AreTypedVariables, AreUntypedVariables, AreVariablesBy, AreVariablesOf, HasConstantDefault, HasDefault, default_constant, default_truth, IsDefaultType, IsVariable}

module _ (E : Env) where
  -- ---- the type of one value

  pub to_default : (o : Operand) (k : Untyped) → HasConstantDefault E o k → HasDefault E o k
  to_default o k h = subst (λ (p : Operand). HasDefault E p k) (sym h.1) (default_constant h.2)

  pub in_default : (o : Operand) → (o ≡ loose untyped.BoolKind → ⊥) → (k : Untyped) → HasDefault E o k → HasConstantDefault E o k
  in_default o none k (default_constant h) = (_, refl, h)
  in_default o none k default_truth = absurd (none refl)

  pub truth_default : (o : Operand) → o ≡ loose untyped.BoolKind → HasDefault E o untyped.BoolKind
  truth_default o e = subst (λ (p : Operand). HasDefault E p untyped.BoolKind) (sym e) default_truth

  pub given_default : (o : Operand) (r : Option Untyped) → (o ≡ loose untyped.BoolKind → ⊥) → Gives (HasConstantDefault E o) r → Gives (HasDefault E o) r
  given_default o (Some k) none h = to_default o k h
  given_default o None none h = λ k d. h k (in_default o none k d)

  defaulted : (o : Operand) (k : Untyped) → HasDefault E o k → TypeOfValue E o (default_type k)
  defaulted o k (default_constant h) = default_of_constant h
  defaulted o k default_truth = default_of_truth

  pub to_value : (o : Operand) (t : Term) → IsDefaultType E o t → TypeOfValue E o t
  to_value o t h = subst (λ (u : Term). TypeOfValue E o u) (sym h.2) (defaulted o h.0 h.1)

  pub in_value : (o : Operand) → ((t : Term) → IsTyped o t → ⊥) → (t : Term) → TypeOfValue E o t → IsDefaultType E o t
  in_value o none t (own_type h) = absurd (none t h)
  in_value o none t (default_of_constant h) = (_, default_constant h, refl)
  in_value o none t default_of_truth = (_, default_truth, refl)

  -- ---- all variables

  more_types : (o : Operand) (os : List Operand) (x : Entity) (xs : List Entity) → IsVariable E o x → (ts : List Term) × TypesOfValues E os ts × (xs ≡ map entity.Var ts) → (ts : List Term) × TypesOfValues E (o ∷ os) ts × (x ∷ xs ≡ map entity.Var ts)
  more_types o os x xs v r = (v.0 ∷ r.0, types_more v.1 r.1, λ i. v.2 i ∷ r.2 i)

  pub to_types : (os : List Operand) (xs : List Entity) → AllZip (IsVariable E) os xs → (ts : List Term) × TypesOfValues E os ts × (xs ≡ map entity.Var ts)
  to_types [] [] h = ([], types_none, refl)
  to_types [] (x ∷ xs) h = absurd h
  to_types (o ∷ os) [] h = absurd h
  to_types (o ∷ os) (x ∷ xs) h = more_types o os x xs h.0 (to_types os xs h.1)

  typed_zip : (os : List Operand) (ts : List Term) → TypesOfValues E os ts → AllZip (IsVariable E) os (map entity.Var ts)
  typed_zip os ts types_none = tt
  typed_zip os ts (types_more h r) = ((_, h, refl), typed_zip _ _ r)

  pub in_types : (os : List Operand) (xs : List Entity) (ts : List Term) → TypesOfValues E os ts → xs ≡ map entity.Var ts → AllZip (IsVariable E) os xs
  in_types os xs ts h e = subst (λ (ys : List Entity). AllZip (IsVariable E) os ys) (sym e) (typed_zip os ts h)

  module _ (n : ℕ) (es : List Expr) (os : List Operand) (given : Initialize E n es os) where
    to_untyped : (xs : List Entity) → AllZip (IsVariable E) os xs → AreUntypedVariables E n es xs
    to_untyped xs h = let t = to_types os xs h in (os, t.0, given, t.1, t.2)

    in_untyped : (xs : List Entity) → AreUntypedVariables E n es xs → AllZip (IsVariable E) os xs
    in_untyped xs h = in_types os xs h.1 (subst (λ (ps : List Operand). TypesOfValues E ps h.1) (initialize_once E h.2 given) h.3) h.4

    pub told_untyped : (ps : List Operand) (r : Result (List Entity) ExprError) → ps ≡ os → Tells {A = List Entity} (AllZip (IsVariable E) ps) r → Tells {A = List Entity} (AreUntypedVariables E n es) r
    told_untyped ps r i t = same_tells (AllZip (IsVariable E) os) (AreUntypedVariables E n es) r to_untyped in_untyped (subst (λ (qs : List Operand). Tells {A = List Entity} (AllZip (IsVariable E) qs) r) i t)

  -- ---- by the type of the spec

  module _ (s : VarSpec) (n : ℕ) (same : n ≡ length s.names) (r : Result (List Entity) ExprError) where
    pub told_by_type : (t : Typ) → s.type_ ≡ Some t → Tells {A = List Entity} (AreTypedVariables E n t) r → Tells {A = List Entity} (AreVariablesOf E s) r
    told_by_type t i h =
        subst (λ (o : Option Typ). Tells {A = List Entity} (AreVariablesBy E o (length s.names) s.values) r) (sym i)
        (subst (λ (k : ℕ). Tells {A = List Entity} (AreTypedVariables E k t) r) same h)

    pub told_by_values : (es : List Expr) → es ≡ s.values → s.type_ ≡ None → Tells {A = List Entity} (AreUntypedVariables E n es) r → Tells {A = List Entity} (AreVariablesOf E s) r
    told_by_values es j i h =
        subst (λ (o : Option Typ). Tells {A = List Entity} (AreVariablesBy E o (length s.names) s.values) r) (sym i)
        (subst (λ (k : ℕ). Tells {A = List Entity} (AreUntypedVariables E k s.values) r) same (subst (λ (xs : List Expr). Tells {A = List Entity} (AreUntypedVariables E n xs) r) j h))
