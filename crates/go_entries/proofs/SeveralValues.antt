-- The values that one operand gives several names.
use Rattle.std.proofs.Common.{◌≡◌, ℕ, List, [], Bool, true, false, Result, map, refl, sym, ap, ◌∙◌, subst}
use Rattle.go_model.specs.declared.types.term.Term.{Term}
use Rattle.go_rules.specs.Environments.{Env}
use Rattle.go_rules.specs.Expressions.{Has}
use Rattle.go_rules.specs.Operands.{plain, tuple, value_of}
use Rattle.go_rules.specs.declared.operand.Mode.TheVariants as mode
use Rattle.go_rules.specs.declared.operand.Operand.{Operand}
use Rattle.go_rules.specs.declared.operand.Shape.{Shape}
use Rattle.go_rules.specs.declared.operand.Shape.TheVariants as shape
use Rattle.go_rules.proofs.OneKind.{no_truth}
use Rattle.go_rules.proofs.OneOperand.{has_once}
use Rattle.go_selectors.specs.Answers.{Decides}
use Rattle.go_syntax.specs.declared.expression.Expr.{Expr}
use Rattle.go_type_terms.specs.Answers.{Tells}
use Rattle.go_type_terms.specs.declared.error.ExprError.{ExprError}
use Rattle.go_type_terms.proofs.NamedTypes.{same_tells}
use Rattle.go_typings.specs.Initializers.{GivesValueAndTruth, two_of_map, two_of_value, IsAssertionOrReceive}
use Rattle.go_entries.specs.inner.Values.{AreResults, AreTwo, AreValuesOf, values_of_results, values_with_truth, GivesSeveral, gives_results, gives_truth, IsTuple, IsWithTruth, truth_of_map, truth_of_value}

abbrev is_many : Shape → Bool
is_many (shape.Many ts) = true
is_many s = false

abbrev many_in : Shape → List Term
many_in (shape.Many ts) = ts
many_in s = []

tuple_once : {o : Operand} {ts us : List Term} → IsTuple o ts → IsTuple o us → ts ≡ us
tuple_once a b = ap (λ (z : Operand). many_in z.shape) (sym a ∙ b)

not_many : {told : Bool} {o : Operand} {t : Term} → IsWithTruth told o t → is_many o.shape ≡ false
not_many truth_of_map = refl
not_many (truth_of_value h) = refl

no_tuple : {told : Bool} {o : Operand} {t : Term} {ts : List Term} → IsTuple o ts → IsWithTruth told o t → ⊥
no_tuple a h = no_truth (sym (ap (λ (z : Operand). is_many z.shape) a) ∙ not_many h)

-- where the operand is results
results_alone : (n : ℕ) (told : Bool) (o : Operand) (ts : List Term) → IsTuple o ts → (os : List Operand) → AreValuesOf n told o os → AreResults n ts os
results_alone n told o ts e os (values_of_results us a h) = subst (λ (vs : List Term). AreResults n vs os) (tuple_once a e) h
results_alone n told o ts e os (values_with_truth h) = absurd (no_tuple e h.1)

-- where it isn't
truth_alone : (n : ℕ) (told : Bool) (o : Operand) → ((ts : List Term) → IsTuple o ts → ⊥) → (os : List Operand) → AreValuesOf n told o os → AreTwo n told o os
truth_alone n told o none os (values_of_results us a h) = absurd (none us a)
truth_alone n told o none os (values_with_truth h) = h

-- an element of a map, and a value where it is told
pub map_truth : (told : Bool) (o : Operand) (t : Term) → o.mode ≡ mode.MapElement → o.shape ≡ shape.Of t → IsWithTruth told o t
map_truth told o t m s =
    let e : o ≡ value_of mode.MapElement t = λ i. record { mode = m i; shape = s i } in
    subst (λ (p : Operand). IsWithTruth told p t) (sym e) truth_of_map

pub value_truth : (told : Bool) (o : Operand) (t : Term) → o.mode ≡ mode.Plain → o.shape ≡ shape.Of t → told ≡ true → IsWithTruth told o t
value_truth told o t m s h =
    let e : o ≡ plain t = λ i. record { mode = m i; shape = s i } in
    subst (λ (p : Operand). IsWithTruth told p t) (sym e) (truth_of_value h)

module _ (n : ℕ) (told : Bool) (o : Operand) (r : Result (List Operand) ExprError) where
  pub told_results : (ts us : List Term) → IsTuple o ts → us ≡ ts → Tells {A = List Operand} (AreResults n us) r → Tells {A = List Operand} (AreValuesOf n told o) r
  told_results ts us e i t =
      same_tells (AreResults n ts) (AreValuesOf n told o) r (λ os h. values_of_results ts e h) (results_alone n told o ts e) (subst (λ (vs : List Term). Tells {A = List Operand} (AreResults n vs) r) i t)

  pub told_truth : ((ts : List Term) → IsTuple o ts → ⊥) → Tells {A = List Operand} (AreTwo n told o) r → Tells {A = List Operand} (AreValuesOf n told o) r
  told_truth none t = same_tells (AreTwo n told o) (AreValuesOf n told o) r (λ os h. values_with_truth h) (truth_alone n told o none) t

told_so : (e : Expr) (b : Bool) → Decides b (IsAssertionOrReceive e) → IsAssertionOrReceive e → b ≡ true
told_so e true d h = refl
told_so e false d h = absurd (d h)

so_told : (e : Expr) (b : Bool) → Decides b (IsAssertionOrReceive e) → b ≡ true → IsAssertionOrReceive e
so_told e true d i = d
so_told e false d i = absurd (cc)

module _ (E : Env) (e : Expr) (told : Bool) (d : Decides told (IsAssertionOrReceive e)) where
  with_truth : {o : Operand} {t : Term} → Has E e o → IsWithTruth told o t → GivesValueAndTruth E e t
  with_truth h truth_of_map = two_of_map h
  with_truth h (truth_of_value i) = two_of_value (so_told e told d i) h

  truth_with : (o : Operand) (t : Term) → Has E e o → GivesValueAndTruth E e t → IsWithTruth told o t
  truth_with o t h (two_of_map k) = subst (λ (p : Operand). IsWithTruth told p t) (has_once E k h) truth_of_map
  truth_with o t h (two_of_value i k) = subst (λ (p : Operand). IsWithTruth told p t) (has_once E k h) (truth_of_value (told_so e told d i))

  several_results : (n : ℕ) (ts : List Term) (os : List Operand) → Has E e (tuple ts) → AreResults n ts os → GivesSeveral E n e os
  several_results n ts os h r = subst (λ (ps : List Operand). GivesSeveral E n e ps) (sym r.2) (gives_results h r.0 r.1)

  several_truth : (n : ℕ) (o : Operand) (os : List Operand) → Has E e o → AreTwo n told o os → GivesSeveral E n e os
  several_truth n o os h t = subst (λ (ps : List Operand). GivesSeveral E n e ps) (sym t.3) (gives_truth (with_truth h t.1) t.2)

  pub to_several : (n : ℕ) (o : Operand) → Has E e o → (os : List Operand) → AreValuesOf n told o os → GivesSeveral E n e os
  to_several n o h os (values_of_results ts a r) = several_results n ts os (subst (λ (p : Operand). Has E e p) a h) r
  to_several n o h os (values_with_truth t) = several_truth n o os h t

  pub in_several : (n : ℕ) (o : Operand) → Has E e o → (os : List Operand) → GivesSeveral E n e os → AreValuesOf n told o os
  in_several n o h os (gives_results {ts = ts} k i j) = values_of_results ts (has_once E h k) (i, j, refl)
  in_several n o h os (gives_truth {t = t} k i) = values_with_truth (t, truth_with o t h k, i, refl)
