-- The values that one expression gives several names.
use Rattle.std.specs.Prelude.{◌≡◌, ◌≤◌, ℕ, Bool, true, List, [], ◌∷◌, ◌++◌, map, length}
use Rattle.go_model.specs.declared.constants.value.Untyped.TheVariants as untyped
use Rattle.go_model.specs.declared.types.term.Term.{Term}
use Rattle.go_rules.specs.Environments.{Env}
use Rattle.go_rules.specs.Expressions.{Has}
use Rattle.go_rules.specs.Operands.{loose, plain, tuple, value_of}
use Rattle.go_rules.specs.declared.operand.Mode.TheVariants as mode
use Rattle.go_rules.specs.declared.operand.Operand.{Operand}
use Rattle.go_syntax.specs.declared.expression.Expr.{Expr}
use Rattle.go_syntax.specs.declared.expression.Post.{Post, Post-F, out-Post}
use Rattle.go_syntax.specs.declared.types.«Type».{«Type» as Typ}
use Rattle.go_typings.specs.Initializers.{GivesValueAndTruth}

-- the last of what follows an operand is a type assertion
abbrev pub EndsInAssertion : List Post → Type 0
EndsInAssertion ps = (qs : List Post) × (p : Post) × (t : Typ) × (ps ≡ qs ++ p ∷ []) × (out-Post p ≡ Post-F.TypeAssertion t)

-- the operand is the results of a call
abbrev pub IsTuple : Operand → List Term → Type 0
IsTuple o ts = o ≡ tuple ts

-- an element of a map, or, where it is told, the value of a type assertion or a receive
pub data IsWithTruth (told : Bool) : Operand → Term → Type 0 where
  truth_of_map : {t : Term} → IsWithTruth told (value_of mode.MapElement t) t
  truth_of_value : {t : Term} → told ≡ true → IsWithTruth told (plain t) t

-- a value of the type, and whether there was one
abbrev pub value_and_truth : Term → List Operand
value_and_truth t = plain t ∷ loose untyped.BoolKind ∷ []

-- so many results of these types
abbrev pub AreResults : ℕ → List Term → List Operand → Type 0
AreResults n ts os = (length ts ≡ n) × (2 ≤ n) × (os ≡ map plain ts)

-- the operand's value and whether there was one, for two names
abbrev pub AreTwo : ℕ → Bool → Operand → List Operand → Type 0
AreTwo n told o os = (t : Term) × IsWithTruth told o t × (n ≡ 2) × (os ≡ value_and_truth t)

-- what one operand gives so many names
pub data AreValuesOf (n : ℕ) (told : Bool) (o : Operand) (os : List Operand) : Type 0 where
  values_of_results : (ts : List Term) → IsTuple o ts → AreResults n ts os → AreValuesOf n told o os
  values_with_truth : AreTwo n told o os → AreValuesOf n told o os

-- what one expression gives so many names
pub data GivesSeveral (E : Env) (n : ℕ) (e : Expr) : List Operand → Type 0 where
  gives_results : {ts : List Term} → Has E e (tuple ts) → length ts ≡ n → 2 ≤ n → GivesSeveral E n e (map plain ts)
  gives_truth : {t : Term} → GivesValueAndTruth E e t → n ≡ 2 → GivesSeveral E n e (value_and_truth t)
