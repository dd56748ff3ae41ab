-- Strings: what they are, and where there are none.
use Rattle.std.proofs.Common.{◌≡◌, ℕ, Bool, Option, Some, None, refl, sym, subst, length, List}
use Rattle.go_model.specs.declared.constants.value.Basic.TheVariants as basic
use Rattle.go_model.specs.declared.constants.value.Untyped.{Untyped}
use Rattle.go_model.specs.declared.constants.value.Value.{Value}
use Rattle.go_model.specs.declared.constants.value.Value.TheVariants as value
use Rattle.go_model.specs.declared.types.package.ConstTerm.{ConstTerm}
use Rattle.go_model.specs.declared.types.package.ConstTerm.TheVariants as constant
use Rattle.go_model.specs.declared.types.term.Term.{Term, Term-F}
use Rattle.go_model.specs.types.Underlying.{under}
use Rattle.go_rules.specs.Environments.{Env}
use Rattle.go_rules.specs.Expressions.{IsString, string_value, string_typed, string_untyped}
use Rattle.go_rules.specs.Operands.{constant_of}
use Rattle.go_rules.specs.declared.operand.Operand.{Operand}
use Rattle.go_rules.proofs.OneKind.{no_truth}
use Rattle.go_operators.specs.go_selectors.Answers.{Decides}
use Rattle.go_elements.specs.inner.Strings.{IsStringKind}
use Rattle.go_operators.specs.inner.Values.{IsStringValue}

module _ (E : Env) where
  string_kind : {c : ConstTerm} {v : Value} {n : Option ℕ} → IsString E (constant_of c v) n → IsStringKind E c
  string_kind (string_value n h e) = absurd (no_truth n)
  string_kind (string_typed e) = e
  string_kind string_untyped = tt

  pub constant_length_kind : (c : ConstTerm) (v : Value) → (IsStringKind E c → ⊥) → (n : ℕ) → IsString E (constant_of c v) (Some n) → ⊥
  constant_length_kind c v none n x = none (string_kind x)

  at_text : (c : ConstTerm) (s : List ℕ) → IsStringKind E c → IsString E (constant_of c (value.Str s)) (Some (length s))
  at_text (constant.OfTerm t) s i = string_typed i
  at_text (constant.OfKind k) s i = string_untyped

  pub constant_length_text : (c : ConstTerm) (v : Value) (s b : List ℕ) → IsStringKind E c → v ≡ value.Str s → b ≡ s → IsString E (constant_of c v) (Some (length b))
  constant_length_text c v s b i e f = subst (λ (x : List ℕ). IsString E (constant_of c v) (Some (length x))) (sym f) (subst (λ (x : Value). IsString E (constant_of c x) (Some (length s))) (sym e) (at_text c s i))

  pub string_decides : (c : ConstTerm) (t : Term) (b : Bool) → c ≡ constant.OfTerm t → Decides b (under E.table t ≡ Term-F.Plain basic.Str) → Decides b (IsStringKind E c)
  string_decides c t b e d = subst (λ (x : ConstTerm). Decides b (IsStringKind E x)) (sym e) d

  pub string_of_kind : (c : ConstTerm) (k : Untyped) → c ≡ constant.OfKind k → IsStringKind E c
  string_of_kind c k e = subst (IsStringKind E) (sym e) tt

  string_constant : {c : ConstTerm} {v : Value} {n : Option ℕ} → IsString E (constant_of c v) n → (m : ℕ) × (n ≡ Some m)
  string_constant (string_value n h e) = absurd (no_truth n)
  string_constant (string_typed e) = (_, refl)
  string_constant string_untyped = (_, refl)

  pub string_of_text : (o : Operand) (c : ConstTerm) (v : Value) (n : ℕ) → o ≡ constant_of c v → IsString E (constant_of c v) (Some n) → IsString E o (Some n)
  string_of_text o c v n e x = subst (λ (y : Operand). IsString E y (Some n)) (sym e) x

  no_text : {c : ConstTerm} {v : Value} {n : Option ℕ} → ((m : ℕ) → IsString E (constant_of c v) (Some m) → ⊥) → IsString E (constant_of c v) n → ⊥
  no_text {c = c} {v = v} none x = none (string_constant x).0 (subst (IsString E (constant_of c v)) (string_constant x).1 x)

  pub string_of_no_text : (o : Operand) (c : ConstTerm) (v : Value) → o ≡ constant_of c v → ((m : ℕ) → IsString E (constant_of c v) (Some m) → ⊥) → (n : Option ℕ) → IsString E o n → ⊥
  string_of_no_text o c v e none n x = no_text none (subst (λ (y : Operand). IsString E y n) e x)

  pub string_of_value : (o : Operand) → IsStringValue E o → IsString E o None
  string_of_value o i = string_value i.variable i.typed i.under_term

  string_is_value : {o : Operand} {n : Option ℕ} → ((c : ConstTerm) (v : Value) → o ≡ constant_of c v → ⊥) → IsString E o n → IsStringValue E o
  string_is_value none (string_value {t = t} n h e) = record { variable = n; term = t; typed = h; under_term = e }
  string_is_value none (string_typed e) = absurd (none _ _ refl)
  string_is_value none string_untyped = absurd (none _ _ refl)

  pub string_of_nothing : (o : Operand) → ((c : ConstTerm) (v : Value) → o ≡ constant_of c v → ⊥) → (IsStringValue E o → ⊥) → (n : Option ℕ) → IsString E o n → ⊥
  string_of_nothing o none other n x = other (string_is_value none x)
