-- Operators between two operands: what they make, and where they make nothing.
use Rattle.std.proofs.Common.{◌≡◌, ℕ, Bool, true, false, ◌&&◌, not, Option, Some, None, refl, sym, ap, ◌∙◌, subst, if◌then◌else◌}
use Rattle.std.specs.Option.{option_map}
use Rattle.go_model.specs.constants.Classes.{class_of, is_integer}
use Rattle.go_model.specs.constants.Constants.{binary_value}
use Rattle.go_model.specs.constants.Operators.{binary_applies}
use Rattle.go_model.specs.declared.constants.value.BinaryOp.{BinaryOp}
use Rattle.go_model.specs.declared.constants.value.Kind.{Kind}
use Rattle.go_model.specs.declared.constants.value.Value.{Value}
use Rattle.go_model.specs.declared.types.package.ConstTerm.{ConstTerm}
use Rattle.go_rules.specs.Environments.{Env}
use Rattle.go_rules.specs.Expressions.{Computes, computes_constant, computes_value, divides, is_constant, is_zero_constant}
use Rattle.go_rules.specs.Operands.{HasKind, computed, constant_of}
use Rattle.go_rules.specs.Usability.{Match}
use Rattle.go_rules.specs.declared.operand.Operand.{Operand}
use Rattle.go_rules.proofs.OneKind.{no_truth, one_kind, one_match}
use Rattle.go_usability.specs.Answers.{Gives}
use Rattle.go_operators.specs.inner.Constants.{HasValue, has_value, ConstantsCompute, constants_compute}
use Rattle.go_operators.proofs.Answers.{given_test, none_some, false_true}

-- ---- the value of two constants

no_left_value : {op : BinaryOp} {k : Kind} {bits : ℕ} {l r : Operand} {z : Value} → ((v : Value) → HasValue l v → ⊥) → ConstantsCompute op k bits l r z → ⊥
no_left_value none (constants_compute e) = none _ has_value

no_right_value : {op : BinaryOp} {k : Kind} {bits : ℕ} {l r : Operand} {z : Value} → ((v : Value) → HasValue r v → ⊥) → ConstantsCompute op k bits l r z → ⊥
no_right_value none (constants_compute e) = none _ has_value

module _ (op : BinaryOp) (k : Kind) (bits : ℕ) (l r : Operand) where
  pub compute_no_left : ((v : Value) → HasValue l v → ⊥) → (z : Value) → ConstantsCompute op k bits l r z → ⊥
  compute_no_left none z x = no_left_value none x

  pub compute_no_right : ((v : Value) → HasValue r v → ⊥) → (z : Value) → ConstantsCompute op k bits l r z → ⊥
  compute_no_right none z x = no_right_value none x

both_values : {op : BinaryOp} {k : Kind} {bits : ℕ} {l r : Operand} {v w z : Value} → HasValue l v → HasValue r w → binary_value op v w k bits ≡ Some z → ConstantsCompute op k bits l r z
both_values has_value has_value e = constants_compute e

value_of_both : {op : BinaryOp} {k : Kind} {bits : ℕ} {l r : Operand} {v w z : Value} → HasValue l v → HasValue r w → ConstantsCompute op k bits l r z → binary_value op v w k bits ≡ Some z
value_of_both has_value has_value (constants_compute e) = e

pub computed_both : (op : BinaryOp) (k : Kind) (bits : ℕ) (l r : Operand) (v w : Value) (z : Option Value) → HasValue l v → HasValue r w → z ≡ binary_value op v w k bits → Gives (ConstantsCompute op k bits l r) z
computed_both op k bits l r v w (Some z) a b e = both_values a b (sym e)
computed_both op k bits l r v w None a b e = λ z x. none_some (e ∙ value_of_both a b x)

-- ---- the result

module _ (E : Env) (op : BinaryOp) where
  no_match : {l r s : Operand} → ((d : ConstTerm) → Match E l r d → ⊥) → Computes E op l r s → ⊥
  no_match none (computes_constant m h e) = none _ m
  no_match none (computes_value n m h a z) = none _ m

  pub compute_no_match : (l r : Operand) → ((d : ConstTerm) → Match E l r d → ⊥) → (s : Operand) → Computes E op l r s → ⊥
  compute_no_match l r none s x = no_match none x

  of_kind : {l r : Operand} {c d : ConstTerm} {k : Kind} → Match E l r c → Match E l r d → HasKind E d k → HasKind E c k
  of_kind {k = k} m n h = subst (λ (x : ConstTerm). HasKind E x k) (one_match n m) h

  no_kind : {l r s : Operand} {d : ConstTerm} → Match E l r d → ((k : Kind) → HasKind E d k → ⊥) → Computes E op l r s → ⊥
  no_kind m none (computes_constant n h e) = none _ (of_kind m n h)
  no_kind m none (computes_value f n h a z) = none _ (of_kind m n h)

  pub compute_no_kind : (l r : Operand) (d : ConstTerm) → Match E l r d → ((k : Kind) → HasKind E d k → ⊥) → (s : Operand) → Computes E op l r s → ⊥
  compute_no_kind l r d m none s x = no_kind m none x

  of_constants : {l r : Operand} {d : ConstTerm} {k : Kind} {z : Value} → Match E l r d → HasKind E d k → ConstantsCompute op k E.bits l r z → Computes E op l r (constant_of d z)
  of_constants m h (constants_compute e) = computes_constant m h e

  to_constants : {l r s : Operand} {d : ConstTerm} {k : Kind} → Match E l r d → HasKind E d k → (is_constant l.mode && is_constant r.mode) ≡ true → Computes E op l r s → (z : Value) × ConstantsCompute op k E.bits l r z
  to_constants m h c (computes_constant {v = v} {w = w} {z = z} n g e) = (z, constants_compute (subst (λ (x : Kind). binary_value op v w x E.bits ≡ Some z) (one_kind (of_kind m n g) h) e))
  to_constants m h c (computes_value f n g a z) = absurd (false_true (sym f ∙ c))

  compute_constants : (l r : Operand) (d : ConstTerm) (k : Kind) (z : Option Value) → Match E l r d → HasKind E d k → (is_constant l.mode && is_constant r.mode) ≡ true → Gives (ConstantsCompute op k E.bits l r) z → Gives (Computes E op l r) (option_map (constant_of d) z)
  compute_constants l r d k (Some z) m h c g = of_constants m h g
  compute_constants l r d k None m h c g = λ s x. g (to_constants m h c x).0 (to_constants m h c x).1

  abbrev may : Kind → Operand → Bool
  may k r = binary_applies op (class_of k) && not ((divides op && is_integer (class_of k)) && is_zero_constant r.shape)

  both : (a b : Bool) → (a && not b) ≡ true → (a ≡ true) × (b ≡ false)
  both true false e = (refl, refl)
  both true true e = absurd (false_true e)
  both false b e = absurd (false_true e)

  and_not : (a b : Bool) → a ≡ true → b ≡ false → (a && not b) ≡ true
  and_not a b e f = ap (λ (x : Bool). x && not b) e ∙ ap not f

  may_be : {l r s : Operand} {d : ConstTerm} {k : Kind} → Match E l r d → HasKind E d k → (is_constant l.mode && is_constant r.mode) ≡ false → Computes E op l r s → may k r ≡ true
  may_be m h c (computes_constant n g e) = absurd (no_truth c)
  may_be {r = r} m h c (computes_value {k = j} f n g a z) = subst (λ (x : Kind). may x r ≡ true) (one_kind (of_kind m n g) h) (and_not (binary_applies op (class_of j)) ((divides op && is_integer (class_of j)) && is_zero_constant r.shape) a z)

  compute_values : (l r : Operand) (d : ConstTerm) (k : Kind) → Match E l r d → HasKind E d k → (is_constant l.mode && is_constant r.mode) ≡ false → Gives (Computes E op l r) (if may k r then Some (computed d) else None)
  compute_values l r d k m h c =
      given_test (Computes E op l r) (may k r) (computed d)
      (λ t. let p = both (binary_applies op (class_of k)) ((divides op && is_integer (class_of k)) && is_zero_constant r.shape) t in computes_value c m h p.0 p.1)
      (λ s x. may_be m h c x)

  pub computed_constants : (l r : Operand) (d : ConstTerm) (k : Kind) (n : ℕ) (z : Option Value) → Match E l r d → HasKind E d k → n ≡ E.bits → (is_constant l.mode && is_constant r.mode) ≡ true → Gives (ConstantsCompute op k n l r) z → Gives (Computes E op l r) (option_map (constant_of d) z)
  computed_constants l r d k n z m h e c g = compute_constants l r d k z m h c (subst (λ (x : ℕ). Gives (ConstantsCompute op k x l r) z) e g)

  pub computed_values : (l r : Operand) (d : ConstTerm) (k : Kind) (b : Bool) → Match E l r d → HasKind E d k → (is_constant l.mode && is_constant r.mode) ≡ false → b ≡ may k r → Gives (Computes E op l r) (if b then Some (computed d) else None)
  computed_values l r d k b m h c e = subst (λ (x : Bool). Gives (Computes E op l r) (if x then Some (computed d) else None)) (sym e) (compute_values l r d k m h c)
