-- What is sliced, and where there is no slice.
use Rattle.std.proofs.Common.{◌≡◌, ℕ, Bool, true, false, Option, Some, None, refl, sym, ◌∙◌, subst, length}
use Rattle.go_model.specs.declared.constants.value.Basic.TheVariants as basic
use Rattle.go_model.specs.declared.constants.value.Value.{Value}
use Rattle.go_model.specs.declared.constants.value.Value.TheVariants as value
use Rattle.go_model.specs.declared.types.package.ConstTerm.{ConstTerm}
use Rattle.go_model.specs.declared.types.package.ConstTerm.TheVariants as constant
use Rattle.go_model.specs.declared.types.term.Term.{Term, Term-F}
use Rattle.go_model.specs.types.Terms.{Layer, slice_of}
use Rattle.go_model.specs.types.Underlying.{under}
use Rattle.go_rules.specs.Environments.{Env}
use Rattle.go_rules.specs.Expressions.{Slices, slices_string, slices_untyped, slices_array, slices_array_pointer, slices_slice}
use Rattle.go_rules.specs.Operands.{IsTyped, typed_value, untyped_constant, basic_term, constant_of, plain, variable}
use Rattle.go_rules.specs.declared.operand.Operand.{Operand}
use Rattle.go_rules.proofs.OneKind.{one_type, typed_or_untyped}
use Rattle.go_rules.proofs.OneResult.{string_under}
use Rattle.go_operators.specs.go_usability.Answers.{Gives}
use Rattle.go_elements.specs.inner.Sliced.{IsUntypedText, SlicesAt, SlicesBase, SlicesUntyped}
use Rattle.go_operators.proofs.Answers.{false_true}
use Rattle.go_operators.proofs.TypedOperands.{typed_variable}

-- the length of what is sliced, where it is constant, and the slice
abbrev pub Pair : Type 0
Pair = Option ℕ × Operand

-- ---- untyped strings

module _ (simple : Bool) (o : Operand) where
  pub untyped_not_simple : simple ≡ false → (p : Pair) → SlicesUntyped simple o p.0 p.1 → ⊥
  untyped_not_simple f p x = false_true (sym f ∙ x.by_two)

  pub untyped_no_constant : ((c : ConstTerm) (v : Value) → o ≡ constant_of c v → ⊥) → (p : Pair) → SlicesUntyped simple o p.0 p.1 → ⊥
  untyped_no_constant none p x = none x.of x.held x.constant

  pub untyped_some : (c : ConstTerm) (v : Value) (n : ℕ) (r : Operand) → simple ≡ true → o ≡ constant_of c v → IsUntypedText c v n → r ≡ plain (basic_term basic.Str) → SlicesUntyped simple o (Some n) r
  untyped_some c v n r e f t g = record { by_two = e; of = c; held = v; constant = f; size = n; text = t; limit = refl; is = g }

-- ---- typed values

module _ (E : Env) (simple : Bool) where
  of_base : (l : Layer) {o r : Operand} {t base : Term} {n : Option ℕ} → IsTyped o t → under E.table t ≡ Term-F.Pointer base → under E.table base ≡ l → SlicesBase l n r → Slices E simple o n r
  of_base (Term-F.Array m e) {o = o} {r = r} h u v x = subst (λ (y : Option ℕ). Slices E simple o y r) (sym x.0) (subst (Slices E simple o (Some m)) (sym x.1) (slices_array_pointer h u v))
  of_base l h u v x = absurd x

  array_slices : {o : Operand} {t e : Term} {n : ℕ} → under E.table t ≡ Term-F.Array n e → o ≡ variable t → Slices E simple o (Some n) (plain (slice_of e))
  array_slices {t = t} {e = e} {n = n} f g = subst (λ (x : Operand). Slices E simple x (Some n) (plain (slice_of e))) (sym g) (slices_array f)

  of_layer : (l : Layer) {o r : Operand} {t : Term} {n : Option ℕ} → IsTyped o t → under E.table t ≡ l → SlicesAt E simple o t l n r → Slices E simple o n r
  of_layer (Term-F.Plain b) {o = o} {n = n} h u x = subst (Slices E simple o n) (sym x.2) (slices_string x.0 h x.1)
  of_layer (Term-F.Array m e) {o = o} {r = r} {t = t} h u x = subst (λ (y : Option ℕ). Slices E simple o y r) (sym x.1) (subst (Slices E simple o (Some m)) (sym x.2) (array_slices u (typed_variable o t h x.0)))
  of_layer (Term-F.Pointer base) h u x = of_base (under E.table base) h u refl x
  of_layer (Term-F.Slice e) {o = o} {r = r} h u x = subst (λ (y : Option ℕ). Slices E simple o y r) (sym x.0) (subst (Slices E simple o None) (sym x.1) (slices_slice h u))
  of_layer l h u x = absurd x

  at_layer : (r : Operand) (n : Option ℕ) {o : Operand} {t u : Term} {k : Layer} → IsTyped o t → IsTyped o u → under E.table u ≡ k → SlicesAt E simple o u k n r → SlicesAt E simple o t (under E.table t) n r
  at_layer r n {o = o} {u = u} h g f x =
      subst (λ (y : Term). SlicesAt E simple o y (under E.table y) n r) (one_type g h) (subst (λ (y : Layer). SlicesAt E simple o u y n r) (sym f) x)

  to_layer : {o r : Operand} {t : Term} {n : Option ℕ} → IsTyped o t → Slices E simple o n r → SlicesAt E simple o t (under E.table t) n r
  to_layer h (slices_string s g i) = at_layer _ _ h g (string_under i g) (s, i, refl)
  to_layer h (slices_untyped s) = absurd (typed_or_untyped h untyped_constant)
  to_layer h (slices_array f) = at_layer _ _ h (typed_value refl) f (refl, refl, refl)
  to_layer {r = r} h (slices_array_pointer {base = base} {n = m} g f p) = at_layer r (Some m) {k = Term-F.Pointer base} h g f (subst (λ (y : Layer). SlicesBase y (Some m) r) (sym p) (refl, refl))
  to_layer h (slices_slice g f) = at_layer _ _ h g f (refl, refl)

  pub slice_gives : (o : Operand) (t : Term) (l : Layer) (p : Option Pair) → IsTyped o t → l ≡ under E.table t → Gives (λ q. SlicesAt E simple o t l q.0 q.1) p → Gives (λ q. Slices E simple o q.0 q.1) p
  slice_gives o t l (Some p) h e g = of_layer l h (sym e) g
  slice_gives o t l None h e g = λ p x. g p (subst (λ (y : Layer). SlicesAt E simple o t y p.0 p.1) (sym e) (to_layer h x))

  of_text : (c : ConstTerm) (v : Value) (m : ℕ) → simple ≡ true → IsUntypedText c v m → Slices E simple (constant_of c v) (Some m) (plain (basic_term basic.Str))
  of_text (constant.OfKind k) (value.Str s) m e x = subst (λ (y : ℕ). Slices E simple (constant_of (constant.OfKind k) (value.Str s)) (Some y) (plain (basic_term basic.Str))) (sym x) (slices_untyped e)
  of_text (constant.OfKind k) (value.Int n) m e x = absurd x
  of_text (constant.OfKind k) (value.Truth b) m e x = absurd x
  of_text (constant.OfTerm t) v m e x = absurd x

  of_untyped : {o r : Operand} {n : Option ℕ} → SlicesUntyped simple o n r → Slices E simple o n r
  of_untyped {o = o} {r = r} {n = n} x =
      subst (λ (y : Option ℕ). Slices E simple o y r) (sym x.limit)
      (subst (Slices E simple o (Some x.size)) (sym x.is)
      (subst (λ (y : Operand). Slices E simple y (Some x.size) (plain (basic_term basic.Str))) (sym x.constant)
      (of_text x.of x.held x.size x.by_two x.text)))

  to_untyped : {o r : Operand} {n : Option ℕ} → ((t : Term) → IsTyped o t → ⊥) → Slices E simple o n r → SlicesUntyped simple o n r
  to_untyped none (slices_string s g i) = absurd (none _ g)
  to_untyped none (slices_untyped {k = k} {s = s} e) = record { by_two = e; of = constant.OfKind k; held = value.Str s; constant = refl; size = length s; text = refl; limit = refl; is = refl }
  to_untyped none (slices_array {t = t} f) = absurd (none t (typed_value refl))
  to_untyped none (slices_array_pointer g f p) = absurd (none _ g)
  to_untyped none (slices_slice g f) = absurd (none _ g)

  pub slice_no_type : (o : Operand) (p : Option Pair) → ((t : Term) → IsTyped o t → ⊥) → Gives (λ q. SlicesUntyped simple o q.0 q.1) p → Gives (λ q. Slices E simple o q.0 q.1) p
  slice_no_type o (Some p) none g = of_untyped g
  slice_no_type o None none g = λ p x. g p (to_untyped none x)
