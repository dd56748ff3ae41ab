-- `len` and `cap`: what they make, and where they make nothing.
use Rattle.std.proofs.Common.{◌≡◌, ℕ, Bool, true, false, Option, Some, None, sym, ap, ◌∙◌, subst, if◌then◌else◌}
use Rattle.std.specs.Prelude.{pos}
use Rattle.go_model.specs.constants.Constants.{is_representable}
use Rattle.go_model.specs.declared.constants.value.Basic.TheVariants as basic
use Rattle.go_model.specs.declared.constants.value.Value.{Value}
use Rattle.go_model.specs.declared.constants.value.Value.TheVariants as value
use Rattle.go_model.specs.declared.types.term.Term.{Term, Term-F}
use Rattle.go_model.specs.types.Terms.{Layer}
use Rattle.go_model.specs.types.Underlying.{under}
use Rattle.go_rules.specs.Environments.{Env}
use Rattle.go_rules.specs.Expressions.{IsArray, array_itself, array_pointer, IsString, int_constant, is_constant, measures}
use Rattle.go_rules.specs.Operands.{IsTyped}
use Rattle.go_rules.specs.declared.operand.Mode.{Mode}
use Rattle.go_rules.specs.declared.operand.Operand.{Operand}
use Rattle.go_rules.specs.declared.predeclared.Predeclared.{Predeclared}
use Rattle.go_rules.specs.declared.predeclared.Predeclared.TheVariants as p
use Rattle.go_rules.proofs.OneKind.{one_type}
use Rattle.go_rules.proofs.OneResult.{one_length, one_string}
use Rattle.go_elements.specs.go_usability.Answers.{Gives}
use Rattle.go_calls.specs.Builtins.{Measures, measures_string, measures_constant_array, measures_array, measures_value, int_value}
use Rattle.go_calls.specs.inner.Lengths.{IntWithin, int_within, MeasuresArray, quiet_array, loud_array, MeasuresValue, value_measured, MeasuresTyped, typed_array, typed_other, MeasuresString, constant_string}
use Rattle.go_elements.proofs.go_operators_proofs.Answers.{given_test, none_some, false_true}

module _ (E : Env) where
  within : {n : ℕ} {r : Operand} → IntWithin E n r → is_representable (value.Int (pos n)) basic.Int E.bits ≡ true
  within (int_within e) = e

  pub within_some : (n : ℕ) → is_representable (value.Int (pos n)) basic.Int E.bits ≡ true → IntWithin E n (int_constant n)
  within_some n e = int_within e

  pub within_given : (n m : ℕ) (v : Value) (r : Operand) → v ≡ value.Int (pos n) → m ≡ E.bits → is_representable v basic.Int m ≡ true → r ≡ int_constant n → IntWithin E n r
  within_given n m v r w b h e = subst (IntWithin E n) (sym e) (int_within (subst (λ (z : Value). is_representable z basic.Int E.bits ≡ true) w (ap (is_representable v basic.Int) (sym b) ∙ h)))

  pub within_none : (n : ℕ) → is_representable (value.Int (pos n)) basic.Int E.bits ≡ false → (r : Operand) → IntWithin E n r → ⊥
  within_none n f r x = false_true (sym f ∙ within x)

  constant_in : {n : ℕ} {r : Operand} → MeasuresArray E false n r → IntWithin E n r
  constant_in (quiet_array x) = x

  array_gives : (n : ℕ) (r : Option Operand) → Gives (IntWithin E n) r → Gives (MeasuresArray E false n) r
  array_gives n (Some r) g = quiet_array g
  array_gives n None g = λ r x. g r (constant_in x)

  pub loud_gives : (loud : Bool) (n : ℕ) (r : Operand) → loud ≡ true → r ≡ int_value → MeasuresArray E loud n r
  loud_gives loud n r e f = subst (λ (b : Bool). MeasuresArray E b n r) (sym e) (subst (MeasuresArray E true n) (sym f) loud_array)

  pub quiet_gives : (loud : Bool) (n : ℕ) (r : Option Operand) → loud ≡ false → Gives (IntWithin E n) r → Gives (MeasuresArray E loud n) r
  quiet_gives loud n r e g = subst (λ (b : Bool). Gives (MeasuresArray E b n) r) (sym e) (array_gives n r g)

  -- ---- what is no array

  value_constant : {f : Predeclared} {m : Mode} {t : Term} {r : Operand} → MeasuresValue E f m t r → is_constant m ≡ false
  value_constant (value_measured n e) = n

  value_measures : {f : Predeclared} {m : Mode} {t : Term} {r : Operand} → MeasuresValue E f m t r → measures f (under E.table t) ≡ true
  value_measures (value_measured n e) = e

  pub value_of_constant : (f : Predeclared) (m : Mode) (t : Term) → is_constant m ≡ true → (r : Operand) → MeasuresValue E f m t r → ⊥
  value_of_constant f m t e r x = false_true (sym (value_constant x) ∙ e)

  pub value_gives : (f : Predeclared) (m : Mode) (t : Term) (l : Layer) (b : Bool) → is_constant m ≡ false → l ≡ under E.table t → b ≡ measures f l → Gives (MeasuresValue E f m t) (if b then Some int_value else None)
  value_gives f m t l b n e g =
      subst (λ (x : Bool). Gives (MeasuresValue E f m t) (if x then Some int_value else None)) (sym (g ∙ ap (measures f) e))
      (given_test (MeasuresValue E f m t) (measures f (under E.table t)) int_value (λ h. value_measured n h) (λ r x. value_measures x))

  -- ---- what has a type

  no_array_length : (f : Predeclared) (n : ℕ) (u : Term) → measures f (Term-F.Array n u) ≡ true → ⊥
  no_array_length p.Len n u e = false_true e
  no_array_length p.Cap n u e = false_true e
  no_array_length f n u e = false_true e

  no_pointer_length : (f : Predeclared) (u : Term) → measures f (Term-F.Pointer u) ≡ true → ⊥
  no_pointer_length p.Len u e = false_true e
  no_pointer_length p.Cap u e = false_true e
  no_pointer_length f u e = false_true e

  array_unmeasured : (f : Predeclared) {t u : Term} {pointer : Bool} {n : ℕ} → IsArray E t pointer n u → measures f (under E.table t) ≡ true → ⊥
  array_unmeasured f (array_itself e) m = no_array_length f _ _ (sym (ap (measures f) e) ∙ m)
  array_unmeasured f (array_pointer e g) m = no_pointer_length f _ (sym (ap (measures f) e) ∙ m)

  abbrev pub HasArray : Term → ℕ → Type 0
  HasArray t n = (pointer : Bool) × (u : Term) × IsArray E t pointer n u

  of_array : {f : Predeclared} {loud : Bool} {m : Mode} {t : Term} {n : ℕ} {r : Operand} → HasArray t n → MeasuresTyped E f loud m t r → MeasuresArray E loud n r
  of_array {loud = loud} {r = r} a (typed_array b x) = subst (λ (k : ℕ). MeasuresArray E loud k r) (one_length b a.2) x
  of_array {f = f} a (typed_other x) = absurd (array_unmeasured f a.2 (value_measures x))

  pub typed_array_gives : (f : Predeclared) (loud : Bool) (m : Mode) (t : Term) (n : ℕ) (r : Option Operand) → HasArray t n → Gives (MeasuresArray E loud n) r → Gives (MeasuresTyped E f loud m t) r
  typed_array_gives f loud m t n (Some r) a g = typed_array a.2 g
  typed_array_gives f loud m t n None a g = λ r x. g r (of_array a x)

  of_value : {f : Predeclared} {loud : Bool} {m : Mode} {t : Term} {r : Operand} → ((n : ℕ) → HasArray t n → ⊥) → MeasuresTyped E f loud m t r → MeasuresValue E f m t r
  of_value none (typed_array b x) = absurd (none _ (_, _, b))
  of_value none (typed_other x) = x

  pub typed_value_gives : (f : Predeclared) (loud : Bool) (m : Mode) (t : Term) (r : Option Operand) → ((n : ℕ) → HasArray t n → ⊥) → Gives (MeasuresValue E f m t) r → Gives (MeasuresTyped E f loud m t) r
  typed_value_gives f loud m t (Some r) none g = typed_other g
  typed_value_gives f loud m t None none g = λ r x. g r (of_value none x)

  -- ---- constant strings

  is_length : {f : Predeclared} {o r : Operand} → MeasuresString E f o r → f ≡ p.Len
  is_length (constant_string e s x) = e

  pub string_not_length : (f : Predeclared) (o : Operand) → (f ≡ p.Len → ⊥) → (r : Operand) → MeasuresString E f o r → ⊥
  string_not_length f o none r x = none (is_length x)

  string_number : {f : Predeclared} {o r : Operand} → MeasuresString E f o r → (n : ℕ) × IsString E o (Some n) × IntWithin E n r
  string_number (constant_string e s x) = (_, s, x)

  same_some : {m n : ℕ} → Some m ≡ Some n → m ≡ n
  same_some e = cc

  string_length_gives : (f : Predeclared) (o : Operand) (n : ℕ) (r : Option Operand) → f ≡ p.Len → IsString E o (Some n) → Gives (IntWithin E n) r → Gives (MeasuresString E f o) r
  string_length_gives f o n (Some r) e s g = constant_string e s g
  string_length_gives f o n None e s g = λ r x. g r (subst (λ (k : ℕ). IntWithin E k r) (same_some (one_string (string_number x).1 s)) (string_number x).2)

  string_variable : (f : Predeclared) (o : Operand) → IsString E o None → (r : Operand) → MeasuresString E f o r → ⊥
  string_variable f o s r x = none_some (one_string s (string_number x).1)

  pub string_known : (f : Predeclared) (o : Operand) (l : Option ℕ) (n : ℕ) (r : Option Operand) → l ≡ Some n → f ≡ p.Len → IsString E o l → Gives (IntWithin E n) r → Gives (MeasuresString E f o) r
  string_known f o l n r k e s g = string_length_gives f o n r e (subst (IsString E o) k s) g

  pub string_unknown : (f : Predeclared) (o : Operand) (l : Option ℕ) → l ≡ None → IsString E o l → (r : Operand) → MeasuresString E f o r → ⊥
  string_unknown f o l k s r x = string_variable f o (subst (IsString E o) k s) r x

  pub string_no_string : (f : Predeclared) (o : Operand) → ((n : Option ℕ) → IsString E o n → ⊥) → (r : Operand) → MeasuresString E f o r → ⊥
  string_no_string f o none r x = none _ (string_number x).1

  -- ---- the result

  of_within : {f : Predeclared} {loud : Bool} {o r : Operand} {n : ℕ} → f ≡ p.Len → IsString E o (Some n) → IntWithin E n r → Measures E f loud o r
  of_within e s (int_within w) = measures_string e s w

  of_string : {f : Predeclared} {loud : Bool} {o r : Operand} → MeasuresString E f o r → Measures E f loud o r
  of_string (constant_string e s x) = of_within e s x

  pub measure_string : (f : Predeclared) (loud : Bool) (o r : Operand) → MeasuresString E f o r → Measures E f loud o r
  measure_string f loud o r x = of_string x

  constant_measures : {f : Predeclared} {pointer : Bool} {o r : Operand} {t u : Term} {n : ℕ} → IsTyped o t → IsArray E t pointer n u → IntWithin E n r → Measures E f false o r
  constant_measures h a (int_within w) = measures_constant_array h a w

  array_measures : {f : Predeclared} {loud pointer : Bool} {o r : Operand} {t u : Term} {n : ℕ} → IsTyped o t → IsArray E t pointer n u → MeasuresArray E loud n r → Measures E f loud o r
  array_measures h a (quiet_array x) = constant_measures h a x
  array_measures h a loud_array = measures_array h a

  of_typed : {f : Predeclared} {loud : Bool} {o r : Operand} {t : Term} → IsTyped o t → MeasuresTyped E f loud o.mode t r → Measures E f loud o r
  of_typed h (typed_array a x) = array_measures h a x
  of_typed h (typed_other (value_measured n e)) = measures_value n h e

  at_type : {f : Predeclared} {loud : Bool} {o r : Operand} {t u : Term} → IsTyped o t → IsTyped o u → MeasuresTyped E f loud o.mode u r → MeasuresTyped E f loud o.mode t r
  at_type {f = f} {loud = loud} {o = o} {r = r} h g x = subst (λ (y : Term). MeasuresTyped E f loud o.mode y r) (one_type g h) x

  to_typed : {f : Predeclared} {loud : Bool} {o r : Operand} {t : Term} → IsTyped o t → ((s : Operand) → MeasuresString E f o s → ⊥) → Measures E f loud o r → MeasuresTyped E f loud o.mode t r
  to_typed h none (measures_string e s w) = absurd (none _ (constant_string e s (int_within w)))
  to_typed h none (measures_constant_array g a w) = at_type h g (typed_array a (quiet_array (int_within w)))
  to_typed h none (measures_array g a) = at_type h g (typed_array a loud_array)
  to_typed h none (measures_value n g e) = at_type h g (typed_other (value_measured n e))

  pub measure_typed : (f : Predeclared) (loud : Bool) (o : Operand) (t : Term) (r : Option Operand) → IsTyped o t → ((s : Operand) → MeasuresString E f o s → ⊥) → Gives (MeasuresTyped E f loud o.mode t) r → Gives (Measures E f loud o) r
  measure_typed f loud o t (Some r) h none g = of_typed h g
  measure_typed f loud o t None h none g = λ r x. g r (to_typed h none x)

  measured : {f : Predeclared} {loud : Bool} {o r : Operand} → ((t : Term) → IsTyped o t → ⊥) → ((s : Operand) → MeasuresString E f o s → ⊥) → Measures E f loud o r → ⊥
  measured no_type none (measures_string e s w) = none _ (constant_string e s (int_within w))
  measured no_type none (measures_constant_array g a w) = no_type _ g
  measured no_type none (measures_array g a) = no_type _ g
  measured no_type none (measures_value n g e) = no_type _ g

  pub measure_no_type : (f : Predeclared) (loud : Bool) (o : Operand) → ((t : Term) → IsTyped o t → ⊥) → ((s : Operand) → MeasuresString E f o s → ⊥) → (r : Operand) → Measures E f loud o r → ⊥
  measure_no_type f loud o no_type none r x = measured no_type none x
