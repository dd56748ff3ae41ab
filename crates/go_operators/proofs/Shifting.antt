-- Shifts: what they make, and where they make nothing.
use Rattle.std.proofs.Common.{◌≡◌, ℕ, List, Bool, true, false, Option, Some, None, refl, sym, ap, ◌∙◌, subst, if◌then◌else◌, ◌⊎◌, inl, inr}
use Rattle.std.specs.Prelude.{ℤ, pos}
use Rattle.std.specs.Option.{option_map}
use Rattle.go_model.specs.constants.Classes.{class_of, class_of_basic, is_integer}
use Rattle.go_model.specs.constants.Constants.{is_representable, shift_value}
use Rattle.go_model.specs.declared.constants.value.Basic.{Basic}
use Rattle.go_model.specs.declared.constants.value.Basic.TheVariants as basic
use Rattle.go_model.specs.declared.constants.value.Kind.{Kind}
use Rattle.go_model.specs.declared.constants.value.Untyped.{Untyped}
use Rattle.go_model.specs.declared.constants.value.Value.{Value}
use Rattle.go_model.specs.declared.constants.value.Value.TheVariants as value
use Rattle.go_model.specs.declared.types.package.ConstTerm.{ConstTerm}
use Rattle.go_model.specs.declared.types.package.ConstTerm.TheVariants as constant
use Rattle.go_model.specs.declared.types.term.Term.{Term, Term-F}
use Rattle.go_model.specs.types.Underlying.{under}
use Rattle.go_rules.specs.Environments.{Env}
use Rattle.go_rules.specs.Expressions.{IsCount, count_value, count_typed, count_untyped, Shifts, shifts_constant, shifts_value, is_constant}
use Rattle.go_rules.specs.Operands.{HasKind, IsTyped, constant_of, plain}
use Rattle.go_rules.specs.declared.operand.Operand.{Operand}
use Rattle.go_rules.proofs.OneKind.{no_truth, one_kind, one_type}
use Rattle.go_usability.specs.go_selectors.Answers.{Decides}
use Rattle.go_usability.specs.Answers.{Gives}
use Rattle.go_operators.specs.inner.Constants.{HasValue, has_value, ConstantShifts, constant_shifts, IntegerValue, integer_value}
use Rattle.go_operators.specs.inner.Values.{IsIntegerValue}
use Rattle.go_operators.proofs.Answers.{given, none_some, false_true}
use Rattle.go_operators.proofs.TypedOperands.{typed_mode}

-- an integer type underneath
abbrev pub IsIntegerType : Env → Term → Type 0
IsIntegerType E t = (b : Basic) × (under E.table t ≡ Term-F.Plain b) × (is_integer (class_of_basic b) ≡ true)

abbrev pub IsNatural : Value → Type 0
IsNatural v = (n : ℕ) × (v ≡ value.Int (pos n))

abbrev pub Counts : Env → Operand → Type 0
Counts E o = (w : Option Value) × IsCount E o w

-- ---- counts

module _ (E : Env) where
  not_natural : {c : ConstTerm} {v : Value} {w : Option Value} → (IsNatural v → ⊥) → IsCount E (constant_of c v) w → ⊥
  not_natural none (count_value n h e i) = no_truth n
  not_natural none (count_typed e i) = none (_, refl)
  not_natural none (count_untyped e) = none (_, refl)

  pub count_no_natural : (c : ConstTerm) (v : Value) → (IsNatural v → ⊥) → Counts E (constant_of c v) → ⊥
  count_no_natural c v none x = not_natural none x.1

  natural_typed : (t : Term) (v : Value) → IsNatural v → IsIntegerType E t → Counts E (constant_of (constant.OfTerm t) v)
  natural_typed t v n i = subst (λ (x : Value). Counts E (constant_of (constant.OfTerm t) x)) (sym n.1) (Some (value.Int (pos n.0)), count_typed i.1 i.2)

  typed_integer : {t : Term} {v : Value} {w : Option Value} → IsCount E (constant_of (constant.OfTerm t) v) w → IsIntegerType E t
  typed_integer (count_value n h e i) = absurd (no_truth n)
  typed_integer (count_typed e i) = (_, e, i)

  count_typed_decides : (t : Term) (v : Value) (b : Bool) → IsNatural v → Decides b (IsIntegerType E t) → Decides b (Counts E (constant_of (constant.OfTerm t) v))
  count_typed_decides t v true n d = natural_typed t v n d
  count_typed_decides t v false n d = λ x. d (typed_integer x.1)

  pub counts_typed : (c : ConstTerm) (t : Term) (v : Value) (b : Bool) → c ≡ constant.OfTerm t → IsNatural v → Decides b (IsIntegerType E t) → Decides b (Counts E (constant_of c v))
  counts_typed c t v b e n d = subst (λ (x : ConstTerm). Decides b (Counts E (constant_of x v))) (sym e) (count_typed_decides t v b n d)

  natural_untyped : (k : Untyped) (v : Value) → IsNatural v → is_representable v basic.Uint E.bits ≡ true → Counts E (constant_of (constant.OfKind k) v)
  natural_untyped k v n r = subst (λ (x : Value). Counts E (constant_of (constant.OfKind k) x)) (sym n.1) (Some (value.Int (pos n.0)), count_untyped (subst (λ (x : Value). is_representable x basic.Uint E.bits ≡ true) n.1 r))

  untyped_within : {k : Untyped} {v : Value} {w : Option Value} → IsCount E (constant_of (constant.OfKind k) v) w → is_representable v basic.Uint E.bits ≡ true
  untyped_within (count_value n h e i) = absurd (no_truth n)
  untyped_within (count_untyped e) = e

  count_untyped_decides : (k : Untyped) (v : Value) (b : Bool) → IsNatural v → b ≡ is_representable v basic.Uint E.bits → Decides b (Counts E (constant_of (constant.OfKind k) v))
  count_untyped_decides k v true n d = natural_untyped k v n (sym d)
  count_untyped_decides k v false n d = λ x. false_true (d ∙ untyped_within x.1)

  pub counts_untyped : (c : ConstTerm) (k : Untyped) (v : Value) (n : ℕ) (b : Bool) → c ≡ constant.OfKind k → IsNatural v → n ≡ E.bits → b ≡ is_representable v basic.Uint n → Decides b (Counts E (constant_of c v))
  counts_untyped c k v n b e m f g = subst (λ (x : ConstTerm). Decides b (Counts E (constant_of x v))) (sym e) (count_untyped_decides k v b m (g ∙ ap (is_representable v basic.Uint) f))

  pub counts_constant : (o : Operand) (c : ConstTerm) (v : Value) (b : Bool) → o ≡ constant_of c v → Decides b (Counts E (constant_of c v)) → Decides b (Counts E o)
  counts_constant o c v b e d = subst (λ (x : Operand). Decides b (Counts E x)) (sym e) d

  value_counts : {o : Operand} → IsIntegerValue E o → Counts E o
  value_counts i = (None, count_value i.variable i.typed i.under_term i.integer)

  counts_value : {o : Operand} {w : Option Value} → ((c : ConstTerm) (v : Value) → o ≡ constant_of c v → ⊥) → IsCount E o w → IsIntegerValue E o
  counts_value none (count_value {t = t} {b = b} n h e i) = record { variable = n; term = t; typed = h; underlying = b; under_term = e; integer = i }
  counts_value none (count_typed e i) = absurd (none _ _ refl)
  counts_value none (count_untyped e) = absurd (none _ _ refl)

  pub count_value_decides : (o : Operand) (b : Bool) → ((c : ConstTerm) (v : Value) → o ≡ constant_of c v → ⊥) → Decides b (IsIntegerValue E o) → Decides b (Counts E o)
  count_value_decides o true none d = value_counts d
  count_value_decides o false none d = λ x. d (counts_value none x.1)

  -- ---- constants

  no_kind : {left : Bool} {c : ConstTerm} {v w : Value} {r : Operand} → ((k : Kind) → HasKind E c k → ⊥) → ConstantShifts E left c v w r → ⊥
  no_kind none (constant_shifts h e) = none _ h

  pub shift_no_kind : (left : Bool) (c : ConstTerm) (v w : Value) → ((k : Kind) → HasKind E c k → ⊥) → (r : Operand) → ConstantShifts E left c v w r → ⊥
  shift_no_kind left c v w none r x = no_kind none x

  shifted_none : {left : Bool} {c : ConstTerm} {v w : Value} {k : Kind} {r : Operand} → HasKind E c k → None ≡ shift_value left v w k E.bits → ConstantShifts E left c v w r → ⊥
  shifted_none {left = left} {v = v} {w = w} h e (constant_shifts g f) = none_some (e ∙ ap (λ (x : Kind). shift_value left v w x E.bits) (one_kind h g) ∙ f)

  shifted : (left : Bool) (c : ConstTerm) (v w : Value) (k : Kind) (z : Option Value) → HasKind E c k → z ≡ shift_value left v w k E.bits → Gives (ConstantShifts E left c v w) (option_map (constant_of c) z)
  shifted left c v w k (Some z) h e = constant_shifts h (sym e)
  shifted left c v w k None h e = λ r x. shifted_none h e x

  pub shifted_constant : (left : Bool) (c : ConstTerm) (v w : Value) (k : Kind) (n : ℕ) (z : Option Value) → HasKind E c k → n ≡ E.bits → z ≡ shift_value left v w k n → Gives (ConstantShifts E left c v w) (option_map (constant_of c) z)
  shifted_constant left c v w k n z h e f = shifted left c v w k z h (f ∙ ap (shift_value left v w k) e)

  -- ---- values

  no_type : {o r : Operand} → ((t : Term) → IsTyped o t → ⊥) → IntegerValue E o r → ⊥
  no_type none (integer_value h e i) = none _ h

  pub integer_no_type : (o : Operand) → ((t : Term) → IsTyped o t → ⊥) → (r : Operand) → IntegerValue E o r → ⊥
  integer_no_type o none r x = no_type none x

  of_integer : {o r : Operand} {t : Term} → IsTyped o t → IntegerValue E o r → IsIntegerType E t
  of_integer h (integer_value {b = b} g e i) = (b, ap (under E.table) (one_type h g) ∙ e, i)

  pub integer_typed : (o : Operand) (t : Term) (b : Bool) → IsTyped o t → Decides b (IsIntegerType E t) → Gives (IntegerValue E o) (if b then Some (plain t) else None)
  integer_typed o t b h d = given (IntegerValue E o) (IsIntegerType E t) b (plain t) d (λ i. integer_value h i.1 i.2) (λ r x. of_integer h x)

  -- ---- the result

  not_counted : {left : Bool} {l o r : Operand} → (Counts E o → ⊥) → Shifts E left l o r → ⊥
  not_counted none (shifts_constant h n e) = none (_, n)
  not_counted none (shifts_value f h e i n) = none (_, n)

  pub shift_no_count : (left : Bool) (l o : Operand) → (Counts E o → ⊥) → (r : Operand) → Shifts E left l o r → ⊥
  shift_no_count left l o none r x = not_counted none x

same_some : {A : Type 0} {x y : A} → Some x ≡ Some y → x ≡ y
same_some e = cc

module _ (E : Env) where
  -- a constant's count is its value
  count_of_value : {o : Operand} {v : Value} {w : Option Value} → HasValue o v → IsCount E o w → w ≡ Some v
  count_of_value has_value (count_value n h e i) = absurd (no_truth n)
  count_of_value has_value (count_typed e i) = refl
  count_of_value has_value (count_untyped e) = refl

  count_of_none : {o : Operand} {w : Option Value} → ((v : Value) → HasValue o v → ⊥) → IsCount E o w → w ≡ None
  count_of_none none (count_value n h e i) = refl
  count_of_none none (count_typed e i) = absurd (none _ has_value)
  count_of_none none (count_untyped e) = absurd (none _ has_value)

  shift_of_text : (left : Bool) (s : List ℕ) (w : Value) (k : Kind) {z : Value} → shift_value left (value.Str s) w k E.bits ≡ Some z → ⊥
  unfolding shift_value
  shift_of_text left s w k e = none_some e

  shift_of_truth : (left b : Bool) (w : Value) (k : Kind) {z : Value} → shift_value left (value.Truth b) w k E.bits ≡ Some z → ⊥
  unfolding shift_value
  shift_of_truth left b w k e = none_some e

  number_shifts : {left : Bool} {c : ConstTerm} {o r : Operand} (v : Value) {w : Value} → IsCount E o (Some w) → ConstantShifts E left c v w r → Shifts E left (constant_of c v) o r
  number_shifts (value.Int x) n (constant_shifts h e) = shifts_constant h n e
  number_shifts {left = left} (value.Str s) {w = w} n (constant_shifts {k = k} h e) = absurd (shift_of_text left s w k e)
  number_shifts {left = left} (value.Truth b) {w = w} n (constant_shifts {k = k} h e) = absurd (shift_of_truth left b w k e)

  of_number : {left : Bool} {c : ConstTerm} {v w : Value} {o r : Operand} → HasValue o w → Shifts E left (constant_of c v) o r → ConstantShifts E left c v w r
  of_number {left = left} {v = v} g (shifts_constant {z = z} {k = k} h n e) = constant_shifts h (subst (λ (y : Value). shift_value left v y k E.bits ≡ Some z) (same_some (count_of_value g n)) e)
  of_number g (shifts_value (inl f) h e i n) = absurd (no_truth f)
  of_number g (shifts_value (inr f) h e i n) = absurd (none_some (sym f ∙ count_of_value g n))

  counted : {o : Operand} {v : Value} → HasValue o v → Counts E o → IsCount E o (Some v)
  counted {o = o} g x = subst (IsCount E o) (count_of_value g x.1) x.1

  pub shift_constants : (left : Bool) (l o : Operand) (c : ConstTerm) (v w : Value) (z : Option Operand) → l ≡ constant_of c v → HasValue o w → Counts E o → Gives (ConstantShifts E left c v w) z → Gives (Shifts E left l o) z
  shift_constants left l o c v w (Some r) e g n d = subst (λ (x : Operand). Shifts E left x o r) (sym e) (number_shifts v (counted g n) d)
  shift_constants left l o c v w None e g n d = λ r x. d r (of_number g (subst (λ (y : Operand). Shifts E left y o r) e x))

  of_value : {left : Bool} {l o r : Operand} → ((c : ConstTerm) (v : Value) → l ≡ constant_of c v → ⊥) → Shifts E left l o r → IntegerValue E l r
  of_value none (shifts_constant h n e) = absurd (none _ _ refl)
  of_value none (shifts_value f h e i n) = integer_value h e i

  value_shifts : {left : Bool} {l o r : Operand} → ((c : ConstTerm) (v : Value) → l ≡ constant_of c v → ⊥) → Counts E o → IntegerValue E l r → Shifts E left l o r
  value_shifts none n (integer_value h e i) = shifts_value (inl (typed_mode h none)) h e i n.1

  pub shift_value_gives : (left : Bool) (l o : Operand) (z : Option Operand) → ((c : ConstTerm) (v : Value) → l ≡ constant_of c v → ⊥) → Counts E o → Gives (IntegerValue E l) z → Gives (Shifts E left l o) z
  shift_value_gives left l o (Some r) none n d = value_shifts none n d
  shift_value_gives left l o None none n d = λ r x. d r (of_value none x)

  of_plain : {left : Bool} {l o r : Operand} → ((v : Value) → HasValue o v → ⊥) → Shifts E left l o r → IntegerValue E l r
  of_plain none (shifts_constant h n e) = absurd (none_some (sym (count_of_none none n)))
  of_plain none (shifts_value f h e i n) = integer_value h e i

  plain_shifts : {left : Bool} {l o r : Operand} → ((v : Value) → HasValue o v → ⊥) → Counts E o → IntegerValue E l r → Shifts E left l o r
  plain_shifts none n (integer_value h e i) = shifts_value (inr (count_of_none none n.1)) h e i n.1

  pub shift_by_value : (left : Bool) (l o : Operand) (z : Option Operand) → ((v : Value) → HasValue o v → ⊥) → Counts E o → Gives (IntegerValue E l) z → Gives (Shifts E left l o) z
  shift_by_value left l o (Some r) none n d = plain_shifts none n d
  shift_by_value left l o None none n d = λ r x. d r (of_plain none x)
