-- Indices: what they are, and where there are none.
use Rattle.std.proofs.Common.{◌≡◌, ℕ, Bool, true, false, Option, Some, None, refl, sym, ap, ◌∙◌, subst, ◌<◌, ◌≤◌, ◌-◌, ◌^◌, ◌⊎◌, inl, inr, ◌&&◌, arith}
use Rattle.std.specs.Prelude.{ℤ, pos, neg_ℤ, int_le, nat_le, MatchOption}
use Rattle.std.proofs.lemmas.Bool.{leb-true}
use Rattle.go_model.specs.constants.Constants.{is_number_of, is_representable, lies_between}
use Rattle.go_model.specs.declared.constants.class.Integer.TheVariants as integer
use Rattle.go_model.specs.declared.constants.value.Basic.TheVariants as basic
use Rattle.go_model.specs.declared.constants.value.Untyped.{Untyped}
use Rattle.go_model.specs.declared.constants.value.Value.{Value}
use Rattle.go_model.specs.declared.constants.value.Value.TheVariants as value
use Rattle.go_model.specs.declared.types.package.ConstTerm.{ConstTerm}
use Rattle.go_model.specs.declared.types.package.ConstTerm.TheVariants as constant
use Rattle.go_model.specs.declared.types.term.Term.{Term}
use Rattle.go_rules.specs.Environments.{Env}
use Rattle.go_rules.specs.Expressions.{Below, IsIndex, index_value, index_typed, index_untyped}
use Rattle.go_rules.specs.Operands.{constant_of}
use Rattle.go_rules.specs.declared.operand.Operand.{Operand}
use Rattle.go_rules.proofs.OneKind.{no_truth}
use Rattle.go_rules.proofs.OneResult.{one_index}
use Rattle.go_operators.specs.go_selectors.Answers.{Decides}
use Rattle.go_operators.specs.go_usability.Answers.{Gives}
use Rattle.go_elements.specs.SliceExpressions.{IsOptionalIndex, index_left_out, index_given}
use Rattle.go_elements.specs.inner.Indices.{IsInt, IsIntegerKind}
use Rattle.go_elements.specs.inner.Elements.{IsIndexBelow, index_below}
use Rattle.go_operators.specs.inner.Values.{IsIntegerValue}
use Rattle.go_operators.proofs.Answers.{false_true}
use Rattle.go_operators.proofs.Shifting.{IsIntegerType}

-- ---- indices

abbrev pub Fits : Env → Value → Type 0
Fits E v = is_representable v basic.Int E.bits ≡ true

module _ (E : Env) where
  index_fits : {c : ConstTerm} {v : Value} {n : Option ℕ} → IsIndex E (constant_of c v) n → Fits E v
  index_fits (index_value n h e i) = absurd (no_truth n)
  index_fits (index_typed e i r) = r
  index_fits (index_untyped r) = r

  index_number : {c : ConstTerm} {v : Value} {n : ℕ} → IsIndex E (constant_of c v) (Some n) → v ≡ value.Int (pos n)
  index_number (index_typed e i r) = refl
  index_number (index_untyped r) = refl

  index_constant : {c : ConstTerm} {v : Value} {n : Option ℕ} → IsIndex E (constant_of c v) n → (m : ℕ) × (n ≡ Some m)
  index_constant (index_value n h e i) = absurd (no_truth n)
  index_constant (index_typed e i r) = (_, refl)
  index_constant (index_untyped r) = (_, refl)

  kind_in : {c : ConstTerm} {v : Value} {n : Option ℕ} → IsIndex E (constant_of c v) n → IsIntegerKind E c
  kind_in (index_value n h e i) = absurd (no_truth n)
  kind_in (index_typed e i r) = (_, e, i)
  kind_in (index_untyped r) = tt

  pub constant_index_kind : (c : ConstTerm) (v : Value) → (IsIntegerKind E c → ⊥) → (n : ℕ) → IsIndex E (constant_of c v) (Some n) → ⊥
  constant_index_kind c v none n x = none (kind_in x)

  at_number : (c : ConstTerm) (n : ℕ) → IsIntegerKind E c → Fits E (value.Int (pos n)) → IsIndex E (constant_of c (value.Int (pos n))) (Some n)
  at_number (constant.OfTerm t) n i r = index_typed i.1 i.2 r
  at_number (constant.OfKind k) n i r = index_untyped r

  of_int : (c : ConstTerm) (v : Value) (n : ℕ) → IsIntegerKind E c → IsInt E v n → IsIndex E (constant_of c v) (Some n)
  of_int c v n i x = subst (λ (y : Value). IsIndex E (constant_of c y) (Some n)) (sym x.number) (at_number c n i (subst (Fits E) x.number x.within))

  to_int : {c : ConstTerm} {v : Value} {n : ℕ} → IsIndex E (constant_of c v) (Some n) → IsInt E v n
  to_int x = record { number = index_number x; within = index_fits x }

  pub constant_index_gives : (c : ConstTerm) (v : Value) (n : Option ℕ) → IsIntegerKind E c → Gives (IsInt E v) n → Gives (λ m. IsIndex E (constant_of c v) (Some m)) n
  constant_index_gives c v (Some n) i g = of_int c v n i g
  constant_index_gives c v None i g = λ m x. g m (to_int x)

  pub kind_decides : (c : ConstTerm) (t : Term) (b : Bool) → c ≡ constant.OfTerm t → Decides b (IsIntegerType E t) → Decides b (IsIntegerKind E c)
  kind_decides c t b e d = subst (λ (x : ConstTerm). Decides b (IsIntegerKind E x)) (sym e) d

  pub kind_untyped : (c : ConstTerm) (k : Untyped) → c ≡ constant.OfKind k → IsIntegerKind E c
  kind_untyped c k e = subst (IsIntegerKind E) (sym e) tt

  pub int_out : (v : Value) (m : ℕ) → m ≡ E.bits → is_representable v basic.Int m ≡ false → (n : ℕ) → IsInt E v n → ⊥
  int_out v m e f n x = false_true (sym f ∙ ap (is_representable v basic.Int) e ∙ x.within)

  pub index_of_number : (o : Operand) (c : ConstTerm) (v : Value) (n : ℕ) → o ≡ constant_of c v → IsIndex E (constant_of c v) (Some n) → IsIndex E o (Some n)
  index_of_number o c v n e x = subst (λ (y : Operand). IsIndex E y (Some n)) (sym e) x

  no_number : {c : ConstTerm} {v : Value} {n : Option ℕ} → ((m : ℕ) → IsIndex E (constant_of c v) (Some m) → ⊥) → IsIndex E (constant_of c v) n → ⊥
  no_number {c = c} {v = v} none x = none (index_constant x).0 (subst (IsIndex E (constant_of c v)) (index_constant x).1 x)

  pub index_of_no_number : (o : Operand) (c : ConstTerm) (v : Value) → o ≡ constant_of c v → ((m : ℕ) → IsIndex E (constant_of c v) (Some m) → ⊥) → (n : Option ℕ) → IsIndex E o n → ⊥
  index_of_no_number o c v e none n x = no_number none (subst (λ (y : Operand). IsIndex E y n) e x)

  value_index : {o : Operand} → IsIntegerValue E o → IsIndex E o None
  value_index i = index_value i.variable i.typed i.under_term i.integer

  index_integer_value : {o : Operand} {n : Option ℕ} → ((c : ConstTerm) (v : Value) → o ≡ constant_of c v → ⊥) → IsIndex E o n → IsIntegerValue E o
  index_integer_value none (index_value {t = t} {b = b} n h e i) = record { variable = n; term = t; typed = h; underlying = b; under_term = e; integer = i }
  index_integer_value none (index_typed e i r) = absurd (none _ _ refl)
  index_integer_value none (index_untyped r) = absurd (none _ _ refl)

  pub index_of_value : (o : Operand) → IsIntegerValue E o → IsIndex E o None
  index_of_value o i = value_index i

  pub index_of_nothing : (o : Operand) → ((c : ConstTerm) (v : Value) → o ≡ constant_of c v → ⊥) → (IsIntegerValue E o → ⊥) → (n : Option ℕ) → IsIndex E o n → ⊥
  index_of_nothing o none other n x = other (index_integer_value none x)

  -- ---- below a length

  is_below_one : {i : Operand} {c limit : Option ℕ} → IsIndex E i c → IsIndexBelow E i limit → Below c limit
  is_below_one {limit = limit} x (index_below y b) = subst (λ (n : Option ℕ). Below n limit) (one_index y x) b

  pub below_decides : (i : Operand) (c limit : Option ℕ) (b : Bool) → IsIndex E i c → Decides b (Below c limit) → Decides b (IsIndexBelow E i limit)
  below_decides i c limit true x d = index_below x d
  below_decides i c limit false x d = λ y. d (is_below_one x y)

  index_in : {i : Operand} {limit : Option ℕ} → IsIndexBelow E i limit → (c : Option ℕ) × IsIndex E i c
  index_in (index_below x b) = (_, x)

  pub below_no_index : (i : Operand) (limit : Option ℕ) → ((c : Option ℕ) → IsIndex E i c → ⊥) → IsIndexBelow E i limit → ⊥
  below_no_index i limit none x = none _ (index_in x).1

  -- ---- indices that may be left out

  pub optional_left_out : (q : Option Operand) → q ≡ None → IsOptionalIndex E q None
  optional_left_out q e = subst (λ (x : Option Operand). IsOptionalIndex E x None) (sym e) index_left_out

  given_index : {i : Operand} {n : Option ℕ} → IsOptionalIndex E (Some i) n → IsIndex E i n
  given_index (index_given x) = x

  given_gives : (i : Operand) (n : Option (Option ℕ)) → Gives (IsIndex E i) n → Gives (IsOptionalIndex E (Some i)) n
  given_gives i (Some n) g = index_given g
  given_gives i None g = λ n x. g n (given_index x)

  pub optional_given : (q : Option Operand) (i : Operand) (n : Option (Option ℕ)) → q ≡ Some i → Gives (IsIndex E i) n → Gives (IsOptionalIndex E q) n
  optional_given q i n e g = subst (λ (x : Option Operand). Gives (IsOptionalIndex E x) n) (sym e) (given_gives i n g)

  pub one_optional : {q : Option Operand} {m n : Option ℕ} → IsOptionalIndex E q m → IsOptionalIndex E q n → m ≡ n
  one_optional index_left_out index_left_out = refl
  one_optional (index_given x) (index_given y) = one_index x y

-- ---- whole numbers

right_holds : (a b : Bool) → (a && b) ≡ true → b ≡ true
right_holds true b e = e
right_holds false b e = absurd (false_true e)

no_greater : (low : ℤ) (n k : ℕ) → lies_between low (pos k) (pos n) ≡ true → n ≤ k
no_greater low n k e = leb-true n k (right_holds (int_le low (pos n)) (nat_le n k) e)

abbrev IsSigned : ℕ → ℕ → Type 0
IsSigned n m = is_number_of (integer.Signed m) (pos n) ≡ true

signed_small : (n m : ℕ) → (m ≡ 32) ⊎ (m ≡ 64) → IsSigned n m → n < 2 ^ 64
signed_small n m (inl w) e = let h = no_greater (neg_ℤ (pos (2 ^ 31))) n (2 ^ 31 - 1) (subst (IsSigned n) w e) in omega (arith, h)
signed_small n m (inr w) e = let h = no_greater (neg_ℤ (pos (2 ^ 63))) n (2 ^ 63 - 1) (subst (IsSigned n) w e) in omega (arith, h)

-- what is representable in int fits into 64 bits
representable_small : (n m : ℕ) → (m ≡ 32) ⊎ (m ≡ 64) → is_representable (value.Int (pos n)) basic.Int m ≡ true → n < 2 ^ 64
unfolding is_representable
representable_small n m w e = signed_small n m w e

module _ (E : Env) where
  int_some : (v : Value) (n : ℕ) → v ≡ value.Int (pos n) → Fits E v → IsInt E v n
  int_some v n e r = record { number = e; within = r }

  pub int_gives : (v : Value) (m : ℕ) (r : Option ℕ) → m ≡ E.bits → (m ≡ 32) ⊎ (m ≡ 64) → is_representable v basic.Int m ≡ true → MatchOption r ((n : ℕ) → n < 2 ^ 64 → v ≡ value.Int (pos n) → ⊥) (λ n. v ≡ value.Int (pos n)) → Gives (IsInt E v) r
  int_gives v m (Some n) f w r g = int_some v n g (subst (λ (y : ℕ). is_representable v basic.Int y ≡ true) f r)
  int_gives v m None f w r g = λ n i. g n (representable_small n m w (subst (λ (y : Value). is_representable y basic.Int m ≡ true) i.number r)) i.number
