-- Operators before an operand: what they make, and where they make nothing.
use Rattle.std.proofs.Common.{◌≡◌, ℕ, Bool, true, false, Option, Some, None, refl, sym, ap, ◌∙◌, subst, if◌then◌else◌}
use Rattle.std.specs.Option.{option_map}
use Rattle.go_model.specs.constants.Classes.{class_of}
use Rattle.go_model.specs.constants.Constants.{unary_value}
use Rattle.go_model.specs.constants.Operators.{unary_applies}
use Rattle.go_model.specs.declared.constants.class.Class.{Class}
use Rattle.go_model.specs.declared.constants.value.Kind.{Kind}
use Rattle.go_model.specs.declared.constants.value.UnaryOp.{UnaryOp}
use Rattle.go_model.specs.declared.constants.value.Value.{Value}
use Rattle.go_model.specs.declared.types.package.ConstTerm.{ConstTerm}
use Rattle.go_model.specs.declared.types.term.Direction.{Direction}
use Rattle.go_model.specs.declared.types.term.Term.{Term, Term-F}
use Rattle.go_model.specs.types.Terms.{pointer_to}
use Rattle.go_model.specs.types.Underlying.{under}
use Rattle.go_rules.specs.Environments.{Env}
use Rattle.go_rules.specs.Expressions.{is_constant, receives}
use Rattle.go_rules.specs.Operands.{HasKind, IsOf, IsTyped, typed_value, computed, constant_of, is_variable, plain, type_name, variable}
use Rattle.go_rules.specs.declared.operand.Mode.TheVariants as mode
use Rattle.go_rules.specs.declared.operand.Operand.{Operand}
use Rattle.go_rules.proofs.OneKind.{no_truth, one_kind, one_of, one_type}
use Rattle.go_usability.specs.Answers.{Gives}
use Rattle.go_operators.specs.Prefixes.{Changes, changes_constant, changes_value, Dereferences, dereferences_value, dereferences_type, Addresses, addresses_variable, addresses_literal, Receives, receives_element}
use Rattle.go_operators.specs.inner.Addresses.{HasAddress, variable_address, literal_address}
use Rattle.go_operators.proofs.Answers.{given_test, none_some, false_true}
use Rattle.go_operators.proofs.LevelForms.{same_direction}
use Rattle.go_operators.proofs.TypedOperands.{typed_plain, typed_variable}

-- ---- `+`, `-`, `^` and `!`

module _ (E : Env) (op : UnaryOp) where
  pub change_no_kind : (c : ConstTerm) (v : Value) → ((k : Kind) → HasKind E c k → ⊥) → (r : Operand) → Changes E op (constant_of c v) r → ⊥
  change_no_kind c v none r (changes_constant h e) = none _ h
  change_no_kind c v none r (changes_value n i h a) = no_truth n

  unchanged : (c : ConstTerm) (v : Value) (k : Kind) → HasKind E c k → unary_value op v k E.bits ≡ None → (r : Operand) → Changes E op (constant_of c v) r → ⊥
  unchanged c v k h e r (changes_constant i f) = none_some (sym e ∙ ap (λ (x : Kind). unary_value op v x E.bits) (one_kind h i) ∙ f)
  unchanged c v k h e r (changes_value n i j a) = no_truth n

  changed : (c : ConstTerm) (v : Value) (k : Kind) → HasKind E c k → (w : Option Value) → unary_value op v k E.bits ≡ w → Gives (Changes E op (constant_of c v)) (option_map (constant_of c) w)
  changed c v k h (Some w) e = changes_constant h e
  changed c v k h None e = unchanged c v k h e

  pub changed_constant : (c : ConstTerm) (v : Value) (k : Kind) (n : ℕ) (w : Option Value) → HasKind E c k → n ≡ E.bits → w ≡ unary_value op v k n → Gives (Changes E op (constant_of c v)) (option_map (constant_of c) w)
  changed_constant c v k n w h e f = changed c v k h w (sym (f ∙ ap (unary_value op v k) e))

  no_value_changed : {o r : Operand} → ((c : ConstTerm) (v : Value) → o ≡ constant_of c v → ⊥) → is_constant o.mode ≡ true → Changes E op o r → ⊥
  no_value_changed none t (changes_constant h e) = none _ _ refl
  no_value_changed none t (changes_value n i h a) = false_true (sym n ∙ t)

  -- of a constant's mode, but no constant
  pub change_no_constant : (o : Operand) → ((c : ConstTerm) (v : Value) → o ≡ constant_of c v → ⊥) → is_constant o.mode ≡ true → (r : Operand) → Changes E op o r → ⊥
  change_no_constant o none t r x = no_value_changed none t x

  no_term : {o r : Operand} → is_constant o.mode ≡ false → ((c : ConstTerm) → IsOf o c → ⊥) → Changes E op o r → ⊥
  no_term n none (changes_constant h e) = no_truth n
  no_term n none (changes_value m i h a) = none _ i

  pub change_no_term : (o : Operand) → is_constant o.mode ≡ false → ((c : ConstTerm) → IsOf o c → ⊥) → (r : Operand) → Changes E op o r → ⊥
  change_no_term o n none r x = no_term n none x

  no_kind : {o r : Operand} {c : ConstTerm} → is_constant o.mode ≡ false → IsOf o c → ((k : Kind) → HasKind E c k → ⊥) → Changes E op o r → ⊥
  no_kind n i none (changes_constant h e) = no_truth n
  no_kind n i none (changes_value {k = k} m j h a) = none k (subst (λ (d : ConstTerm). HasKind E d k) (one_of j i) h)

  pub change_value_no_kind : (o : Operand) (c : ConstTerm) → is_constant o.mode ≡ false → IsOf o c → ((k : Kind) → HasKind E c k → ⊥) → (r : Operand) → Changes E op o r → ⊥
  change_value_no_kind o c n i none r x = no_kind n i none x

  applied : {o r : Operand} {c : ConstTerm} {k : Kind} → is_constant o.mode ≡ false → IsOf o c → HasKind E c k → Changes E op o r → unary_applies op (class_of k) ≡ true
  applied n i h (changes_constant j e) = absurd (no_truth n)
  applied {k = k} n i h (changes_value {k = x} m j g a) = subst (λ (y : Kind). unary_applies op (class_of y) ≡ true) (one_kind (subst (λ (d : ConstTerm). HasKind E d x) (one_of j i) g) h) a

  value_changes : (o : Operand) (c : ConstTerm) (k : Kind) → is_constant o.mode ≡ false → IsOf o c → HasKind E c k → Gives (Changes E op o) (if unary_applies op (class_of k) then Some (computed c) else None)
  value_changes o c k n i h =
      given_test (Changes E op o) (unary_applies op (class_of k)) (computed c) (λ a. changes_value n i h a) (λ r x. applied n i h x)

  pub changed_value : (o : Operand) (c : ConstTerm) (k : Kind) (l : Class) (b : Bool) → is_constant o.mode ≡ false → IsOf o c → HasKind E c k → l ≡ class_of k → b ≡ unary_applies op l → Gives (Changes E op o) (if b then Some (computed c) else None)
  changed_value o c k l b n i h e f = subst (λ (x : Bool). Gives (Changes E op o) (if x then Some (computed c) else None)) (sym (f ∙ ap (unary_applies op) e)) (value_changes o c k n i h)

-- ---- `*`

module _ (E : Env) where
  not_dereferenced : {o r : Operand} → ((t : Term) → o ≡ type_name t → ⊥) → ((t : Term) → IsTyped o t → ⊥) → Dereferences E o r → ⊥
  not_dereferenced none no_type (dereferences_value h e) = no_type _ h
  not_dereferenced none no_type dereferences_type = none _ refl

  pub dereference_nothing : (o : Operand) → ((t : Term) → o ≡ type_name t → ⊥) → ((t : Term) → IsTyped o t → ⊥) → (r : Operand) → Dereferences E o r → ⊥
  dereference_nothing o none no_type r x = not_dereferenced none no_type x

  no_pointer : {o r : Operand} {t : Term} → ((t : Term) → o ≡ type_name t → ⊥) → IsTyped o t → ((u : Term) → under E.table t ≡ Term-F.Pointer u → ⊥) → Dereferences E o r → ⊥
  no_pointer none h not (dereferences_value i e) = not _ (ap (under E.table) (one_type h i) ∙ e)
  no_pointer none h not dereferences_type = none _ refl

  pub dereference_no_pointer : (o : Operand) (t : Term) → ((t : Term) → o ≡ type_name t → ⊥) → IsTyped o t → ((u : Term) → under E.table t ≡ Term-F.Pointer u → ⊥) → (r : Operand) → Dereferences E o r → ⊥
  dereference_no_pointer o t none h not r x = no_pointer none h not x

  pub dereference_type : (o : Operand) (t u : Term) (r : Operand) → o ≡ type_name t → u ≡ pointer_to t → r ≡ type_name u → Dereferences E o r
  dereference_type o t u r e f g = subst (Dereferences E o) (sym (g ∙ ap type_name f)) (subst (λ (x : Operand). Dereferences E x (type_name (pointer_to t))) (sym e) dereferences_type)

  pub dereference_pointer : (o : Operand) (t u : Term) (r : Operand) → IsTyped o t → under E.table t ≡ Term-F.Pointer u → r ≡ variable u → Dereferences E o r
  dereference_pointer o t u r h e f = subst (Dereferences E o) (sym f) (dereferences_value h e)

  -- ---- `<-`

  not_received : {o r : Operand} → ((t : Term) → IsTyped o t → ⊥) → Receives E o r → ⊥
  not_received none (receives_element h e f) = none _ h

  pub receive_no_type : (o : Operand) → ((t : Term) → IsTyped o t → ⊥) → (r : Operand) → Receives E o r → ⊥
  receive_no_type o none r x = not_received none x

  no_channel : {o r : Operand} {t : Term} → IsTyped o t → ((d : Direction) (e : Term) → under E.table t ≡ Term-F.Chan d e → ⊥) → Receives E o r → ⊥
  no_channel h not (receives_element i e f) = not _ _ (ap (under E.table) (one_type h i) ∙ e)

  pub receive_no_channel : (o : Operand) (t : Term) → IsTyped o t → ((d : Direction) (e : Term) → under E.table t ≡ Term-F.Chan d e → ⊥) → (r : Operand) → Receives E o r → ⊥
  receive_no_channel o t h not r x = no_channel h not x

  may_receive : {o r : Operand} {t e : Term} {d : Direction} → IsTyped o t → under E.table t ≡ Term-F.Chan d e → Receives E o r → receives d ≡ true
  may_receive h e (receives_element {d = x} i f g) = ap receives (same_direction (sym e ∙ ap (under E.table) (one_type h i) ∙ f)) ∙ g

  receives_from : (o : Operand) (t e : Term) (d : Direction) → IsTyped o t → under E.table t ≡ Term-F.Chan d e → Gives (Receives E o) (if receives d then Some (plain e) else None)
  receives_from o t e d h is = given_test (Receives E o) (receives d) (plain e) (λ f. receives_element h is f) (λ r x. may_receive h is x)

  pub received : (o : Operand) (t e : Term) (d : Direction) (b : Bool) → IsTyped o t → under E.table t ≡ Term-F.Chan d e → b ≡ receives d → Gives (Receives E o) (if b then Some (plain e) else None)
  received o t e d b h is f = subst (λ (x : Bool). Gives (Receives E o) (if x then Some (plain e) else None)) (sym f) (receives_from o t e d h is)

-- ---- `&`

has_type : {composite : Bool} {o : Operand} {t : Term} → HasAddress composite o t → IsTyped o t
has_type variable_address = typed_value refl
has_type literal_address = typed_value refl

has_mode : {composite : Bool} {o : Operand} {t : Term} → HasAddress composite o t → is_variable o.mode ≡ false → (composite ≡ true) × (o.mode ≡ mode.Plain)
has_mode variable_address f = absurd (no_truth f)
has_mode literal_address f = (refl, refl)

module _ (composite : Bool) (o : Operand) where
  pub address_no_type : ((t : Term) → IsTyped o t → ⊥) → (t : Term) → HasAddress composite o t → ⊥
  address_no_type none t x = none _ (has_type x)

  pub address_of_variable : (t : Term) → IsTyped o t → is_variable o.mode ≡ true → HasAddress composite o t
  address_of_variable t h e = subst (λ (x : Operand). HasAddress composite x t) (sym (typed_variable o t h e)) variable_address

  pub address_of_literal : (t : Term) → IsTyped o t → composite ≡ true → o.mode ≡ mode.Plain → HasAddress composite o t
  address_of_literal t h c e = subst (λ (x : Operand). HasAddress composite x t) (sym (typed_plain o t h e)) (subst (λ (b : Bool). HasAddress b (plain t) t) (sym c) literal_address)

  pub address_no_literal : is_variable o.mode ≡ false → composite ≡ false → (t : Term) → HasAddress composite o t → ⊥
  address_no_literal f c t x = false_true (sym c ∙ (has_mode x f).0)

  pub address_no_plain : is_variable o.mode ≡ false → (o.mode ≡ mode.Plain → ⊥) → (t : Term) → HasAddress composite o t → ⊥
  address_no_plain f none t x = none (has_mode x f).1

addressed : {composite : Bool} {o : Operand} {t : Term} → HasAddress composite o t → Addresses composite o (plain (pointer_to t))
addressed variable_address = addresses_variable
addressed literal_address = addresses_literal

pub address_gives : (composite : Bool) (o : Operand) (t u : Term) (r : Operand) → HasAddress composite o t → u ≡ pointer_to t → r ≡ plain u → Addresses composite o r
address_gives composite o t u r x e f = subst (Addresses composite o) (sym (f ∙ ap plain e)) (addressed x)

has_address : {composite : Bool} {o r : Operand} → Addresses composite o r → (t : Term) × HasAddress composite o t
has_address addresses_variable = (_, variable_address)
has_address addresses_literal = (_, literal_address)

pub address_nothing : (composite : Bool) (o : Operand) → ((t : Term) → HasAddress composite o t → ⊥) → (r : Operand) → Addresses composite o r → ⊥
address_nothing composite o none r x = none _ (has_address x).1
