-- Conversions: what they make, and where they make nothing.
use Rattle.std.specs.Prelude.{ℤ}
use Rattle.std.proofs.Common.{◌≡◌, ℕ, List, Bool, true, false, Option, Some, None, refl, sym, ap, ◌∙◌, subst, if◌then◌else◌}
use Rattle.std.specs.Option.{option_map}
use Rattle.go_model.specs.constants.Classes.{class_of_basic, is_inexact}
use Rattle.go_model.specs.constants.Constants.{converted, is_representable}
use Rattle.go_model.specs.declared.constants.value.Basic.{Basic}
use Rattle.go_model.specs.declared.constants.value.Kind.{Kind}
use Rattle.go_model.specs.declared.constants.value.Untyped.{Untyped}
use Rattle.go_model.specs.declared.constants.value.Value.{Value}
use Rattle.go_model.specs.declared.constants.value.Value.TheVariants as value
use Rattle.go_model.specs.declared.types.package.ConstTerm.{ConstTerm}
use Rattle.go_model.specs.declared.types.package.ConstTerm.TheVariants as constant
use Rattle.go_model.specs.declared.types.term.Term.{Term, Term-F, out-Term, out-roll-Term}
use Rattle.go_model.specs.types.Terms.{Layer}
use Rattle.go_model.specs.types.Underlying.{under}
use Rattle.go_rules.specs.Environments.{Env}
use Rattle.go_rules.specs.Expressions.{Converts, converts_constant, converts_inexact, converts_value, converts_typed, converts_untyped, converts_truth, converts_nil, is_composed, is_constant}
use Rattle.go_rules.specs.Operands.{HasKind, IsTyped, basic_term, constant_of, default_type, loose, nil, plain}
use Rattle.go_rules.specs.Usability.{Convertible, DefaultHolds, UsableAs}
use Rattle.go_rules.specs.declared.operand.Operand.{Operand}
use Rattle.go_rules.proofs.OneKind.{no_truth, one_kind, one_type}
use Rattle.go_usability.specs.go_selectors.Answers.{Decides}
use Rattle.go_usability.specs.Answers.{Gives}
use Rattle.go_operators.specs.inner.Conversions.{ConvertsType, converts_type, ConvertsInexact, converts_number, ConvertsExact, converts_exact}
use Rattle.go_operators.proofs.Answers.{given, none_some, false_true}
use Rattle.go_operators.proofs.LevelForms.{same_basic}

pub inexact_number : (v : Value) (x : ℤ) (u : Term) (r : Operand) → v ≡ value.Int x → r ≡ plain u → ConvertsInexact v u r
inexact_number v x u r e f = subst (ConvertsInexact v u) (sym f) (subst (λ (y : Value). ConvertsInexact y u (plain u)) (sym e) converts_number)

no_number : {v : Value} {u : Term} {r : Operand} → ConvertsInexact v u r → (x : ℤ) × (v ≡ value.Int x)
no_number converts_number = (_, refl)

text_apart : {s : List ℕ} {x : ℤ} → ◌≡◌ {A = Value} (value.Str s) (value.Int x) → ⊥
text_apart e = absurd (cc)

truth_apart : {b : Bool} {x : ℤ} → ◌≡◌ {A = Value} (value.Truth b) (value.Int x) → ⊥
truth_apart e = absurd (cc)

pub inexact_text : (v : Value) (s : List ℕ) (u : Term) → v ≡ value.Str s → (r : Operand) → ConvertsInexact v u r → ⊥
inexact_text v s u e r x = text_apart (sym e ∙ (no_number x).1)

pub inexact_truth : (v : Value) (b : Bool) (u : Term) → v ≡ value.Truth b → (r : Operand) → ConvertsInexact v u r → ⊥
inexact_truth v b u e r x = truth_apart (sym e ∙ (no_number x).1)

module _ (E : Env) where
  is_converted : {t u : Term} {r : Operand} → ConvertsType E t u r → Convertible E t u
  is_converted (converts_type c) = c

  pub type_converts : (t u : Term) (b : Bool) → Decides b (Convertible E t u) → Gives (ConvertsType E t u) (if b then Some (plain u) else None)
  type_converts t u b d = given (ConvertsType E t u) (Convertible E t u) b (plain u) d (λ c. converts_type c) (λ r x. is_converted x)

  pub default_converts : (k : Untyped) (b : Basic) (t u : Term) (r : Option Operand) → default_type k ≡ basic_term b → t ≡ basic_term b → Gives (ConvertsType E t u) r → Gives (ConvertsType E (default_type k) u) r
  default_converts k b t u r e f g = subst (λ (x : Term). Gives (ConvertsType E x u) r) (f ∙ sym e) g

  -- ---- constants of basic types

  no_kind : {c : ConstTerm} {v : Value} {u : Term} {b : Basic} {r : Operand} → ((k : Kind) → HasKind E c k → ⊥) → ConvertsExact E c v u b r → ⊥
  no_kind none (converts_exact h e) = none _ h

  pub exact_no_kind : (c : ConstTerm) (v : Value) (u : Term) (b : Basic) → ((k : Kind) → HasKind E c k → ⊥) → (r : Operand) → ConvertsExact E c v u b r → ⊥
  exact_no_kind c v u b none r x = no_kind none x

  not_converted : {c : ConstTerm} {v : Value} {u : Term} {b : Basic} {k : Kind} {r : Operand} → HasKind E c k → None ≡ converted v k b E.bits → ConvertsExact E c v u b r → ⊥
  not_converted {v = v} {b = b} h e (converts_exact g f) = none_some (e ∙ ap (λ (x : Kind). converted v x b E.bits) (one_kind h g) ∙ f)

  exactly : (c : ConstTerm) (v : Value) (u : Term) (b : Basic) (k : Kind) (w : Option Value) → HasKind E c k → w ≡ converted v k b E.bits → Gives (ConvertsExact E c v u b) (option_map (constant_of (constant.OfTerm u)) w)
  exactly c v u b k (Some w) h e = converts_exact h (sym e)
  exactly c v u b k None h e = λ r x. not_converted h e x

  pub exact_converts : (c : ConstTerm) (v : Value) (t u : Term) (b : Basic) (k : Kind) (n : ℕ) (w : Option Value) → HasKind E c k → n ≡ E.bits → w ≡ converted v k b n → t ≡ u → Gives (ConvertsExact E c v u b) (option_map (constant_of (constant.OfTerm t)) w)
  exact_converts c v t u b k n w h e f g = subst (λ (x : Term). Gives (ConvertsExact E c v u b) (option_map (constant_of (constant.OfTerm x)) w)) (sym g) (exactly c v u b k w h (f ∙ ap (converted v k b) e))

  exact_is : {c : ConstTerm} {v : Value} {u : Term} {b : Basic} {r : Operand} → under E.table u ≡ Term-F.Plain b → is_inexact (class_of_basic b) ≡ false → ConvertsExact E c v u b r → Converts E (constant_of c v) u r
  exact_is e f (converts_exact h w) = converts_constant e f h w

  composed_plain : {l : Layer} {b : Basic} → l ≡ Term-F.Plain b → is_composed l ≡ true → ⊥
  composed_plain e c = no_truth (sym c ∙ ap is_composed e)

  is_exact : {c : ConstTerm} {v : Value} {u : Term} {b : Basic} {r : Operand} → under E.table u ≡ Term-F.Plain b → is_inexact (class_of_basic b) ≡ false → Converts E (constant_of c v) u r → ConvertsExact E c v u b r
  is_exact {v = v} e f (converts_constant {w = w} {k = k} g i h x) = converts_exact h (subst (λ (y : Basic). converted v k y E.bits ≡ Some w) (same_basic (sym g ∙ e)) x)
  is_exact e f (converts_inexact g i) = absurd (false_true (sym f ∙ ap (λ (y : Basic). is_inexact (class_of_basic y)) (same_basic (sym e ∙ g)) ∙ i))
  is_exact e f (converts_value n h a) = absurd (no_truth n)
  is_exact e f (converts_typed i a) = absurd (composed_plain e i)
  is_exact e f (converts_untyped i d a) = absurd (composed_plain e i)

  pub convert_exact : (c : ConstTerm) (v : Value) (u : Term) (b : Basic) (r : Option Operand) → under E.table u ≡ Term-F.Plain b → is_inexact (class_of_basic b) ≡ false → Gives (ConvertsExact E c v u b) r → Gives (Converts E (constant_of c v) u) r
  convert_exact c v u b (Some r) e f g = exact_is e f g
  convert_exact c v u b None e f g = λ r x. g r (is_exact e f x)

  inexact_is : {c : ConstTerm} {v : Value} {u : Term} {b : Basic} {r : Operand} → under E.table u ≡ Term-F.Plain b → is_inexact (class_of_basic b) ≡ true → ConvertsInexact v u r → Converts E (constant_of c v) u r
  inexact_is e f converts_number = converts_inexact e f

  is_inexact_one : {c : ConstTerm} {v : Value} {u : Term} {b : Basic} {r : Operand} → under E.table u ≡ Term-F.Plain b → is_inexact (class_of_basic b) ≡ true → Converts E (constant_of c v) u r → ConvertsInexact v u r
  is_inexact_one e f (converts_constant g i h x) = absurd (false_true (sym i ∙ ap (λ (y : Basic). is_inexact (class_of_basic y)) (same_basic (sym g ∙ e)) ∙ f))
  is_inexact_one e f (converts_inexact g i) = converts_number
  is_inexact_one e f (converts_value n h a) = absurd (no_truth n)
  is_inexact_one e f (converts_typed i a) = absurd (composed_plain e i)
  is_inexact_one e f (converts_untyped i d a) = absurd (composed_plain e i)

  pub convert_inexact : (c : ConstTerm) (v : Value) (u : Term) (b : Basic) (r : Option Operand) → under E.table u ≡ Term-F.Plain b → is_inexact (class_of_basic b) ≡ true → Gives (ConvertsInexact v u) r → Gives (Converts E (constant_of c v) u) r
  convert_inexact c v u b (Some r) e f g = inexact_is e f g
  convert_inexact c v u b None e f g = λ r x. g r (is_inexact_one e f x)

  -- ---- constants of other types

  not_composed : {c : ConstTerm} {v : Value} {u : Term} {r : Operand} → ((b : Basic) → under E.table u ≡ Term-F.Plain b → ⊥) → is_composed (under E.table u) ≡ false → Converts E (constant_of c v) u r → ⊥
  not_composed none f (converts_constant g i h x) = none _ g
  not_composed none f (converts_inexact g i) = none _ g
  not_composed none f (converts_value n h a) = no_truth n
  not_composed none f (converts_typed i a) = false_true (sym f ∙ i)
  not_composed none f (converts_untyped i d a) = false_true (sym f ∙ i)

  pub convert_name : (c : ConstTerm) (v : Value) (u : Term) → ((b : Basic) → under E.table u ≡ Term-F.Plain b → ⊥) → is_composed (under E.table u) ≡ false → (r : Operand) → Converts E (constant_of c v) u r → ⊥
  convert_name c v u none f r x = not_composed none f x

  typed_is : {t u : Term} {v : Value} {r : Operand} → is_composed (under E.table u) ≡ true → ConvertsType E t u r → Converts E (constant_of (constant.OfTerm t) v) u r
  typed_is i (converts_type c) = converts_typed i c

  is_typed : {t u : Term} {v : Value} {r : Operand} → is_composed (under E.table u) ≡ true → Converts E (constant_of (constant.OfTerm t) v) u r → ConvertsType E t u r
  is_typed c (converts_constant g i h x) = absurd (composed_plain g c)
  is_typed c (converts_inexact g i) = absurd (composed_plain g c)
  is_typed c (converts_value n h a) = absurd (no_truth n)
  is_typed c (converts_typed i a) = converts_type a

  typed_gives : (t u : Term) (v : Value) (r : Option Operand) → is_composed (under E.table u) ≡ true → Gives (ConvertsType E t u) r → Gives (Converts E (constant_of (constant.OfTerm t) v) u) r
  typed_gives t u v (Some r) c g = typed_is c g
  typed_gives t u v None c g = λ r x. g r (is_typed c x)

  pub convert_typed : (c : ConstTerm) (t u : Term) (v : Value) (r : Option Operand) → c ≡ constant.OfTerm t → is_composed (under E.table u) ≡ true → Gives (ConvertsType E t u) r → Gives (Converts E (constant_of c v) u) r
  convert_typed c t u v r e i g = subst (λ (x : ConstTerm). Gives (Converts E (constant_of x v) u) r) (sym e) (typed_gives t u v r i g)

  untyped_is : {k : Untyped} {u : Term} {v : Value} {r : Operand} → is_composed (under E.table u) ≡ true → DefaultHolds E k v → ConvertsType E (default_type k) u r → Converts E (constant_of (constant.OfKind k) v) u r
  untyped_is i d (converts_type c) = converts_untyped i d c

  holds : {k : Untyped} {u : Term} {v : Value} {r : Operand} → is_composed (under E.table u) ≡ true → Converts E (constant_of (constant.OfKind k) v) u r → DefaultHolds E k v
  holds c (converts_constant g i h x) = absurd (composed_plain g c)
  holds c (converts_inexact g i) = absurd (composed_plain g c)
  holds c (converts_value n h a) = absurd (no_truth n)
  holds c (converts_untyped i d a) = d

  is_untyped : {k : Untyped} {u : Term} {v : Value} {r : Operand} → is_composed (under E.table u) ≡ true → Converts E (constant_of (constant.OfKind k) v) u r → ConvertsType E (default_type k) u r
  is_untyped c (converts_constant g i h x) = absurd (composed_plain g c)
  is_untyped c (converts_inexact g i) = absurd (composed_plain g c)
  is_untyped c (converts_value n h a) = absurd (no_truth n)
  is_untyped c (converts_untyped i d a) = converts_type a

  pub convert_not_held : (c : ConstTerm) (k : Untyped) (u : Term) (v : Value) → c ≡ constant.OfKind k → is_composed (under E.table u) ≡ true → (DefaultHolds E k v → ⊥) → (r : Operand) → Converts E (constant_of c v) u r → ⊥
  convert_not_held c k u v e i none r x = none (holds i (subst (λ (y : ConstTerm). Converts E (constant_of y v) u r) e x))

  untyped_gives : (k : Untyped) (u : Term) (v : Value) (r : Option Operand) → is_composed (under E.table u) ≡ true → DefaultHolds E k v → Gives (ConvertsType E (default_type k) u) r → Gives (Converts E (constant_of (constant.OfKind k) v) u) r
  untyped_gives k u v (Some r) c d g = untyped_is c d g
  untyped_gives k u v None c d g = λ r x. g r (is_untyped c x)

  pub convert_untyped : (c : ConstTerm) (k : Untyped) (u : Term) (v : Value) (r : Option Operand) → c ≡ constant.OfKind k → is_composed (under E.table u) ≡ true → DefaultHolds E k v → Gives (ConvertsType E (default_type k) u) r → Gives (Converts E (constant_of c v) u) r
  convert_untyped c k u v r e i d g = subst (λ (x : ConstTerm). Gives (Converts E (constant_of x v) u) r) (sym e) (untyped_gives k u v r i d g)

  -- ---- values

  nil_usable : {u : Term} {r : Operand} → Converts E nil u r → UsableAs E nil u
  nil_usable (converts_value n h a) = elim h [ ]
  nil_usable (converts_nil p) = p

  nil_gives : (u : Term) (b : Bool) → Decides b (UsableAs E nil u) → Gives (Converts E nil u) (if b then Some (plain u) else None)
  nil_gives u b d = given (Converts E nil u) (UsableAs E nil u) b (plain u) d (λ p. converts_nil p) (λ r x. nil_usable x)

  pub convert_nil : (o : Operand) (u : Term) (b : Bool) → o ≡ nil → Decides b (UsableAs E o u) → Gives (Converts E o u) (if b then Some (plain u) else None)
  convert_nil o u b e d = subst (λ (x : Operand). Gives (Converts E x u) (if b then Some (plain u) else None)) (sym e) (nil_gives u b (subst (λ (x : Operand). Decides b (UsableAs E x u)) e d))

  loose_is : {k : Untyped} {u : Term} {r : Operand} → ConvertsType E (default_type k) u r → Converts E (loose k) u r
  loose_is (converts_type c) = converts_truth c

  is_loose : {k : Untyped} {u : Term} {r : Operand} → Converts E (loose k) u r → ConvertsType E (default_type k) u r
  is_loose (converts_value n h a) = elim h [ ]
  is_loose (converts_truth c) = converts_type c

  loose_gives : (k : Untyped) (u : Term) (r : Option Operand) → Gives (ConvertsType E (default_type k) u) r → Gives (Converts E (loose k) u) r
  loose_gives k u (Some r) g = loose_is g
  loose_gives k u None g = λ r x. g r (is_loose x)

  pub convert_loose : (o : Operand) (k : Untyped) (u : Term) (r : Option Operand) → o ≡ loose k → Gives (ConvertsType E (default_type k) u) r → Gives (Converts E o u) r
  convert_loose o k u r e g = subst (λ (x : Operand). Gives (Converts E x u) r) (sym e) (loose_gives k u r g)

  value_is : {o r : Operand} {t u : Term} → is_constant o.mode ≡ false → IsTyped o t → ConvertsType E t u r → Converts E o u r
  value_is n h (converts_type c) = converts_value n h c

  is_value : {o r : Operand} {t u : Term} → is_constant o.mode ≡ false → IsTyped o t → (o ≡ nil → ⊥) → ((k : Untyped) → o ≡ loose k → ⊥) → Converts E o u r → ConvertsType E t u r
  is_value n h no_nil no_loose (converts_constant g i a x) = absurd (no_truth n)
  is_value n h no_nil no_loose (converts_inexact g i) = absurd (no_truth n)
  is_value {u = u} n h no_nil no_loose (converts_value m g a) = converts_type (subst (λ (x : Term). Convertible E x u) (one_type g h) a)
  is_value n h no_nil no_loose (converts_typed i a) = absurd (no_truth n)
  is_value n h no_nil no_loose (converts_untyped i d a) = absurd (no_truth n)
  is_value n h no_nil no_loose (converts_truth c) = absurd (no_loose _ refl)
  is_value n h no_nil no_loose (converts_nil p) = absurd (no_nil refl)

  pub convert_value : (o : Operand) (t u : Term) (r : Option Operand) → is_constant o.mode ≡ false → IsTyped o t → (o ≡ nil → ⊥) → ((k : Untyped) → o ≡ loose k → ⊥) → Gives (ConvertsType E t u) r → Gives (Converts E o u) r
  convert_value o t u (Some r) n h a b g = value_is n h g
  convert_value o t u None n h a b g = λ r x. g r (is_value n h a b x)

  no_type : {o r : Operand} {u : Term} → is_constant o.mode ≡ false → ((t : Term) → IsTyped o t → ⊥) → (o ≡ nil → ⊥) → ((k : Untyped) → o ≡ loose k → ⊥) → Converts E o u r → ⊥
  no_type n none a b (converts_constant g i h x) = no_truth n
  no_type n none a b (converts_inexact g i) = no_truth n
  no_type n none a b (converts_value m h c) = none _ h
  no_type n none a b (converts_typed i c) = no_truth n
  no_type n none a b (converts_untyped i d c) = no_truth n
  no_type n none a b (converts_truth c) = b _ refl
  no_type n none a b (converts_nil p) = a refl

  pub convert_no_type : (o : Operand) (u : Term) → is_constant o.mode ≡ false → ((t : Term) → IsTyped o t → ⊥) → (o ≡ nil → ⊥) → ((k : Untyped) → o ≡ loose k → ⊥) → (r : Operand) → Converts E o u r → ⊥
  convert_no_type o u n none a b r x = no_type n none a b x

  -- ---- the result

  pub conversion_of_constant : (o : Operand) (c : ConstTerm) (v : Value) (u : Term) (r : Option Operand) → o ≡ constant_of c v → Gives (Converts E (constant_of c v) u) r → Gives (Converts E o u) r
  conversion_of_constant o c v u r e g = subst (λ (x : Operand). Gives (Converts E x u) r) (sym e) g

  no_constant : {o r : Operand} {u : Term} → ((c : ConstTerm) (v : Value) → o ≡ constant_of c v → ⊥) → is_constant o.mode ≡ true → Converts E o u r → ⊥
  no_constant none t (converts_constant g i h x) = none _ _ refl
  no_constant none t (converts_inexact g i) = none _ _ refl
  no_constant none t (converts_value m h c) = false_true (sym m ∙ t)
  no_constant none t (converts_typed i c) = none _ _ refl
  no_constant none t (converts_untyped i d c) = none _ _ refl
  no_constant none t (converts_truth c) = false_true t
  no_constant none t (converts_nil p) = false_true t

  pub conversion_no_constant : (o : Operand) (u : Term) → ((c : ConstTerm) (v : Value) → o ≡ constant_of c v → ⊥) → is_constant o.mode ≡ true → (r : Operand) → Converts E o u r → ⊥
  conversion_no_constant o u none t r x = no_constant none t x

  -- ---- default types

  basic_holds : (k : Untyped) (v : Value) (b : Basic) → default_type k ≡ basic_term b → is_representable v b E.bits ≡ true → DefaultHolds E k v
  basic_holds k v b e r = (b, ap out-Term e ∙ out-roll-Term (Term-F.Plain b), r)

  same_default : (k : Untyped) (b d : Basic) → default_type k ≡ basic_term b → out-Term (default_type k) ≡ Term-F.Plain d → b ≡ d
  same_default k b d e f = same_basic (sym (ap out-Term e ∙ out-roll-Term (Term-F.Plain b)) ∙ f)

  pub default_decides : (k : Untyped) (v : Value) (b : Basic) (n : ℕ) (r : Bool) → default_type k ≡ basic_term b → n ≡ E.bits → r ≡ is_representable v b n → Decides r (DefaultHolds E k v)
  default_decides k v b n true e f g = basic_holds k v b e (sym (g ∙ ap (is_representable v b) f))
  default_decides k v b n false e f g = λ x. false_true (g ∙ ap (is_representable v b) f ∙ ap (λ (y : Basic). is_representable v y E.bits) (same_default k b x.0 e x.1) ∙ x.2)
