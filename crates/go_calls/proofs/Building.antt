-- Calls of the other builtin functions: what they make, and where they make nothing.
use Rattle.std.proofs.Common.{◌≡◌, Bool, true, false, Option, Some, None, refl, sym, ap, ◌∙◌, subst, if◌then◌else◌, List, [], ◌∷◌, length, arith}
use Rattle.go_base.specs.Lists.{Each}
use Rattle.go_model.specs.declared.constants.value.Untyped.{Untyped}
use Rattle.go_model.specs.declared.constants.value.Value.{Value}
use Rattle.go_model.specs.declared.types.package.ConstTerm.{ConstTerm}
use Rattle.go_model.specs.declared.types.package.ConstTerm.TheVariants as constant
use Rattle.go_model.specs.declared.types.term.Direction.{Direction}
use Rattle.go_model.specs.declared.types.term.Term.{Term, Term-F}
use Rattle.go_model.specs.types.Underlying.{under}
use Rattle.go_rules.specs.Environments.{Env}
use Rattle.go_rules.specs.Expressions.{IsPrinted, printed_typed, printed_constant, printed_truth, sends}
use Rattle.go_rules.specs.Operands.{IsTyped, any_term, constant_of, loose, no_value}
use Rattle.go_rules.specs.Usability.{DefaultHolds, UsableAs}
use Rattle.go_rules.specs.declared.operand.Operand.{Operand}
use Rattle.go_rules.proofs.OneKind.{one_type}
use Rattle.go_selectors.specs.Answers.{Decides}
use Rattle.go_elements.specs.go_usability.Answers.{Gives}
use Rattle.go_calls.specs.Builtins.{Closes, closes, Deletes, deletes, Panics, panics, Prints, prints_each, OfOne, OfTwo, OfMore, OfAny, OfNone}
use Rattle.go_elements.proofs.go_operators_proofs.Answers.{given, given_test}
use Rattle.go_elements.proofs.go_operators_proofs.TypedOperands.{typed_by_constant}
use Rattle.go_elements.proofs.go_operators_proofs.LevelForms.{same_direction}
use Rattle.go_calls.proofs.LevelParts.{same_key}

module _ (E : Env) where
  closed : {o r : Operand} → Closes E o r → (t : Term) × (u : Term) × (d : Direction) × IsTyped o t × (under E.table t ≡ Term-F.Chan d u) × (sends d ≡ true)
  closed (closes h e s) = (_, _, _, h, e, s)

  pub close_no_type : (o : Operand) → ((t : Term) → IsTyped o t → ⊥) → (r : Operand) → Closes E o r → ⊥
  close_no_type o none r x = none _ (closed x).3

  pub close_no_channel : (o : Operand) (t : Term) → IsTyped o t → ((d : Direction) (u : Term) → under E.table t ≡ Term-F.Chan d u → ⊥) → (r : Operand) → Closes E o r → ⊥
  close_no_channel o t h none r x = none _ _ (ap (under E.table) (one_type h (closed x).3) ∙ (closed x).4)

  close_sends : (o : Operand) (t u : Term) (d : Direction) → IsTyped o t → under E.table t ≡ Term-F.Chan d u → Gives (Closes E o) (if sends d then Some no_value else None)
  close_sends o t u d h e =
      given_test (Closes E o) (sends d) no_value (λ s. closes h e s)
      (λ r x. ap sends (same_direction (sym e ∙ ap (under E.table) (one_type h (closed x).3) ∙ (closed x).4)) ∙ (closed x).5)

  pub close_gives : (o : Operand) (t u : Term) (d : Direction) (b : Bool) → IsTyped o t → under E.table t ≡ Term-F.Chan d u → b ≡ sends d → Gives (Closes E o) (if b then Some no_value else None)
  close_gives o t u d b h e f = subst (λ (x : Bool). Gives (Closes E o) (if x then Some no_value else None)) (sym f) (close_sends o t u d h e)

  deleted : {o q r : Operand} → Deletes E o q r → (t : Term) × (k : Term) × (u : Term) × IsTyped o t × (under E.table t ≡ Term-F.Map k u) × UsableAs E q k
  deleted (deletes h e p) = (_, _, _, h, e, p)

  pub delete_no_type : (o q : Operand) → ((t : Term) → IsTyped o t → ⊥) → (r : Operand) → Deletes E o q r → ⊥
  delete_no_type o q none r x = none _ (deleted x).3

  pub delete_no_map : (o q : Operand) (t : Term) → IsTyped o t → ((k u : Term) → under E.table t ≡ Term-F.Map k u → ⊥) → (r : Operand) → Deletes E o q r → ⊥
  delete_no_map o q t h none r x = none _ _ (ap (under E.table) (one_type h (deleted x).3) ∙ (deleted x).4)

  pub delete_gives : (o q : Operand) (t k u : Term) (b : Bool) → IsTyped o t → under E.table t ≡ Term-F.Map k u → Decides b (UsableAs E q k) → Gives (Deletes E o q) (if b then Some no_value else None)
  delete_gives o q t k u b h e d =
      given (Deletes E o q) (UsableAs E q k) b no_value d (λ p. deletes h e p)
      (λ r x. subst (UsableAs E q) (same_key (sym (deleted x).4 ∙ ap (under E.table) (one_type (deleted x).3 h) ∙ e)) (deleted x).5)

  panicked : {o r : Operand} → Panics E o r → UsableAs E o any_term
  panicked (panics p) = p

  pub panic_gives : (o : Operand) (t : Term) (b : Bool) → t ≡ any_term → Decides b (UsableAs E o t) → Gives (Panics E o) (if b then Some no_value else None)
  panic_gives o t b e d = given (Panics E o) (UsableAs E o any_term) b no_value (subst (λ (x : Term). Decides b (UsableAs E o x)) e d) (λ p. panics p) (λ r x. panicked x)

  -- ---- print

  pub printed_type : (o : Operand) (t : Term) → IsTyped o t → IsPrinted E o
  printed_type o t h = printed_typed h

  printed_default : {k : Untyped} {v : Value} → IsPrinted E (constant_of (constant.OfKind k) v) → DefaultHolds E k v
  printed_default (printed_typed h) = elim h [ ]
  printed_default (printed_constant d) = d

  constant_prints : (k : Untyped) (v : Value) (b : Bool) → Decides b (DefaultHolds E k v) → Decides b (IsPrinted E (constant_of (constant.OfKind k) v))
  constant_prints k v true d = printed_constant d
  constant_prints k v false d = λ x. d (printed_default x)

  pub constant_printed : (o : Operand) (k : Untyped) (v : Value) (b : Bool) → o ≡ constant_of (constant.OfKind k) v → Decides b (DefaultHolds E k v) → Decides b (IsPrinted E o)
  constant_printed o k v b e d = subst (λ (x : Operand). Decides b (IsPrinted E x)) (sym e) (constant_prints k v b d)

  pub kind_printed : (o : Operand) (c : ConstTerm) (v : Value) (k : Untyped) (b : Bool) → o ≡ constant_of c v → c ≡ constant.OfKind k → Decides b (DefaultHolds E k v) → Decides b (IsPrinted E o)
  kind_printed o c v k b e f d = constant_printed o k v b (e ∙ ap (λ (x : ConstTerm). constant_of x v) f) d

  pub term_printed : (o : Operand) (c : ConstTerm) (v : Value) (t : Term) → o ≡ constant_of c v → c ≡ constant.OfTerm t → ((u : Term) → IsTyped o u → ⊥) → IsPrinted E o → ⊥
  term_printed o c v t e f none x = none t (typed_by_constant o c v t e f)

  pub loose_printed : (o : Operand) (k : Untyped) → o ≡ loose k → IsPrinted E o
  loose_printed o k e = subst (IsPrinted E) (sym e) printed_truth

  unprinted : {o : Operand} → ((t : Term) → IsTyped o t → ⊥) → ((k : Untyped) (v : Value) → o ≡ constant_of (constant.OfKind k) v → ⊥) → ((k : Untyped) → o ≡ loose k → ⊥) → IsPrinted E o → ⊥
  unprinted a b c (printed_typed h) = a _ h
  unprinted a b c (printed_constant d) = b _ _ refl
  unprinted a b c printed_truth = c _ refl

  pub not_printed : (o : Operand) → ((t : Term) → IsTyped o t → ⊥) → ((k : Untyped) (v : Value) → o ≡ constant_of (constant.OfKind k) v → ⊥) → ((k : Untyped) → o ≡ loose k → ⊥) → IsPrinted E o → ⊥
  not_printed o a b c x = unprinted a b c x

  pub none_printed : (o : Operand) → ((t : Term) → IsTyped o t → ⊥) → ((c : ConstTerm) (v : Value) → o ≡ constant_of c v → ⊥) → ((k : Untyped) → o ≡ loose k → ⊥) → IsPrinted E o → ⊥
  none_printed o a b c x = unprinted a (λ k v e. b (constant.OfKind k) v e) c x

  prints_all : {os : List Operand} {r : Operand} → Prints E os r → Each (IsPrinted E) os
  prints_all (prints_each p) = p

  pub print_gives : (os : List Operand) (b : Bool) → Decides b (Each (IsPrinted E) os) → Gives (Prints E os) (if b then Some no_value else None)
  print_gives os b d = given (Prints E os) (Each (IsPrinted E) os) b no_value d (λ p. prints_each p) (λ r x. prints_all x)

-- ---- the number of operands

pub one_gives : (P : Operand → Operand → Type 0) (os : List Operand) (dots : Bool) (o : Operand) (r : Option Operand) → os ≡ o ∷ [] → dots ≡ false → Gives (P o) r → Gives (OfOne P os dots) r
one_gives P os dots o r e f g = subst (λ (b : Bool). Gives (OfOne P os b) r) (sym f) (subst (λ (x : List Operand). Gives (OfOne P x false) r) (sym e) g)

pub two_gives : (P : Operand → Operand → Operand → Type 0) (os : List Operand) (dots : Bool) (o q : Operand) (r : Option Operand) → os ≡ o ∷ q ∷ [] → dots ≡ false → Gives (P o q) r → Gives (OfTwo P os dots) r
two_gives P os dots o q r e f g = subst (λ (b : Bool). Gives (OfTwo P os b) r) (sym f) (subst (λ (x : List Operand). Gives (OfTwo P x false) r) (sym e) g)

pub more_gives : (P : Operand → List Operand → Operand → Type 0) (os : List Operand) (dots : Bool) (o : Operand) (qs : List Operand) (r : Option Operand) → os ≡ o ∷ qs → dots ≡ false → Gives (P o qs) r → Gives (OfMore P os dots) r
more_gives P os dots o qs r e f g = subst (λ (b : Bool). Gives (OfMore P os b) r) (sym f) (subst (λ (x : List Operand). Gives (OfMore P x false) r) (sym e) g)

pub any_gives : (P : List Operand → Operand → Type 0) (os : List Operand) (dots : Bool) (r : Option Operand) → dots ≡ false → Gives (P os) r → Gives (OfAny P os dots) r
any_gives P os dots r f g = subst (λ (b : Bool). Gives (OfAny P os b) r) (sym f) g

pub none_gives : (P : Operand → Type 0) (os : List Operand) (dots : Bool) (r : Operand) → os ≡ [] → dots ≡ false → P r → OfNone P os dots r
none_gives P os dots r e f g = subst (λ (b : Bool). OfNone P os b r) (sym f) (subst (λ (x : List Operand). OfNone P x false r) (sym e) g)

pub one_nothing : (P : Operand → Operand → Type 0) (os : List Operand) (dots : Bool) → ((o : Operand) → os ≡ o ∷ [] → dots ≡ false → ⊥) → (r : Operand) → OfOne P os dots r → ⊥
one_nothing P (o ∷ []) false none r x = none o refl refl
one_nothing P (o ∷ []) true none r x = x
one_nothing P [] dots none r x = x
one_nothing P (o ∷ q ∷ os) dots none r x = x

pub two_nothing : (P : Operand → Operand → Operand → Type 0) (os : List Operand) (dots : Bool) → ((o q : Operand) → os ≡ o ∷ q ∷ [] → dots ≡ false → ⊥) → (r : Operand) → OfTwo P os dots r → ⊥
two_nothing P (o ∷ q ∷ []) false none r x = none o q refl refl
two_nothing P (o ∷ q ∷ []) true none r x = x
two_nothing P [] dots none r x = x
two_nothing P (o ∷ []) dots none r x = x
two_nothing P (o ∷ q ∷ y ∷ os) dots none r x = x

more_dots : (P : Operand → List Operand → Operand → Type 0) (os : List Operand) (r : Operand) → OfMore P os true r → ⊥
more_dots P [] r x = x
more_dots P (o ∷ os) r x = x

pub more_nothing : (P : Operand → List Operand → Operand → Type 0) (os : List Operand) (dots : Bool) → dots ≡ true → (r : Operand) → OfMore P os dots r → ⊥
more_nothing P os dots e r x = more_dots P os r (subst (λ (b : Bool). OfMore P os b r) e x)

pub more_empty : (P : Operand → List Operand → Operand → Type 0) (os : List Operand) (dots : Bool) → length os ≡ 0 → (r : Operand) → OfMore P os dots r → ⊥
more_empty P [] dots e r x = x
more_empty P (o ∷ os) dots e r x = absurd (omega arith)

pub any_nothing : (P : List Operand → Operand → Type 0) (os : List Operand) (dots : Bool) → dots ≡ true → (r : Operand) → OfAny P os dots r → ⊥
any_nothing P os dots e r x = subst (λ (b : Bool). OfAny P os b r) e x

pub none_nothing : (P : Operand → Type 0) (os : List Operand) (dots : Bool) → ((os ≡ []) × (dots ≡ false) → ⊥) → (r : Operand) → OfNone P os dots r → ⊥
none_nothing P [] false none r x = none (refl, refl)
none_nothing P [] true none r x = x
none_nothing P (o ∷ os) dots none r x = x
