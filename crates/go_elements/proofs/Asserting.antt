-- Type assertions: what they make, and where they make nothing.
use Rattle.std.proofs.Common.{◌≡◌, Bool, true, false, Some, None, subst, if◌then◌else◌, inl, inr, List}
use Rattle.go_model.specs.declared.types.term.Method.{Method}
use Rattle.go_model.specs.declared.types.term.Term.{Term, Term-F}
use Rattle.go_model.specs.types.Underlying.{under}
use Rattle.go_rules.specs.Environments.{Env}
use Rattle.go_rules.specs.Expressions.{MayHold}
use Rattle.go_rules.specs.Operands.{IsTyped, plain}
use Rattle.go_rules.specs.Usability.{Implements}
use Rattle.go_rules.specs.declared.operand.Operand.{Operand}
use Rattle.go_rules.proofs.OneKind.{one_type}
use Rattle.go_operators.specs.go_selectors.Answers.{Decides}
use Rattle.go_operators.specs.go_usability.Answers.{Gives}
use Rattle.go_elements.specs.Assertions.{Asserts, asserts}
use Rattle.go_operators.proofs.Answers.{given}

module _ (E : Env) where
  abbrev pub IsInterface : Term → Type 0
  IsInterface t = (ms : List Method) × (under E.table t ≡ Term-F.Interface ms)

  pub holds_interface : (t u : Term) → IsInterface u → MayHold E t u
  holds_interface t u i = inl i

  pub holds_decides : (t u : Term) (b : Bool) → (IsInterface u → ⊥) → Decides b (Implements E u t) → Decides b (MayHold E t u)
  holds_decides t u true none d = inr d
  holds_decides t u false none d = λ x. elim x [ inl i ↦ none i | inr m ↦ d m ]

  asserted : {o r : Operand} {u : Term} → Asserts E o u r → (t : Term) × IsTyped o t × IsInterface t × MayHold E t u
  asserted (asserts h e m) = (_, h, (_, e), m)

  pub assert_no_type : (o : Operand) (u : Term) → ((t : Term) → IsTyped o t → ⊥) → (r : Operand) → Asserts E o u r → ⊥
  assert_no_type o u none r x = none _ (asserted x).1

  pub assert_no_interface : (o : Operand) (t u : Term) → IsTyped o t → (IsInterface t → ⊥) → (r : Operand) → Asserts E o u r → ⊥
  assert_no_interface o t u h none r x = none (subst IsInterface (one_type (asserted x).1 h) (asserted x).2)

  pub assert_gives : (o : Operand) (t u : Term) (b : Bool) → IsTyped o t → IsInterface t → Decides b (MayHold E t u) → Gives (Asserts E o u) (if b then Some (plain u) else None)
  assert_gives o t u b h i d = given (Asserts E o u) (MayHold E t u) b (plain u) d (λ m. asserts h i.1 m) (λ r x. subst (λ (y : Term). MayHold E y u) (one_type (asserted x).1 h) (asserted x).3)
