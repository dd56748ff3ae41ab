-- Arrays underneath types.
use Rattle.std.proofs.Common.{◌≡◌, ℕ, Bool, true, false, Option, Some, None, refl, sym, subst}
use Rattle.go_model.specs.declared.types.term.Term.{Term, Term-F}
use Rattle.go_model.specs.types.Terms.{Layer}
use Rattle.go_model.specs.types.Underlying.{under}
use Rattle.go_rules.specs.Environments.{Env}
use Rattle.go_rules.specs.Expressions.{IsArray, array_itself, array_pointer}
use Rattle.go_operators.specs.go_usability.Answers.{Gives}
use Rattle.go_elements.specs.inner.Arrays.{BaseLength, LengthAt}

abbrev pub HasArray : Env → Term → ℕ → Type 0
HasArray E t n = (pointer : Bool) × (e : Term) × IsArray E t pointer n e

module _ (E : Env) where
  of_base : (l : Layer) {t base : Term} {n : ℕ} → under E.table t ≡ Term-F.Pointer base → under E.table base ≡ l → BaseLength l n → HasArray E t n
  of_base (Term-F.Array m e) {t = t} p u q = subst (HasArray E t) (sym q) (true, e, array_pointer p u)
  of_base l p u q = absurd q

  of_layer : (l : Layer) {t : Term} {n : ℕ} → under E.table t ≡ l → LengthAt E l n → HasArray E t n
  of_layer (Term-F.Array m e) {t = t} u q = subst (HasArray E t) (sym q) (false, e, array_itself u)
  of_layer (Term-F.Pointer base) u q = of_base (under E.table base) u refl q
  of_layer l u q = absurd q

  to_layer : {t e : Term} {p : Bool} {n : ℕ} → IsArray E t p n e → LengthAt E (under E.table t) n
  to_layer {n = n} (array_itself u) = subst (λ (l : Layer). LengthAt E l n) (sym u) refl
  to_layer {n = n} (array_pointer u v) = subst (λ (l : Layer). LengthAt E l n) (sym u) (subst (λ (l : Layer). BaseLength l n) (sym v) refl)

  pub length_gives : (t : Term) (l : Layer) (n : Option ℕ) → l ≡ under E.table t → Gives (LengthAt E l) n → Gives (HasArray E t) n
  length_gives t l (Some n) e g = of_layer l (sym e) g
  length_gives t l None e g = λ n x. g n (subst (λ (y : Layer). LengthAt E y n) (sym e) (to_layer x.2))
