-- Elements: what they are, and where there are none.
use Rattle.std.proofs.Common.{◌≡◌, ℕ, Bool, true, false, Option, Some, None, refl, sym, ap, ◌∙◌, subst, if◌then◌else◌}
use Rattle.go_model.specs.declared.constants.value.Basic.{Basic}
use Rattle.go_model.specs.declared.constants.value.Basic.TheVariants as basic
use Rattle.go_model.specs.declared.types.term.Term.{Term, Term-F, out-Term}
use Rattle.go_model.specs.declared.types.term.Term.TheVariants as term
use Rattle.go_model.specs.declared.types.term.Term.TheVariants.{outs-Array, outs-Slice}
use Rattle.go_model.specs.types.Terms.{Layer}
use Rattle.go_model.specs.types.Underlying.{under}
use Rattle.go_rules.specs.Environments.{Env}
use Rattle.go_rules.specs.Expressions.{Below, IsString, reached}
use Rattle.go_rules.specs.Operands.{IsTyped, basic_term, is_variable, plain, value_of, variable}
use Rattle.go_rules.specs.declared.operand.Mode.{Mode}
use Rattle.go_rules.specs.declared.operand.Operand.{Operand}
use Rattle.go_rules.proofs.OneKind.{one_type}
use Rattle.go_rules.proofs.OneResult.{one_string, string_under}
use Rattle.go_operators.specs.go_selectors.Answers.{Decides}
use Rattle.go_operators.specs.go_usability.Answers.{Gives}
use Rattle.go_elements.specs.Indexes.{Indexes, indexes_array, indexes_array_pointer, indexes_slice, indexes_string, indexes_map}
use Rattle.go_elements.specs.inner.Elements.{IsIndexBelow, index_below, ElementOfBase, ElementAt, ByteAt}

-- what stands where a fact holds, and then alone
where_holds : (Q : Type 0) (b : Bool) (x : Operand) → Decides b Q → Gives (λ r. Q × (r ≡ x)) (if b then Some x else None)
where_holds Q true x d = (d, refl)
where_holds Q false x d = λ r p. d p.0

pub answered_where : (Q : Type 0) (b : Bool) (x : Operand) (a : Option Operand) → a ≡ (if b then Some x else None) → Decides b Q → Gives (λ r. Q × (r ≡ x)) a
answered_where Q b x a e d = subst (Gives (λ r. Q × (r ≡ x))) (sym e) (where_holds Q b x d)

-- a value by its mode, which is another one
pub same_mode : (Q : Type 0) (m n : Mode) (e : Term) (a : Option Operand) → m ≡ n → Gives (λ r. Q × (r ≡ value_of m e)) a → Gives (λ r. Q × (r ≡ value_of n e)) a
same_mode Q m n e a s g = subst (λ (k : Mode). Gives (λ r. Q × (r ≡ value_of k e)) a) s g

array_string : {n : ℕ} {e : Term} {b : Basic} → ◌≡◌ {A = Layer} (Term-F.Array n e) (Term-F.Plain b) → ⊥
array_string e = absurd (cc)

pointer_string : {e : Term} {b : Basic} → ◌≡◌ {A = Layer} (Term-F.Pointer e) (Term-F.Plain b) → ⊥
pointer_string e = absurd (cc)

slice_string : {e : Term} {b : Basic} → ◌≡◌ {A = Layer} (Term-F.Slice e) (Term-F.Plain b) → ⊥
slice_string e = absurd (cc)

map_string : {k e : Term} {b : Basic} → ◌≡◌ {A = Layer} (Term-F.Map k e) (Term-F.Plain b) → ⊥
map_string e = absurd (cc)

-- every index is below an unknown length
below_any : (c : Option ℕ) → Below c None
below_any None = tt
below_any (Some n) = tt

module _ (E : Env) where
  -- ---- strings

  string_at : {o : Operand} {t : Term} {n : Option ℕ} {l : Layer} → IsString E o n → IsTyped o t → under E.table t ≡ l → l ≡ Term-F.Plain basic.Str
  string_at s h e = sym e ∙ string_under s h

  of_below : {o i : Operand} {n : Option ℕ} → IsString E o n → IsIndexBelow E i n → Indexes E o i (plain (basic_term basic.Uint8))
  of_below s (index_below x b) = indexes_string s x b

  to_byte : {o i r : Operand} {n : Option ℕ} → IsString E o n → Indexes E o i r → ByteAt E n i r
  to_byte s (indexes_array h e x b) = absurd (array_string (string_at s h e))
  to_byte s (indexes_array_pointer h e f x b) = absurd (pointer_string (string_at s h e))
  to_byte s (indexes_slice h e x) = absurd (slice_string (string_at s h e))
  to_byte s (indexes_string {c = c} u x b) = (index_below x (subst (Below c) (one_string u s) b), refl)
  to_byte s (indexes_map h e u) = absurd (map_string (string_at s h e))

  pub index_string : (o i : Operand) (n : Option ℕ) (r : Option Operand) → IsString E o n → Gives (ByteAt E n i) r → Gives (Indexes E o i) r
  index_string o i n (Some r) s g = subst (Indexes E o i) (sym g.1) (of_below s g.0)
  index_string o i n None s g = λ r x. g r (to_byte s x)

  -- ---- values, by what is underneath their types

  at_array : {o i : Operand} {t e : Term} {n : ℕ} → IsTyped o t → under E.table t ≡ Term-F.Array n e → IsIndexBelow E i (Some n) → Indexes E o i (value_of (reached (is_variable o.mode)) e)
  at_array h u (index_below x b) = indexes_array h u x b

  at_pointer : {o i : Operand} {t base e : Term} {n : ℕ} → IsTyped o t → under E.table t ≡ Term-F.Pointer base → under E.table base ≡ Term-F.Array n e → IsIndexBelow E i (Some n) → Indexes E o i (variable e)
  at_pointer h u v (index_below x b) = indexes_array_pointer h u v x b

  at_slice : {o i : Operand} {t e : Term} → IsTyped o t → under E.table t ≡ Term-F.Slice e → IsIndexBelow E i None → Indexes E o i (variable e)
  at_slice h u (index_below x b) = indexes_slice h u x

  of_base : (l : Layer) {o i r : Operand} {t base : Term} → IsTyped o t → under E.table t ≡ Term-F.Pointer base → under E.table base ≡ l → ElementOfBase E i l r → Indexes E o i r
  of_base (Term-F.Array n e) {o = o} {i = i} h u v x = subst (Indexes E o i) (sym x.1) (at_pointer h u v x.0)
  of_base l h u v x = absurd x

  of_element : (l : Layer) {o i r : Operand} {t : Term} → IsTyped o t → under E.table t ≡ l → ElementAt E o.mode i l r → Indexes E o i r
  of_element (Term-F.Array n e) {o = o} {i = i} h u x = subst (Indexes E o i) (sym x.1) (at_array h u x.0)
  of_element (Term-F.Pointer base) h u x = of_base (under E.table base) h u refl x
  of_element (Term-F.Slice e) {o = o} {i = i} h u x = subst (Indexes E o i) (sym x.1) (at_slice h u x.0)
  of_element (Term-F.Map k e) {o = o} {i = i} h u x = subst (Indexes E o i) (sym x.1) (indexes_map h u x.0)
  of_element l h u x = absurd x

  at_layer : (i r : Operand) {o : Operand} {t u : Term} {k : Layer} → IsTyped o t → IsTyped o u → under E.table u ≡ k → ElementAt E o.mode i k r → ElementAt E o.mode i (under E.table t) r
  at_layer i r {o = o} h g f x = subst (λ (y : Layer). ElementAt E o.mode i y r) (sym f ∙ ap (under E.table) (one_type g h)) x

  to_element : {o i r : Operand} {t : Term} → IsTyped o t → ((n : Option ℕ) → IsString E o n → ⊥) → Indexes E o i r → ElementAt E o.mode i (under E.table t) r
  to_element h none (indexes_array g f x b) = at_layer _ _ h g f (index_below x b, refl)
  to_element {i = i} {r = r} h none (indexes_array_pointer {base = base} g f p x b) = at_layer i r {k = Term-F.Pointer base} h g f (subst (λ (y : Layer). ElementOfBase E i y r) (sym p) (index_below x b, refl))
  to_element h none (indexes_slice {c = c} g f x) = at_layer _ _ h g f (index_below x (below_any c), refl)
  to_element h none (indexes_string s x b) = absurd (none _ s)
  to_element h none (indexes_map g f u) = at_layer _ _ h g f (u, refl)

  pub index_element : (o i : Operand) (t : Term) (l : Layer) (r : Option Operand) → IsTyped o t → l ≡ under E.table t → ((n : Option ℕ) → IsString E o n → ⊥) → Gives (ElementAt E o.mode i l) r → Gives (Indexes E o i) r
  index_element o i t l (Some r) h e none g = of_element l h (sym e) g
  index_element o i t l None h e none g = λ r x. g r (subst (λ (y : Layer). ElementAt E o.mode i y r) (sym e) (to_element h none x))

  -- ---- as code has them

  pub base_gives : (i : Operand) (v : Term) (n : ℕ) (e w : Term) (a : Option Operand) → v ≡ term.Array n e → w ≡ e → Gives (λ r. IsIndexBelow E i (Some n) × (r ≡ variable w)) a → Gives (ElementOfBase E i (out-Term v)) a
  base_gives i v n e w a f g h = subst (λ (l : Layer). Gives (ElementOfBase E i l) a) (sym (ap out-Term f ∙ outs-Array n e)) (subst (λ (x : Term). Gives (λ r. IsIndexBelow E i (Some n) × (r ≡ variable x)) a) g h)

  pub array_gives : (m : Mode) (i : Operand) (v : Term) (n : ℕ) (e w : Term) (a : Option Operand) → v ≡ term.Array n e → w ≡ e → Gives (ElementAt E m i (Term-F.Array n w)) a → Gives (ElementAt E m i (out-Term v)) a
  array_gives m i v n e w a f g h = subst (λ (l : Layer). Gives (ElementAt E m i l) a) (sym (ap out-Term f ∙ outs-Array n e)) (subst (λ (x : Term). Gives (ElementAt E m i (Term-F.Array n x)) a) g h)

  pub slice_gives : (m : Mode) (i : Operand) (v e w : Term) (a : Option Operand) → v ≡ term.Slice e → w ≡ e → Gives (λ r. IsIndexBelow E i None × (r ≡ variable w)) a → Gives (ElementAt E m i (out-Term v)) a
  slice_gives m i v e w a f g h = subst (λ (l : Layer). Gives (ElementAt E m i l) a) (sym (ap out-Term f ∙ outs-Slice e)) (subst (λ (x : Term). Gives (λ r. IsIndexBelow E i None × (r ≡ variable x)) a) g h)

  -- ---- values without a type

  no_element : {o i r : Operand} → ((t : Term) → IsTyped o t → ⊥) → ((n : Option ℕ) → IsString E o n → ⊥) → Indexes E o i r → ⊥
  no_element no_type none (indexes_array g f x b) = no_type _ g
  no_element no_type none (indexes_array_pointer g f p x b) = no_type _ g
  no_element no_type none (indexes_slice g f x) = no_type _ g
  no_element no_type none (indexes_string s x b) = none _ s
  no_element no_type none (indexes_map g f u) = no_type _ g

  pub index_no_type : (o i : Operand) → ((t : Term) → IsTyped o t → ⊥) → ((n : Option ℕ) → IsString E o n → ⊥) → (r : Operand) → Indexes E o i r → ⊥
  index_no_type o i no_type none r x = no_element no_type none x
