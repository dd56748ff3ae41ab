-- Among more entries operators, conversions, indices, slice expressions and names make what they made.
use Rattle.std.proofs.Common.{◌≡◌, ℕ, Bool, true, List, [], ◌∷◌, Option, Some, None, refl, sym, ap, ◌∙◌, subst, inl, inr}
use Rattle.go_syntax.specs.go_base.declared.operator.CompareOp.{CompareOp}
use Rattle.go_syntax.specs.go_base.Lists.{Each}
use Rattle.go_model.specs.declared.constants.value.Basic.TheVariants as basic
use Rattle.go_model.specs.declared.constants.value.BinaryOp.{BinaryOp}
use Rattle.go_model.specs.declared.constants.value.Value.{Value}
use Rattle.go_model.specs.declared.types.term.Term.{Term, Term-F}
use Rattle.go_model.specs.types.Terms.{Layer}
use Rattle.go_model.specs.types.Underlying.{under}
use Rattle.go_rules.specs.Environments.{Env}
use Rattle.go_rules.specs.Expressions.{ArgumentsFit, fits_none, fits_more, fits_slice, fits_rest, Computes, computes_constant, computes_value, Converts, converts_constant, converts_inexact, converts_value, converts_typed, converts_untyped, converts_truth, converts_nil, Denotes, DenotesImported, Equates, equates_right, equates_left, equates_untyped_left, equates_untyped_right, equates_kinds, equates_nil_left, equates_nil_right, IsArray, array_itself, array_pointer, IsComparison, comparison_constant, comparison_equality, comparison_order, IsCount, count_value, count_typed, count_untyped, IsIndex, index_value, index_typed, index_untyped, IsPrinted, printed_typed, printed_constant, printed_truth, IsString, string_value, string_typed, string_untyped, IsTypeName, Makes, makes_slice, makes_slice_with_capacity, makes_map, makes_map_with_room, makes_channel, makes_channel_with_buffer, MayHold, NamesType, ProductComputes, ProductKind, arithmetic, shift, Shifts, shifts_constant, shifts_value, Slices, slices_string, slices_untyped, slices_array, slices_array_pointer, slices_slice, is_composed, measures}
use Rattle.go_rules.specs.Growth.{Grows}
use Rattle.go_rules.specs.declared.operand.Operand.{Operand}
use Rattle.go_rules.specs.declared.predeclared.Predeclared.{Predeclared}
use Rattle.go_rules.specs.declared.predeclared.Predeclared.TheVariants as p
use Rattle.go_rules.proofs.GrowRelations.{compares_more, convertible_more, implements_more, kind_more, match_more, usable_more}
use Rattle.go_rules.proofs.GrowTypes.{joined, is_form, form_more}
use Rattle.go_rules.proofs.OneKind.{no_truth}
use Rattle.go_syntax.specs.declared.name.Name.{Name}
use Rattle.go_syntax.specs.declared.name.QualifiedName.{QualifiedName}

composed_form : (l : Layer) → is_composed l ≡ true → is_form l ≡ true
composed_form (Term-F.Named n) h = absurd (no_truth (sym h))
composed_form l h = refl

no_name : (f : Predeclared) (n : _) → measures f (Term-F.Named n) ≡ true → ⊥
no_name p.Len n h = no_truth (sym h)
no_name p.Cap n h = no_truth (sym h)
no_name f n h = no_truth (sym h)

measured_form : (f : Predeclared) (l : Layer) → measures f l ≡ true → is_form l ≡ true
measured_form f (Term-F.Named n) h = absurd (no_name f n h)
measured_form f l h = refl

makes_form : {l : Layer} {n : ℕ} → Makes l n → is_form l ≡ true
makes_form makes_slice = refl
makes_form makes_slice_with_capacity = refl
makes_form makes_map = refl
makes_form makes_map_with_room = refl
makes_form makes_channel = refl
makes_form makes_channel_with_buffer = refl

pub each_of : {A : Type 0} {P Q : A → Type 0} (xs : List A) → ((x : A) → P x → Q x) → Each P xs → Each Q xs
each_of [] f h = tt
each_of (x ∷ xs) f h = (f x h.0, each_of xs f h.1)

module _ (E F : Env) (m : Grows E F) where
  abbrev G : Env
  G = joined E F

  -- ---- names

  pub denotes_more : {n : Name} {o : Operand} → Denotes E n o → Denotes G n o
  denotes_more {n = n} d = record { names = d.names; meaning = d.meaning; means = m.meaning n.text d.meaning d.means; denotes = d.denotes }

  pub imported_more : {q n : Name} {o : Operand} → DenotesImported E q n o → DenotesImported G q n o
  imported_more {q = q} {n = n} d = record { names = d.names; path = d.path; object = d.object; imported = m.meaning q.text _ d.imported; exported = d.exported; declared = m.object d.path n.text d.object d.declared; denotes = d.denotes }

  names_more : (q : Option Name) (n : Name) (t : Term) → NamesType E q n t → NamesType G q n t
  names_more None n t d = denotes_more d
  names_more (Some q) n t d = imported_more d

  pub type_name_more : (q : QualifiedName) (t : Term) → IsTypeName E q t → IsTypeName G q t
  type_name_more q t d = names_more q.qualifier q.name t d

  -- ---- forms

  pub composed_more : (t : Term) → is_composed (under E.table t) ≡ true → is_composed (under F.table t) ≡ true
  composed_more t h = ap is_composed (form_more E F m t (under E.table t) (composed_form (under E.table t) h) refl) ∙ h

  pub measures_more : (f : Predeclared) (t : Term) → measures f (under E.table t) ≡ true → measures f (under F.table t) ≡ true
  measures_more f t h = ap (measures f) (form_more E F m t (under E.table t) (measured_form f (under E.table t) h) refl) ∙ h

  pub makes_more : (t : Term) (n : ℕ) → Makes (under E.table t) n → Makes (under F.table t) n
  makes_more t n h = subst (λ l. Makes l n) (sym (form_more E F m t (under E.table t) (makes_form h) refl)) h

  pub array_more : {t u : Term} {pointer : Bool} {n : ℕ} → IsArray E t pointer n u → IsArray G t pointer n u
  array_more {t = t} (array_itself {n = n} {e = u} e) = array_itself (form_more E F m t (Term-F.Array n u) refl e)
  array_more {t = t} (array_pointer {n = n} {base = base} {e = u} e f) = array_pointer (form_more E F m t (Term-F.Pointer base) refl e) (form_more E F m base (Term-F.Array n u) refl f)

  -- ---- indices, counts and strings

  pub index_more : {o : Operand} {c : Option ℕ} → IsIndex E o c → IsIndex G o c
  index_more (index_value {t = t} {b = b} f h e i) = index_value f h (form_more E F m t (Term-F.Plain b) refl e) i
  index_more (index_typed {t = t} {b = b} e i r) = index_typed (form_more E F m t (Term-F.Plain b) refl e) i r
  index_more (index_untyped r) = index_untyped r

  count_more : {o : Operand} {w : Option Value} → IsCount E o w → IsCount G o w
  count_more (count_value {t = t} {b = b} f h e i) = count_value f h (form_more E F m t (Term-F.Plain b) refl e) i
  count_more (count_typed {t = t} {b = b} e i) = count_typed (form_more E F m t (Term-F.Plain b) refl e) i
  count_more (count_untyped r) = count_untyped r

  pub string_more : {o : Operand} {n : Option ℕ} → IsString E o n → IsString G o n
  string_more (string_value {t = t} f h e) = string_value f h (form_more E F m t (Term-F.Plain basic.Str) refl e)
  string_more (string_typed {t = t} e) = string_typed (form_more E F m t (Term-F.Plain basic.Str) refl e)
  string_more string_untyped = string_untyped

  pub slices_more : {simple : Bool} {o r : Operand} {n : Option ℕ} → Slices E simple o n r → Slices G simple o n r
  slices_more (slices_string s h i) = slices_string s h (string_more i)
  slices_more (slices_untyped s) = slices_untyped s
  slices_more (slices_array {t = t} {e = u} {n = n} e) = slices_array (form_more E F m t (Term-F.Array n u) refl e)
  slices_more (slices_array_pointer {t = t} {base = base} {e = u} {n = n} h e f) = slices_array_pointer h (form_more E F m t (Term-F.Pointer base) refl e) (form_more E F m base (Term-F.Array n u) refl f)
  slices_more (slices_slice {t = t} {e = u} h e) = slices_slice h (form_more E F m t (Term-F.Slice u) refl e)

  -- ---- operators

  pub computes_more : {op : BinaryOp} {o p r : Operand} → Computes E op o p r → Computes G op o p r
  computes_more (computes_constant a h e) = computes_constant (match_more E F m a) (kind_more E F m h) e
  computes_more (computes_value f a h i z) = computes_value f (match_more E F m a) (kind_more E F m h) i z

  shifts_more : {left : Bool} {o p r : Operand} → Shifts E left o p r → Shifts G left o p r
  shifts_more (shifts_constant h n e) = shifts_constant (kind_more E F m h) (count_more n) e
  shifts_more (shifts_value {t = t} {b = b} f h e i n) = shifts_value f h (form_more E F m t (Term-F.Plain b) refl e) i (count_more n)

  pub product_more : (k : ProductKind) (o p r : Operand) → ProductComputes E k o p r → ProductComputes G k o p r
  product_more (shift left) o p r a = shifts_more a
  product_more (arithmetic op) o p r a = computes_more a

  equates_more : {o p : Operand} → Equates E o p → Equates G o p
  equates_more (equates_right h i u c d) = equates_right h i (usable_more E F m u) (compares_more E F m c) (compares_more E F m d)
  equates_more (equates_left h i u c d) = equates_left h i (usable_more E F m u) (compares_more E F m c) (compares_more E F m d)
  equates_more (equates_untyped_left h i u c) = equates_untyped_left h i (usable_more E F m u) (compares_more E F m c)
  equates_more (equates_untyped_right h i u c) = equates_untyped_right h i (usable_more E F m u) (compares_more E F m c)
  equates_more (equates_kinds a) = equates_kinds (match_more E F m a)
  equates_more (equates_nil_left h u) = equates_nil_left h (usable_more E F m u)
  equates_more (equates_nil_right h u) = equates_nil_right h (usable_more E F m u)

  pub comparison_more : {op : CompareOp} {o p r : Operand} → IsComparison E op o p r → IsComparison G op o p r
  comparison_more (comparison_constant a h i e) = comparison_constant (match_more E F m a) (kind_more E F m h) i e
  comparison_more (comparison_equality f q e) = comparison_equality f q (equates_more e)
  comparison_more (comparison_order f q a h i) = comparison_order f q (match_more E F m a) (kind_more E F m h) i

  pub converts_more : {o r : Operand} {t : Term} → Converts E o t r → Converts G o t r
  converts_more (converts_constant {t = t} {b = b} e i h w) = converts_constant (form_more E F m t (Term-F.Plain b) refl e) i (kind_more E F m h) w
  converts_more (converts_inexact {t = t} {b = b} e i) = converts_inexact (form_more E F m t (Term-F.Plain b) refl e) i
  converts_more (converts_value f h a) = converts_value f h (convertible_more E F m a)
  converts_more (converts_typed {t = t} i a) = converts_typed (composed_more t i) (convertible_more E F m a)
  converts_more (converts_untyped {t = t} i d a) = converts_untyped (composed_more t i) d (convertible_more E F m a)
  converts_more (converts_truth a) = converts_truth (convertible_more E F m a)
  converts_more (converts_nil u) = converts_nil (usable_more E F m u)

  -- ---- what is asked of operands

  pub holds_more : (t u : Term) → MayHold E t u → MayHold G t u
  holds_more t u (inl (ms, e)) = inl (ms, form_more E F m u (Term-F.Interface ms) refl e)
  holds_more t u (inr i) = inr (implements_more E F m u t i)

  pub fit_more : {variadic dots : Bool} {ts : List Term} {os : List Operand} → ArgumentsFit E variadic dots ts os → ArgumentsFit G variadic dots ts os
  fit_more fits_none = fits_none
  fit_more (fits_more u a) = fits_more (usable_more E F m u) (fit_more a)
  fit_more (fits_slice u) = fits_slice (usable_more E F m u)
  fit_more (fits_rest {e = e} {os = os} i a) = fits_rest i (each_of os (λ o u. usable_more E F m u) a)

  pub printed_more : {o : Operand} → IsPrinted E o → IsPrinted G o
  printed_more (printed_typed h) = printed_typed h
  printed_more (printed_constant d) = printed_constant d
  printed_more printed_truth = printed_truth
