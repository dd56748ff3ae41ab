-- An operator, a conversion, an index and a slice expression make one operand of operands.
use Rattle.std.proofs.Common.{◌≡◌, ℕ, Bool, true, false, List, [], Option, Some, None, refl, sym, ap, ◌∙◌, inl, inr, length}
use Rattle.std.specs.Prelude.{pos, ◌&&◌}
use Rattle.go_syntax.specs.go_base.declared.operator.CompareOp.{CompareOp}
use Rattle.go_model.specs.constants.Classes.{class_of_basic, is_inexact}
use Rattle.go_model.specs.constants.Constants.{binary_value, comparison, converted, shift_value}
use Rattle.go_model.specs.declared.constants.value.Basic.{Basic}
use Rattle.go_model.specs.declared.constants.value.Basic.TheVariants as basic
use Rattle.go_model.specs.declared.constants.value.BinaryOp.{BinaryOp}
use Rattle.go_model.specs.declared.constants.value.Untyped.TheVariants as untyped
use Rattle.go_model.specs.declared.constants.value.Value.{Value}
use Rattle.go_model.specs.declared.constants.value.Value.TheVariants as value
use Rattle.go_model.specs.declared.types.package.ConstTerm.{ConstTerm}
use Rattle.go_model.specs.declared.types.package.ConstTerm.TheVariants as constant
use Rattle.go_model.specs.declared.types.term.Term.{Term, Term-F}
use Rattle.go_model.specs.types.Terms.{Layer, slice_of}
use Rattle.go_model.specs.types.Underlying.{under}
use Rattle.go_rules.specs.Environments.{Env}
use Rattle.go_rules.specs.Expressions.{Computes, computes_constant, computes_value, IsCount, count_value, count_typed, count_untyped, Shifts, shifts_constant, shifts_value, IsIndex, index_value, index_typed, index_untyped, IsArray, array_itself, array_pointer, IsString, string_value, string_typed, string_untyped, IsComparison, comparison_constant, comparison_equality, comparison_order, Slices, slices_string, slices_untyped, slices_array, slices_array_pointer, slices_slice, Converts, converts_constant, converts_inexact, converts_value, converts_typed, converts_untyped, converts_truth, converts_nil, ProductKind, shift, arithmetic, ProductComputes, is_composed, is_constant}
use Rattle.go_rules.specs.Operands.{IsTyped, basic_term, computed, constant_of, loose, nil, plain, any_term, variable}
use Rattle.go_rules.specs.declared.operand.Operand.{Operand}
use Rattle.go_rules.proofs.OneKind.{term_in, has_type_in, no_truth, const_in, value_in, typed, one_type, kind_in, kinded, match_of, matched}

-- the constant, where there is one
abbrev pub constant_result : ConstTerm → Option Value → Operand
constant_result c None = nil
constant_result c (Some v) = constant_of c v

-- ---- operators

abbrev computes_of : Env → BinaryOp → Operand → Operand → Bool → ConstTerm → Operand
computes_of E op left right true d = constant_result d (binary_value op (value_in left.shape) (value_in right.shape) (kind_in E d) E.bits)
computes_of E op left right false d = computed d

abbrev both_constant : Operand → Operand → Bool
both_constant left right = is_constant left.mode && is_constant right.mode

computes_is : {E : Env} {op : BinaryOp} {left right r : Operand} → Computes E op left right r → computes_of E op left right (both_constant left right) (match_of (const_in left.shape) (const_in right.shape)) ≡ r
computes_is {E = E} {op = op} (computes_constant {b = b} {c = c} {d = d} {v = v} {w = w} m h e) =
    ap (λ x. constant_result x (binary_value op v w (kind_in E x) E.bits)) (matched m) ∙ ap (λ k. constant_result d (binary_value op v w k E.bits)) (kinded h) ∙ ap (constant_result d) e
computes_is {E = E} {op = op} (computes_value {left = left} {right = right} f m h a z) = (λ i. computes_of E op left right (f i) (matched m i))

pub one_computes : {E : Env} {op : BinaryOp} {left right r s : Operand} → Computes E op left right r → Computes E op left right s → r ≡ s
one_computes a b = sym (computes_is a) ∙ computes_is b

abbrev count_of : Operand → Bool → Option Value
count_of o true = Some (value_in o.shape)
count_of o false = None

counted : {E : Env} {o : Operand} {w : Option Value} → IsCount E o w → count_of o (is_constant o.mode) ≡ w
counted (count_value {o = o} f h e i) = ap (count_of o) f
counted (count_typed e i) = refl
counted (count_untyped e) = refl

pub one_count : {E : Env} {o : Operand} {v w : Option Value} → IsCount E o v → IsCount E o w → v ≡ w
one_count a b = sym (counted a) ∙ counted b

abbrev shifts_by : Env → Bool → Operand → Bool → Option Value → Operand
shifts_by E left l true (Some w) = constant_result (const_in l.shape) (shift_value left (value_in l.shape) w (kind_in E (const_in l.shape)) E.bits)
shifts_by E left l true None = plain (term_in (const_in l.shape))
shifts_by E left l false w = plain (term_in (const_in l.shape))

shifts_plain : (E : Env) (left : Bool) (l : Operand) (b : Bool) → shifts_by E left l b None ≡ plain (term_in (const_in l.shape))
shifts_plain E left l true = refl
shifts_plain E left l false = refl

shifts_is : {E : Env} {left : Bool} {l o r : Operand} → Shifts E left l o r → shifts_by E left l (is_constant l.mode) (count_of o (is_constant o.mode)) ≡ r
shifts_is {E = E} {left = left} (shifts_constant {c = c} {x = x} {w = w} h n e) =
    ap (shifts_by E left (constant_of c (value.Int x)) true) (counted n) ∙ ap (λ k. constant_result c (shift_value left (value.Int x) w k E.bits)) (kinded h) ∙ ap (constant_result c) e
shifts_is {E = E} {left = left} (shifts_value {l = l} {o = o} (inl f) h e i n) = ap (λ b. shifts_by E left l b (count_of o (is_constant o.mode))) f ∙ ap (λ c. plain (term_in c)) (typed h)
shifts_is {E = E} {left = left} (shifts_value {l = l} {o = o} (inr f) h e i n) =
    ap (shifts_by E left l (is_constant l.mode)) (counted n ∙ f) ∙ shifts_plain E left l (is_constant l.mode) ∙ ap (λ c. plain (term_in c)) (typed h)

pub one_shifts : {E : Env} {left : Bool} {l o r s : Operand} → Shifts E left l o r → Shifts E left l o s → r ≡ s
one_shifts a b = sym (shifts_is a) ∙ shifts_is b

pub one_product : (E : Env) (p : ProductKind) (l o : Operand) {r s : Operand} → ProductComputes E p l o r → ProductComputes E p l o s → r ≡ s
one_product E (shift left) l o a b = one_shifts a b
one_product E (arithmetic op) l o a b = one_computes a b

abbrev truth_result : Option Bool → Operand
truth_result None = nil
truth_result (Some truth) = constant_of (constant.OfKind untyped.BoolKind) (value.Truth truth)

abbrev compares_to : CompareOp → Operand → Operand → Bool → Operand
compares_to op left right true = truth_result (comparison op (value_in left.shape) (value_in right.shape))
compares_to op left right false = loose untyped.BoolKind

compares_is : {E : Env} {op : CompareOp} {left right r : Operand} → IsComparison E op left right r → compares_to op left right (both_constant left right) ≡ r
compares_is (comparison_constant m h a e) = ap truth_result e
compares_is {op = op} (comparison_equality {left = left} {right = right} f q c) = ap (compares_to op left right) f
compares_is {op = op} (comparison_order {left = left} {right = right} f q m h a) = ap (compares_to op left right) f

pub one_comparison : {E : Env} {op : CompareOp} {left right r s : Operand} → IsComparison E op left right r → IsComparison E op left right s → r ≡ s
one_comparison a b = sym (compares_is a) ∙ compares_is b

-- ---- indices and lengths

abbrev pub number_in : Value → ℕ
number_in (value.Int (pos n)) = n
number_in v = 0

abbrev index_of : Operand → Bool → Option ℕ
index_of o true = Some (number_in (value_in o.shape))
index_of o false = None

indexed : {E : Env} {o : Operand} {c : Option ℕ} → IsIndex E o c → index_of o (is_constant o.mode) ≡ c
indexed (index_value {o = o} f h e i) = ap (index_of o) f
indexed (index_typed e i r) = refl
indexed (index_untyped r) = refl

pub one_index : {E : Env} {o : Operand} {c d : Option ℕ} → IsIndex E o c → IsIndex E o d → c ≡ d
one_index a b = sym (indexed a) ∙ indexed b

abbrev pub text_in : Value → List ℕ
text_in (value.Str s) = s
text_in v = []

abbrev length_of : Operand → Bool → Option ℕ
length_of o true = Some (length (text_in (value_in o.shape)))
length_of o false = None

measured : {E : Env} {o : Operand} {n : Option ℕ} → IsString E o n → length_of o (is_constant o.mode) ≡ n
measured (string_value {o = o} f h e) = ap (length_of o) f
measured (string_typed e) = refl
measured string_untyped = refl

pub one_string : {E : Env} {o : Operand} {m n : Option ℕ} → IsString E o m → IsString E o n → m ≡ n
one_string a b = sym (measured a) ∙ measured b

-- the level of an array type, or of the base of a pointer to one
abbrev pub array_layer : Env → Layer → Layer
array_layer E (Term-F.Pointer base) = under E.table base
array_layer E l = l

abbrev pub length_in : Layer → ℕ
length_in (Term-F.Array n e) = n
length_in l = 0

abbrev element_in : Layer → Term
element_in (Term-F.Array n e) = e
element_in l = any_term

pub arrayed : {E : Env} {t u : Term} {pointer : Bool} {n : ℕ} → IsArray E t pointer n u → array_layer E (under E.table t) ≡ Term-F.Array n u
arrayed {E = E} (array_itself e) = ap (array_layer E) e
arrayed {E = E} (array_pointer e f) = ap (array_layer E) e ∙ f

pub one_length : {E : Env} {t u v : Term} {p q : Bool} {m n : ℕ} → IsArray E t p m u → IsArray E t q n v → m ≡ n
one_length a b = ap length_in (sym (arrayed a) ∙ arrayed b)

pub one_element : {E : Env} {t u v : Term} {p q : Bool} {m n : ℕ} → IsArray E t p m u → IsArray E t q n v → u ≡ v
one_element a b = ap element_in (sym (arrayed a) ∙ arrayed b)

-- ---- slice expressions

-- a string of a type has `string` underneath
pub string_under : {E : Env} {o : Operand} {t : Term} {n : Option ℕ} → IsString E o n → IsTyped o t → under E.table t ≡ Term-F.Plain basic.Str
string_under {E = E} (string_value f i e) h = ap (under E.table) (one_type h i) ∙ e
string_under {E = E} (string_typed e) h = ap (λ c. under E.table (term_in c)) (sym (typed h)) ∙ e
string_under string_untyped h = absurd (no_truth (ap has_type_in (sym (typed h))))

abbrev limit_of_layer : Env → Operand → Layer → Option ℕ
limit_of_layer E o (Term-F.Plain b) = length_of o (is_constant o.mode)
limit_of_layer E o (Term-F.Array n e) = Some n
limit_of_layer E o (Term-F.Pointer base) = Some (length_in (under E.table base))
limit_of_layer E o l = None

-- the constant length of what is sliced
abbrev limit_of : Env → Operand → ConstTerm → Option ℕ
limit_of E o (constant.OfTerm t) = limit_of_layer E o (under E.table t)
limit_of E o (constant.OfKind k) = length_of o (is_constant o.mode)

abbrev sliced_layer : Env → Term → Layer → Operand
sliced_layer E t (Term-F.Array n e) = plain (slice_of e)
sliced_layer E t (Term-F.Pointer base) = plain (slice_of (element_in (under E.table base)))
sliced_layer E t l = plain t

-- what a slice expression is
abbrev pub sliced_of : Env → ConstTerm → Operand
sliced_of E (constant.OfTerm t) = sliced_layer E t (under E.table t)
sliced_of E (constant.OfKind k) = plain (basic_term basic.Str)

limit_is : {E : Env} {simple : Bool} {o r : Operand} {n : Option ℕ} → Slices E simple o n r → limit_of E o (const_in o.shape) ≡ n
limit_is {E = E} (slices_string {o = o} s h i) = ap (limit_of E o) (typed h) ∙ ap (limit_of_layer E o) (string_under i h) ∙ measured i
limit_is (slices_untyped s) = refl
limit_is {E = E} (slices_array {t = t} e) = ap (limit_of_layer E (variable t)) e
limit_is {E = E} (slices_array_pointer {o = o} h e f) = ap (limit_of E o) (typed h) ∙ ap (limit_of_layer E o) e ∙ ap (λ l. Some (length_in l)) f
limit_is {E = E} (slices_slice {o = o} h e) = ap (limit_of E o) (typed h) ∙ ap (limit_of_layer E o) e

pub sliced_is : {E : Env} {simple : Bool} {o r : Operand} {n : Option ℕ} → Slices E simple o n r → sliced_of E (const_in o.shape) ≡ r
sliced_is {E = E} (slices_string {t = t} s h i) = ap (sliced_of E) (typed h) ∙ ap (sliced_layer E t) (string_under i h)
sliced_is (slices_untyped s) = refl
sliced_is {E = E} (slices_array {t = t} e) = ap (sliced_layer E t) e
sliced_is {E = E} (slices_array_pointer {t = t} h e f) = ap (sliced_of E) (typed h) ∙ ap (sliced_layer E t) e ∙ ap (λ l. plain (slice_of (element_in l))) f
sliced_is {E = E} (slices_slice {t = t} h e) = ap (sliced_of E) (typed h) ∙ ap (sliced_layer E t) e

pub one_limit : {E : Env} {simple other : Bool} {o r s : Operand} {m n : Option ℕ} → Slices E simple o m r → Slices E other o n s → m ≡ n
one_limit a b = sym (limit_is a) ∙ limit_is b

pub one_sliced : {E : Env} {simple other : Bool} {o r s : Operand} {m n : Option ℕ} → Slices E simple o m r → Slices E other o n s → r ≡ s
one_sliced a b = sym (sliced_is a) ∙ sliced_is b

-- ---- conversions

abbrev exact_result : Env → Operand → Term → Basic → Bool → Operand
exact_result E o t b true = plain t
exact_result E o t b false = constant_result (constant.OfTerm t) (converted (value_in o.shape) (kind_in E (const_in o.shape)) b E.bits)

abbrev converts_layer : Env → Operand → Term → Layer → Operand
converts_layer E o t (Term-F.Plain b) = exact_result E o t b (is_inexact (class_of_basic b))
converts_layer E o t l = plain t

abbrev converts_to : Env → Operand → Term → Bool → Operand
converts_to E o t true = converts_layer E o t (under E.table t)
converts_to E o t false = plain t

composed_plain : (E : Env) (o : Operand) (t : Term) (l : Layer) → is_composed l ≡ true → converts_layer E o t l ≡ plain t
composed_plain E o t (Term-F.Plain b) e = absurd (no_truth (sym e))
composed_plain E o t (Term-F.Named n) e = refl
composed_plain E o t (Term-F.Pointer u) e = refl
composed_plain E o t (Term-F.Slice u) e = refl
composed_plain E o t (Term-F.Array n u) e = refl
composed_plain E o t (Term-F.Map k u) e = refl
composed_plain E o t (Term-F.Chan d u) e = refl
composed_plain E o t (Term-F.Func g) e = refl
composed_plain E o t (Term-F.Struct fs) e = refl
composed_plain E o t (Term-F.Interface ms) e = refl

converts_is : {E : Env} {o r : Operand} {t : Term} → Converts E o t r → converts_to E o t (is_constant o.mode) ≡ r
converts_is {E = E} (converts_constant {c = c} {v = v} {t = t} {b = b} e i h w) =
    ap (converts_layer E (constant_of c v) t) e ∙ ap (exact_result E (constant_of c v) t b) i ∙ ap (λ k. constant_result (constant.OfTerm t) (converted v k b E.bits)) (kinded h) ∙ ap (constant_result (constant.OfTerm t)) w
converts_is {E = E} (converts_inexact {c = c} {x = x} {t = t} {b = b} e i) = ap (converts_layer E (constant_of c (value.Int x)) t) e ∙ ap (exact_result E (constant_of c (value.Int x)) t b) i
converts_is {E = E} (converts_value {o = o} {t = t} f h a) = ap (converts_to E o t) f
converts_is {E = E} (converts_typed {v = v} {t = t} {u = u} i a) = composed_plain E (constant_of (constant.OfTerm u) v) t (under E.table t) i
converts_is {E = E} (converts_untyped {k = k} {v = v} {t = t} i d a) = composed_plain E (constant_of (constant.OfKind k) v) t (under E.table t) i
converts_is (converts_truth a) = refl
converts_is (converts_nil a) = refl

pub one_conversion : {E : Env} {o r s : Operand} {t : Term} → Converts E o t r → Converts E o t s → r ≡ s
one_conversion a b = sym (converts_is a) ∙ converts_is b
