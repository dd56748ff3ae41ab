-- What follows an operand makes one operand of it: a selector, an index, indices of a slice, and a call.
use Rattle.std.proofs.Common.{◌≡◌, ℕ, Bool, true, false, List, [], ◌∷◌, Option, refl, sym, ap, ◌∙◌, subst}
use Rattle.std.specs.Prelude.{if◌then◌else◌}
use Rattle.go_model.specs.declared.constants.value.Basic.TheVariants as basic
use Rattle.go_model.specs.declared.types.package.ConstTerm.{ConstTerm}
use Rattle.go_model.specs.declared.types.package.ConstTerm.TheVariants as constant
use Rattle.go_model.specs.declared.types.term.Signature.{Signature, out-Signature}
use Rattle.go_model.specs.declared.types.term.Term.{Term, Term-F}
use Rattle.go_model.specs.types.Selectors.{field as found_field}
use Rattle.go_model.specs.types.Terms.{Layer}
use Rattle.go_model.specs.types.Underlying.{under}
use Rattle.go_rules.specs.Environments.{Env, Found, HasMethod, selector_of}
use Rattle.go_rules.specs.Expressions.{Has, HasBuiltin, HasPost, post_field, post_method, post_method_expression, post_assertion, post_array, post_array_pointer, post_slice_index, post_string, post_map, post_slice, post_full_slice, post_conversion, post_call, post_builtin, IsCall, call, call_receive_type, is_type, IsString, string_value, string_typed, string_untyped, Converts, OfType, reached, results_of, with_receiver}
use Rattle.go_rules.specs.Nodes.{PostLayer}
use Rattle.go_rules.specs.Operands.{IsTyped, typed_value, typed_constant, basic_term, builtin, function_of, is_variable, is_value_mode, plain, type_name, value_of, variable, any_term}
use Rattle.go_rules.specs.declared.operand.Mode.{Mode}
use Rattle.go_rules.specs.declared.operand.Mode.TheVariants as mode
use Rattle.go_rules.specs.declared.operand.Operand.{Operand}
use Rattle.go_rules.specs.declared.operand.Shape.{Shape}
use Rattle.go_rules.specs.declared.operand.Shape.TheVariants as shape
use Rattle.go_rules.specs.declared.predeclared.Predeclared.{Predeclared}
use Rattle.go_rules.proofs.OneForm.{Alone, typed_no_type}
use Rattle.go_rules.proofs.OneFound.{one_found, one_way, one_field, field_or_method, one_method}
use Rattle.go_rules.proofs.OneKind.{no_truth, const_in, one_type, term_in, typed}
use Rattle.go_rules.proofs.OneName.{one_name}
use Rattle.go_rules.proofs.OneResult.{sliced_is, sliced_of, one_conversion}
use Rattle.go_syntax.specs.declared.expression.Expr.{Expr}
use Rattle.go_syntax.specs.declared.expression.Post.{Post-F}
use Rattle.go_syntax.specs.declared.name.Name.{Name}
use Rattle.go_syntax.specs.declared.types.«Type».{«Type» as Typ}

-- ---- selectors

-- what a selector makes of an operand
data Selected (E : Env) (o : Operand) (n : Name) (r : Operand) : Type 0 where
  selected_field : {t u : Term} (through : Bool) → IsTyped o t → Found E (selector_of E n.text) t (record { through = through; target = found_field u }) → value_of (reached (if through then true else is_variable o.mode)) u ≡ r → Selected E o n r
  selected_method : {t : Term} {g : Signature} (a : Bool) → IsTyped o t → HasMethod E a t (selector_of E n.text) g → plain (function_of g) ≡ r → Selected E o n r
  selected_expression : {t : Term} {g : Signature} → type_name t ≡ o → HasMethod E false t (selector_of E n.text) g → plain (function_of (with_receiver t g)) ≡ r → Selected E o n r

selected : {E : Env} {o r : Operand} {n : Name} → HasPost E o (Post-F.Selector n) r → Selected E o n r
selected (post_field {through = through} b h f) = selected_field through h f refl
selected (post_method {o = o} b h m) = selected_method (is_variable o.mode) h m refl
selected (post_method_expression b m) = selected_expression refl m refl
selected (post_conversion c h v) = elim c [ ]
selected (post_call c h e a f) = elim c [ ]
selected (post_builtin c b) = elim c [ ]

-- a value is no type
typed_or_name : {o : Operand} {t u : Term} → IsTyped o t → type_name u ≡ o → ⊥
typed_or_name h e = no_truth (ap (λ (o : Operand). is_type o.mode) e ∙ typed_no_type h)

same_selected : {E : Env} {o r s : Operand} {n : Name} → Selected E o n r → Selected E o n s → r ≡ s
same_selected {E = E} {o = o} {n = n} (selected_field {u = u} p h f e) (selected_field {u = v} q i g d) =
    let x = one_found f (subst (λ t. Found E (selector_of E n.text) t (record { through = q; target = found_field v })) (one_type i h) g) in
    sym e ∙ (λ j. value_of (reached (if one_way x j then true else is_variable o.mode)) (one_field x j)) ∙ d
same_selected {E = E} {n = n} (selected_field p h f e) (selected_method {g = g} a i m d) =
    let k = subst (λ t. HasMethod E a t (selector_of E n.text) g) (one_type i h) m in absurd (field_or_method (one_found f k.found))
same_selected (selected_field p h f e) (selected_expression z m d) = absurd (typed_or_name h z)
same_selected {E = E} {n = n} (selected_method {g = g} a h m e) (selected_field q i f d) =
    let k = subst (λ t. HasMethod E a t (selector_of E n.text) g) (one_type h i) m in absurd (field_or_method (one_found f k.found))
same_selected {E = E} {n = n} (selected_method {g = g} a h m e) (selected_method {g = k} b i l d) =
    sym e ∙ ap (λ x. plain (function_of x)) (one_method m (subst (λ t. HasMethod E b t (selector_of E n.text) k) (one_type i h) l)) ∙ d
same_selected (selected_method a h m e) (selected_expression z l d) = absurd (typed_or_name h z)
same_selected (selected_expression z m e) (selected_field q i f d) = absurd (typed_or_name i z)
same_selected (selected_expression z m e) (selected_method b i l d) = absurd (typed_or_name i z)
same_selected {E = E} {n = n} (selected_expression {t = t} {g = g} z m e) (selected_expression {t = u} {g = k} y l d) =
    let p = ap (λ (o : Operand). term_in (const_in o.shape)) (z ∙ sym y) in
    let q = one_method m (subst (λ x. HasMethod E false x (selector_of E n.text) k) (sym p) l) in
    sym e ∙ (λ j. plain (function_of (with_receiver (p j) (q j)))) ∙ d

pub one_selected : {E : Env} {o p r s : Operand} {n : Name} → o ≡ p → HasPost E o (Post-F.Selector n) r → HasPost E p (Post-F.Selector n) s → r ≡ s
one_selected {E = E} {r = r} {n = n} e a b = same_selected (subst (λ z. Selected E z n r) e (selected a)) (selected b)

-- ---- indices

abbrev pointed : Layer → Operand
pointed (Term-F.Array n e) = variable e
pointed l = plain any_term

abbrev indexed_layer : Env → Mode → Layer → Operand
indexed_layer E m (Term-F.Array n e) = value_of (reached (is_variable m)) e
indexed_layer E m (Term-F.Pointer base) = pointed (under E.table base)
indexed_layer E m (Term-F.Slice e) = variable e
indexed_layer E m (Term-F.Map k e) = value_of mode.MapElement e
indexed_layer E m l = plain (basic_term basic.Uint8)

abbrev indexed_of : Env → Mode → ConstTerm → Operand
indexed_of E m (constant.OfTerm t) = indexed_layer E m (under E.table t)
indexed_of E m (constant.OfKind k) = plain (basic_term basic.Uint8)

string_byte : {E : Env} {o : Operand} {n : Option ℕ} → IsString E o n → indexed_of E o.mode (const_in o.shape) ≡ plain (basic_term basic.Uint8)
string_byte {E = E} (string_value {o = o} f h e) = ap (indexed_of E o.mode) (typed h) ∙ ap (indexed_layer E o.mode) e
string_byte {E = E} (string_typed e) = ap (indexed_layer E mode.Constant) e
string_byte string_untyped = refl

indexed_is : {E : Env} {o r : Operand} {x : Expr} → HasPost E o (Post-F.Index x) r → indexed_of E o.mode (const_in o.shape) ≡ r
indexed_is {E = E} (post_array {o = o} h e a i b) = ap (indexed_of E o.mode) (typed h) ∙ ap (indexed_layer E o.mode) e
indexed_is {E = E} (post_array_pointer {o = o} h e f a i b) = ap (indexed_of E o.mode) (typed h) ∙ ap (indexed_layer E o.mode) e ∙ ap pointed f
indexed_is {E = E} (post_slice_index {o = o} h e a i) = ap (indexed_of E o.mode) (typed h) ∙ ap (indexed_layer E o.mode) e
indexed_is (post_string s a i b) = string_byte s
indexed_is {E = E} (post_map {o = o} h e a u) = ap (indexed_of E o.mode) (typed h) ∙ ap (indexed_layer E o.mode) e
indexed_is (post_conversion c h v) = elim c [ ]
indexed_is (post_call c h e a f) = elim c [ ]
indexed_is (post_builtin c b) = elim c [ ]

pub one_indexed : {E : Env} {o p r s : Operand} {x : Expr} → o ≡ p → HasPost E o (Post-F.Index x) r → HasPost E p (Post-F.Index x) s → r ≡ s
one_indexed {E = E} e a b = sym (indexed_is a) ∙ ap (λ (o : Operand). indexed_of E o.mode (const_in o.shape)) e ∙ indexed_is b

slice_is : {E : Env} {o r : Operand} {low high : Option Expr} → HasPost E o (Post-F.«Post::Slice» low high) r → sliced_of E (const_in o.shape) ≡ r
slice_is (post_slice s a b i) = sliced_is s
slice_is (post_conversion c h v) = elim c [ ]
slice_is (post_call c h e a f) = elim c [ ]
slice_is (post_builtin c b) = elim c [ ]

pub one_slice : {E : Env} {o p r s : Operand} {low high : Option Expr} → o ≡ p → HasPost E o (Post-F.«Post::Slice» low high) r → HasPost E p (Post-F.«Post::Slice» low high) s → r ≡ s
one_slice {E = E} e a b = sym (slice_is a) ∙ ap (λ (o : Operand). sliced_of E (const_in o.shape)) e ∙ slice_is b

full_slice_is : {E : Env} {o r : Operand} {low : Option Expr} {high bound : Expr} → HasPost E o (Post-F.FullSlice low high bound) r → sliced_of E (const_in o.shape) ≡ r
full_slice_is (post_full_slice s a b c i) = sliced_is s
full_slice_is (post_conversion c h v) = elim c [ ]
full_slice_is (post_call c h e a f) = elim c [ ]
full_slice_is (post_builtin c b) = elim c [ ]

pub one_full_slice : {E : Env} {o p r s : Operand} {low : Option Expr} {high bound : Expr} → o ≡ p → HasPost E o (Post-F.FullSlice low high bound) r → HasPost E p (Post-F.FullSlice low high bound) s → r ≡ s
one_full_slice {E = E} e a b = sym (full_slice_is a) ∙ ap (λ (o : Operand). sliced_of E (const_in o.shape)) e ∙ full_slice_is b

-- ---- type assertions

record Asserted (E : Env) (x : Typ) (r : Operand) : Type 0 where
  term : Term
  of : OfType E x term
  is : plain term ≡ r

asserted : {E : Env} {o r : Operand} {x : Typ} → HasPost E o (Post-F.TypeAssertion x) r → Asserted E x r
asserted (post_assertion {u = u} h e t m) = record { term = u; of = t; is = refl }
asserted (post_conversion c h v) = elim c [ ]
asserted (post_call c h e a f) = elim c [ ]
asserted (post_builtin c b) = elim c [ ]

pub one_assertion : {E : Env} {o s : Operand} {x : Typ} {u : Term} → ((v : Term) → OfType E x v → u ≡ v) → HasPost E o (Post-F.TypeAssertion x) s → plain u ≡ s
one_assertion one b = let a = asserted b in ap plain (one a.term a.of) ∙ a.is

-- ---- calls

pub data Called (E : Env) (o : Operand) (es : List Expr) (dots : Bool) (r : Operand) : Type 0 where
  called_type : {e : Expr} {t : Term} {q : Operand} → type_name t ≡ o → es ≡ e ∷ [] → Has E e q → Converts E q t r → Called E o es dots r
  called_function : {t : Term} {g : Signature} → IsTyped o t → under E.table t ≡ Term-F.Func g → results_of (out-Signature g).results ≡ r → Called E o es dots r
  called_builtin : {f : Predeclared} → builtin f ≡ o → HasBuiltin E f es dots r → Called E o es dots r

pub called : {E : Env} {o r : Operand} {x : PostLayer} {es : List Expr} {dots : Bool} → IsCall x es dots → HasPost E o x r → Called E o es dots r
called call (post_conversion call h v) = called_type refl refl h v
called call (post_call c h e a f) = called_function h e refl
called call (post_builtin call b) = called_builtin refl b
called call_receive_type (post_conversion call_receive_type h v) = called_type refl refl h v
called call_receive_type (post_call c h e a f) = called_function h e refl
called call_receive_type (post_builtin call_receive_type b) = called_builtin refl b

abbrev is_builtin : Mode → Bool
is_builtin mode.Builtin = true
is_builtin m = false

value_no_builtin : (m : Mode) → is_value_mode m ≡ true → is_builtin m ≡ false
value_no_builtin mode.Builtin h = absurd (no_truth (sym h))
value_no_builtin m h = refl

typed_no_builtin : {o : Operand} {t : Term} → IsTyped o t → is_builtin o.mode ≡ false
typed_no_builtin (typed_value {m = m} h) = value_no_builtin m h
typed_no_builtin typed_constant = refl

typed_or_builtin : {o : Operand} {t : Term} {f : Predeclared} → IsTyped o t → builtin f ≡ o → ⊥
typed_or_builtin h e = no_truth (ap (λ (o : Operand). is_builtin o.mode) e ∙ typed_no_builtin h)

name_or_builtin : {o : Operand} {t : Term} {f : Predeclared} → type_name t ≡ o → builtin f ≡ o → ⊥
name_or_builtin d e = no_truth (ap (λ (o : Operand). is_type o.mode) (d ∙ sym e))

abbrev first_of : List Expr → Expr → Expr
first_of [] d = d
first_of (e ∷ es) d = e

pub one_called_type : {E : Env} {o q r s : Operand} {e : Expr} {t : Term} → Alone E e q → Converts E q t r → type_name t ≡ o → Called E o (e ∷ []) false s → r ≡ s
one_called_type {E = E} {q = q} {s = s} {e = e} {t = t} one v y (called_type {e = d} {t = u} {q = p} z x h w) =
    let a = one p (subst (λ k. Has E k p) (sym (ap (λ l. first_of l e) x)) h) in
    one_conversion v (subst (λ k. Converts E k t s) (sym a) (subst (λ k. Converts E p k s) (sym (one_name (y ∙ sym z))) w))
one_called_type one v y (called_function h e z) = absurd (typed_or_name h y)
one_called_type one v y (called_builtin z b) = absurd (name_or_builtin y z)

abbrev function_in : Layer → Signature → Signature
function_in (Term-F.Func g) d = g
function_in l d = d

pub one_called_function : {E : Env} {o p s : Operand} {t : Term} {g : Signature} {es : List Expr} {dots : Bool} → IsTyped o t → under E.table t ≡ Term-F.Func g → o ≡ p → Called E p es dots s → results_of (out-Signature g).results ≡ s
one_called_function h e y (called_type z x a v) = absurd (typed_or_name h (z ∙ sym y))
one_called_function {E = E} {t = t} {g = g} h e y (called_function {t = u} {g = k} i d z) =
    let same : t ≡ u = one_type h (subst (λ o. IsTyped o u) (sym y) i) in
    let x : Term-F.Func g ≡ Term-F.Func k = sym e ∙ ap (under E.table) same ∙ d in
    ap (λ l. results_of (out-Signature (function_in l g)).results) x ∙ z
one_called_function h e y (called_builtin z b) = absurd (typed_or_builtin h (z ∙ sym y))

abbrev predeclared_in : Shape → Predeclared → Predeclared
predeclared_in (shape.OfBuiltin f) d = f
predeclared_in s d = d

pub one_called_builtin : {E : Env} {o r s : Operand} {f : Predeclared} {es : List Expr} {dots : Bool} → ((q : Operand) → HasBuiltin E f es dots q → r ≡ q) → builtin f ≡ o → Called E o es dots s → r ≡ s
one_called_builtin one y (called_type z x a v) = absurd (name_or_builtin z y)
one_called_builtin one y (called_function h e z) = absurd (typed_or_builtin h y)
one_called_builtin {E = E} {s = s} {f = f} {es = es} {dots = dots} one y (called_builtin z b) =
    one s (subst (λ k. HasBuiltin E k es dots s) (ap (λ (o : Operand). predeclared_in o.shape f) (z ∙ sym y)) b)
