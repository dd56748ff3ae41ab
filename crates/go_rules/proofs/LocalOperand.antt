-- In a region an expression is the operand that it is in the whole environment, and a type form stands for the same type.
use Rattle.std.proofs.Common.{◌≡◌, ℕ, length, Bool, true, false, List, [], ◌∷◌, ◌++◌, Option, sym, subst}
use Rattle.std.specs.Prelude.{map}
use Rattle.go_syntax.specs.go_base.declared.operator.CompareOp.{CompareOp}
use Rattle.go_syntax.specs.go_base.declared.operator.ProductOperator.{ProductOperator}
use Rattle.go_syntax.specs.go_base.declared.operator.SumOperator.{SumOperator}
use Rattle.go_syntax.specs.go_base.Lists.{Each}
use Rattle.go_model.specs.declared.constants.value.Basic.TheVariants as basic
use Rattle.go_model.specs.declared.constants.value.BinaryOp.{BinaryOp}
use Rattle.go_model.specs.declared.types.term.Direction.TheVariants as direction
use Rattle.go_model.specs.declared.types.term.Field.{Field, out-Field, out-roll-Field}
use Rattle.go_model.specs.declared.types.term.Method.{Method, out-Method, roll-Method, out-roll-Method}
use Rattle.go_model.specs.declared.types.term.Signature.{Signature, out-Signature}
use Rattle.go_model.specs.declared.types.term.Term.{Term, Term-F}
use Rattle.go_model.specs.declared.types.names.Sel.{Sel}
use Rattle.go_model.specs.declared.types.package.ConstTerm.{ConstTerm}
use Rattle.go_model.specs.types.TypeNames.{names, signature_names}
use Rattle.go_model.specs.types.Terms.{Layer}
use Rattle.go_model.specs.types.Underlying.{under}
use Rattle.go_rules.specs.Environments.{Env, selector_of}
use Rattle.go_rules.specs.Expressions.{Has, has_operand, HasForm, has_int, has_rune, has_string, has_name, has_paren, has_type, has_receive_type, has_function, has_composite, has_composite_array, has_dereference, has_pointer_type, has_address, has_literal_address, has_receive, has_constant_prefix, has_prefix, has_or, has_and, has_compare, has_sum, has_product, has_primary, has_imported, HasLogical, logical_none, logical_more, HasComparisons, comparisons_none, comparisons_more, HasSum, sum_none, sum_more, HasProduct, product_none, product_more, HasPosts, posts_none, posts_more, HasPost, post_field, post_method, post_method_expression, post_assertion, post_array, post_array_pointer, post_slice_index, post_string, post_map, post_slice, post_full_slice, post_conversion, post_call, post_builtin, HasIndexed, indexed_none, indexed_more, indexed_keyed, HasBuiltin, append_elements, append_slice, append_string, len_string, array_constant, array_value, measure, close, copy_slice, copy_string, delete, make, new, panic, print, recover, HasEach, each_none, each_more, HasSizes, sizes_none, sizes_more, HasOptional, optional_none, optional_some, HasKeyed, keyed_none, keyed_more, HoldsNone, holds_none, IsQuietCall, quiet_conversion, quiet_constant, HoldsOne, holds_receive, holds_call, OfType, of_type, OfForm, of_name, of_paren, of_pointer, of_slice, of_array, of_map, of_channel, of_send_channel, of_receive_channel, of_function, of_struct, of_interface, OfSignature, signature_alone, signature_result, OfParameters, parameters_none, parameters_more, parameters_variadic, OfResult, result_parameters, result_type, OfFields, fields_none, fields_named, fields_embedded, OfMethods, methods_none, methods_method, methods_embedded, HasArguments, arguments_each, arguments_tuple, HasElements, elements_keyed, elements_unkeyed, elements_array, elements_slice, elements_map, HasUnkeyed, unkeyed_none, unkeyed_more, HasPairs, pairs_none, pairs_more, ElementFits, fits_value, fits_literal, fits_address, field_of, for_names, product_operator, starred, tag_of, with_receiver}
use Rattle.go_rules.specs.Nodes.{Node, Stands, stands_here, stands_in, elem_parts, field_parts, ExprLayer, PostLayer, TypeLayer, ResultLayer, expression, post, value, type, signature as at_signature, element_parts, expression_parts, fields_parts, elems_parts, optional, optional_result_parts, parameter_parts, post_parts, result_parts, type_parts}
use Rattle.go_rules.specs.Operands.{basic_term, IsOf, is_of_type, is_of_kind}
use Rattle.go_rules.specs.Regions.{Region, ConstIn, IsClosed, NameIn, RefersIn, SignatureIn, TermIn, cut, elems_fronts, expression_name, field_fronts, fields_fronts, elem_fronts, type_fronts}
use Rattle.go_rules.specs.Usability.{UsableAs}
use Rattle.go_rules.specs.declared.operand.Operand.{Operand}
use Rattle.go_rules.specs.declared.predeclared.Predeclared.{Predeclared}
use Rattle.go_rules.proofs.LocalParts.{CallIn, calls_in, call_in, chain_names, chain_parts, each_both, each_left, each_right, element_key, element_value, elements_rest, for_names_in, literal_in, names_here, parts_in, plains_in, results_in, signature_in, value_in}
use Rattle.go_rules.proofs.LocalRelations.{OperandIn, any_in, basic_in, kind_local, pointer_in, struct_local, typed_in, usable_local}
use Rattle.go_rules.proofs.LocalResults.{array_local, comparison_local, computed_in, computes_local, converts_local, denotes_local, each_usable, fit_local, holds_local, imported_local, index_local, makes_local, measures_local, printed_local, product_local, slice_in, slices_local, string_local, type_name_local}
use Rattle.go_rules.proofs.LocalTerms.{LayerIn, close_in, each_has, each_passes, passes_both, passes_left, passes_right, fields_in, form_in, methods_in, open_signature}
use Rattle.go_rules.proofs.LocalTypes.{each_made, entered_same, form_same, found_in, found_local, method_found_in, method_local}
use Rattle.go_syntax.specs.declared.expression.Element.{Element, out-Element}
use Rattle.go_syntax.specs.declared.expression.ElementValue.{ElementValue}
use Rattle.go_syntax.specs.declared.expression.Expr.{Expr}
use Rattle.go_syntax.specs.declared.expression.Post.{Post}
use Rattle.go_syntax.specs.declared.name.Name.{Name}
use Rattle.go_syntax.specs.declared.types.FieldDecl.{FieldDecl, out-FieldDecl}
use Rattle.go_syntax.specs.declared.types.FuncResult.{FuncResult}
use Rattle.go_syntax.specs.declared.types.InterfaceElem.{InterfaceElem, out-InterfaceElem}
use Rattle.go_syntax.specs.declared.types.ParameterDecl.{ParameterDecl, out-ParameterDecl}
use Rattle.go_syntax.specs.declared.types.Signature.{out-Signature as out-Sig}
use Rattle.go_syntax.specs.declared.types.«Type».{«Type» as Typ}

-- the fields' types are of the region
abbrev pub FieldsIn : Region → List Field → Type 0
FieldsIn R fs = Each (λ f. TermIn R (out-Field f).term) fs

-- the methods' signatures are of the region
abbrev pub MethodsIn : Region → List Method → Type 0
MethodsIn R ms = Each (λ m. SignatureIn R (out-Method m).signature) ms

-- a field and a method that are made hold what they are made of
term_rolled : (E : Env) (R : Region) (embedded : Bool) (u : Term) (tag : Option (List ℕ)) (n : Name) → TermIn R u → TermIn R (out-Field (field_of E embedded u tag n)).term
term_rolled E R embedded u tag n h = subst (λ (x : _). TermIn R x.term) (sym (out-roll-Field (record { sel = selector_of E n.text; embedded = embedded; term = u; tag = tag_of tag }))) h

rolled_in : (R : Region) (s : Sel) (g : Signature) → SignatureIn R g → SignatureIn R (out-Method (roll-Method (record { sel = s; signature = g }))).signature
rolled_in R s g h = subst (λ (x : _). SignatureIn R x.signature) (sym (out-roll-Method (record { sel = s; signature = g }))) h

named_in : (E : Env) (R : Region) (u : Term) (tag : Option (List ℕ)) (ns : List Name) (fs : List Field) → TermIn R u → FieldsIn R fs → FieldsIn R (map (field_of E false u tag) ns ++ fs)
named_in E R u tag [] fs h k = k
named_in E R u tag (n ∷ ns) fs h k = (term_rolled E R false u tag n h, named_in E R u tag ns fs h k)

starred_in : (R : Region) (star : Bool) (u : Term) → TermIn R u → TermIn R (starred star u)
starred_in R false u h = h
starred_in R true u h = pointer_in R u h

embedded_in : (E : Env) (R : Region) (star : Bool) (u : Term) (tag : Option (List ℕ)) (n : Name) → TermIn R u → TermIn R (out-Field (field_of E true (starred star u) tag n)).term
embedded_in E R star u tag n h = term_rolled E R true (starred star u) tag n (starred_in R star u h)

-- the operand's type or untyped kind is of the region
of_in : (R : Region) {o : Operand} {c : ConstTerm} → OperandIn R o → IsOf o c → ConstIn R c
of_in R h (is_of_type i) = typed_in R h i
of_in R h (is_of_kind i) = tt

-- what stands in what stands in a tree stands in it
pub stands_within : {a b c : Node} → Stands a b → Stands b c → Stands a c
stands_within stands_here i = i
stands_within (stands_in k s) i = stands_in k (stands_within s i)

module _ (E : Env) (R : Region) (w : IsClosed E R) where
  abbrev C : Env
  C = cut R E

  form : (t : Term) (l : Layer) → TermIn R t → under E.table t ≡ l → under C.table t ≡ l
  form t l h e = form_same E R w t l h e

  below : (t : Term) (l : Layer) → TermIn R t → under E.table t ≡ l → LayerIn R l
  below t l h e = form_in E R w t l h e

  usable : {o : Operand} {t : Term} → OperandIn R o → TermIn R t → UsableAs E o t → UsableAs C o t
  usable h k u = usable_local E R w h k u

  abbrev Refer : List Node → Type 0
  Refer bs = Each (RefersIn R) bs

  mutual
    pub has_local : {e : Expr} {o : Operand} → Has E e o → RefersIn R (expression e) → Has C e o × OperandIn R o
    has_local (has_operand {e = e} a s) h = let f = form_local a (names_here R (expression e) h) (parts_in R (expression e) h) in (has_operand f.0 s, f.1)

    form_local : {l : ExprLayer} {o : Operand} → HasForm E l o → Each (NameIn R) (expression_name l) → Refer (expression_parts l) → HasForm C l o × OperandIn R o
    form_local has_int n h = (has_int, tt)
    form_local has_rune n h = (has_rune, tt)
    form_local (has_string i) n h = (has_string i, tt)
    form_local (has_name d) n h = let f = denotes_local E R w n.0 d in (has_name f.0, f.1)
    form_local (has_paren a) n h = let f = has_local a h.0 in (has_paren f.0, f.1)
    form_local (has_type a) n h = let f = type_local a h.0 in (has_type f.0, f.1)
    form_local (has_receive_type {u = u} a) n h = let f = type_local a h.0 in (has_receive_type f.0, close_in R (Term-F.Chan direction.ReceiveOnly u) f.1)
    form_local (has_function {g = g} {h = k} a) n h =
        let p = parts_in R (at_signature g) h.0 in
        let f = signature_local a (each_left (RefersIn R) (parameter_parts (out-Sig g).parameters) (optional_result_parts (out-Sig g).result) p) (each_right (RefersIn R) (parameter_parts (out-Sig g).parameters) (optional_result_parts (out-Sig g).result) p) in
        (has_function f.0, close_in R (Term-F.Func k) f.1)
    form_local (has_composite a x) n h = let f = type_local a h.0 in (has_composite f.0 (elements_local x f.1 h.1), f.1)
    form_local (has_composite_array {u = u} {n = k} a x) n h = let f = type_local a h.0 in (has_composite_array f.0 (indexed_local x f.1 h.1), close_in R (Term-F.Array k u) f.1)
    form_local (has_dereference {t = t} {u = u} a i e) n h = let f = has_local a h.0 in let k = typed_in R f.1 i in (has_dereference f.0 i (form t (Term-F.Pointer u) k e), below t (Term-F.Pointer u) k e)
    form_local (has_pointer_type {t = t} a) n h = let f = has_local a h.0 in (has_pointer_type f.0, pointer_in R t f.1)
    form_local (has_address {t = t} a) n h = let f = has_local a h.0 in (has_address f.0, pointer_in R t f.1)
    form_local (has_literal_address {t = t} i a) n h = let f = has_local a h.0 in (has_literal_address i f.0, pointer_in R t f.1)
    form_local (has_receive {t = t} {u = u} {d = d} a i e r) n h = let f = has_local a h.0 in let k = typed_in R f.1 i in (has_receive f.0 i (form t (Term-F.Chan d u) k e) r, below t (Term-F.Chan d u) k e)
    form_local (has_constant_prefix p a k e) n h = let f = has_local a h.0 in (has_constant_prefix p f.0 (kind_local E R w f.1 k) e, f.1)
    form_local (has_prefix {c = c} p a b i k j) n h = let f = has_local a h.0 in let d = of_in R f.1 i in (has_prefix p f.0 b i (kind_local E R w d k) j, computed_in R c d)
    form_local (has_or a c) n h = let f = has_local a h.0 in let g = logical_local c f.1 h.1 in (has_or f.0 g.0, g.1)
    form_local (has_and a c) n h = let f = has_local a h.0 in let g = logical_local c f.1 h.1 in (has_and f.0 g.0, g.1)
    form_local (has_compare a c) n h = let f = has_local a h.0 in let g = comparisons_local c f.1 h.1 in (has_compare f.0 g.0, g.1)
    form_local (has_sum a c) n h = let f = has_local a h.0 in let g = sums_local c f.1 h.1 in (has_sum f.0 g.0, g.1)
    form_local (has_product a c) n h = let f = has_local a h.0 in let g = products_local c f.1 h.1 in (has_product f.0 g.0, g.1)
    form_local (has_primary a c) n h = let f = has_local a h.0 in let g = posts_local c f.1 h.1 in (has_primary f.0 g.0, g.1)
    form_local (has_imported {e = x} e i d s p) n h =
        let q = subst (λ l. Each (NameIn R) (expression_name l)) e (names_here R (expression x) h.0) in
        let f = imported_local E R w q.0 d in let g = posts_local p f.1 h.1.1 in (has_imported e i f.0 s g.0, g.1)

    logical_local : {op : BinaryOp} {o r : Operand} {es : List Expr} → HasLogical E op o es r → OperandIn R o → Refer (map expression es) → HasLogical C op o es r × OperandIn R r
    logical_local logical_none i h = (logical_none, i)
    logical_local (logical_more a c x) i h = let f = has_local a h.0 in let g = computes_local E R w i f.1 c in let k = logical_local x g.1 h.1 in (logical_more f.0 g.0 k.0, k.1)

    comparisons_local : {o r : Operand} {ops : List CompareOp} {es : List Expr} → HasComparisons E o ops es r → OperandIn R o → Refer (map expression es) → HasComparisons C o ops es r × OperandIn R r
    comparisons_local comparisons_none i h = (comparisons_none, i)
    comparisons_local (comparisons_more a c x) i h = let f = has_local a h.0 in let g = comparison_local E R w i f.1 c in let k = comparisons_local x g.1 h.1 in (comparisons_more f.0 g.0 k.0, k.1)

    sums_local : {o r : Operand} {ops : List SumOperator} {es : List Expr} → HasSum E o ops es r → OperandIn R o → Refer (map expression es) → HasSum C o ops es r × OperandIn R r
    sums_local sum_none i h = (sum_none, i)
    sums_local (sum_more a c x) i h = let f = has_local a h.0 in let g = computes_local E R w i f.1 c in let k = sums_local x g.1 h.1 in (sum_more f.0 g.0 k.0, k.1)

    products_local : {o r : Operand} {ops : List ProductOperator} {es : List Expr} → HasProduct E o ops es r → OperandIn R o → Refer (map expression es) → HasProduct C o ops es r × OperandIn R r
    products_local product_none i h = (product_none, i)
    products_local (product_more {o = o} {q = q} {r = r} {op = op} a c x) i h = let f = has_local a h.0 in let g = product_local E R w (product_operator op) o q r i f.1 c in let k = products_local x g.1 h.1 in (product_more f.0 g.0 k.0, k.1)

    pub posts_local : {o r : Operand} {xs : List Post} → HasPosts E o xs r → OperandIn R o → Refer (map post xs) → HasPosts C o xs r × OperandIn R r
    posts_local posts_none i h = (posts_none, i)
    posts_local (posts_more {x = p} a s x) i h = let f = post_local a i (parts_in R (post p) h.0) in let k = posts_local x f.1 h.1 in (posts_more f.0 s k.0, k.1)

    pub post_local : {o r : Operand} {l : PostLayer} → HasPost E o l r → OperandIn R o → Refer (post_parts l) → HasPost C o l r × OperandIn R r
    post_local (post_field b k f) i h = let t = typed_in R i k in (post_field b k (found_local E R w t f), found_in E R w t f)
    post_local (post_method {g = g} b k m) i h = let t = typed_in R i k in (post_method b k (method_local E R w t m), close_in R (Term-F.Func g) (method_found_in E R w t m))
    post_local (post_method_expression {t = t} {g = g} b m) i h =
        let p = open_signature R g (method_found_in E R w i m) in
        (post_method_expression b (method_local E R w i m), close_in R (Term-F.Func (with_receiver t g)) (signature_in R (t ∷ (out-Signature g).params) (out-Signature g).results (out-Signature g).variadic (i, p.0) p.1))
    post_local (post_assertion {t = t} {u = u} {ms = ms} k e a m) i h = let j = typed_in R i k in let f = type_local a h.0 in (post_assertion k (form t (Term-F.Interface ms) j e) f.0 (holds_local E R w t u j f.1 m), f.1)
    post_local (post_array {t = t} {e = u} {n = n} k e a x b) i h = let j = typed_in R i k in let f = has_local a h.0 in (post_array k (form t (Term-F.Array n u) j e) f.0 (index_local E R w f.1 x) b, below t (Term-F.Array n u) j e)
    post_local (post_array_pointer {t = t} {base = base} {e = u} {n = n} k e d a x b) i h =
        let j = typed_in R i k in let p = below t (Term-F.Pointer base) j e in let f = has_local a h.0 in
        (post_array_pointer k (form t (Term-F.Pointer base) j e) (form base (Term-F.Array n u) p d) f.0 (index_local E R w f.1 x) b, below base (Term-F.Array n u) p d)
    post_local (post_slice_index {t = t} {e = u} k e a x) i h = let j = typed_in R i k in let f = has_local a h.0 in (post_slice_index k (form t (Term-F.Slice u) j e) f.0 (index_local E R w f.1 x), below t (Term-F.Slice u) j e)
    post_local (post_string n a x b) i h = let f = has_local a h.0 in (post_string (string_local E R w i n) f.0 (index_local E R w f.1 x) b, basic_in R basic.Uint8)
    post_local (post_map {t = t} {k = key} {e = u} k e a x) i h =
        let j = typed_in R i k in let p = below t (Term-F.Map key u) j e in let f = has_local a h.0 in
        (post_map k (form t (Term-F.Map key u) j e) f.0 (usable f.1 (passes_left R.types (names key) (names u) p) x), passes_right R.types (names key) (names u) p)
    post_local (post_slice {low = low} {high = high} n a b x) i h =
        let s = slices_local E R w i n in
        (post_slice s.0 (optional_local a (each_left (RefersIn R) (optional expression low) (optional expression high) h)) (optional_local b (each_right (RefersIn R) (optional expression low) (optional expression high) h)) x, s.1)
    post_local (post_full_slice {low = low} {high = high} {bound = bound} n a b c x) i h =
        let s = slices_local E R w i n in let k = each_right (RefersIn R) (optional expression low) (expression high ∷ expression bound ∷ []) h in
        (post_full_slice s.0 (optional_local a (each_left (RefersIn R) (optional expression low) (expression high ∷ expression bound ∷ []) h)) (optional_local b (k.0, tt)) (optional_local c (k.1.0, tt)) x, s.1)
    post_local (post_conversion c a v) i h = let p = call_in R c h in let f = has_local a p.0 in let g = converts_local E R w f.1 i v in (post_conversion c f.0 g.0, g.1)
    post_local (post_call {t = t} {g = g} c k e a x) i h =
        let j = typed_in R i k in let s = open_signature R g (below t (Term-F.Func g) j e) in let f = arguments_local a (call_in R c h) in
        (post_call c k (form t (Term-F.Func g) j e) f.0 (fit_local E R w s.0 f.1 x), results_in R (out-Signature g).results s.1)
    post_local (post_builtin c b) i h = let f = builtin_local b (call_in R c h) in (post_builtin c f.0, f.1)

    optional_local : {e : Option Expr} {c : Option ℕ} → HasOptional E e c → Refer (optional expression e) → HasOptional C e c
    optional_local optional_none h = optional_none
    optional_local (optional_some a i) h = let f = has_local a h.0 in optional_some f.0 (index_local E R w f.1 i)

    each_local : {es : List Expr} {os : List Operand} → HasEach E es os → Refer (map expression es) → HasEach C es os × Each (OperandIn R) os
    each_local each_none h = (each_none, tt)
    each_local (each_more a x) h = let f = has_local a h.0 in let g = each_local x h.1 in (each_more f.0 g.0, (f.1, g.1))

    arguments_local : {dots : Bool} {es : List Expr} {os : List Operand} → HasArguments E dots es os → Refer (map expression es) → HasArguments C dots es os × Each (OperandIn R) os
    arguments_local (arguments_each x) h = let f = each_local x h in (arguments_each f.0, f.1)
    arguments_local (arguments_tuple {ts = ts} a) h = let f = has_local a h.0 in (arguments_tuple f.0, plains_in R ts f.1)

    pub elements_local : {t : Term} {xs : List Element} → HasElements E t xs → TermIn R t → Refer (element_parts xs) → HasElements C t xs
    elements_local (elements_keyed {t = t} {fs = fs} e x o) k h = elements_keyed (form t (Term-F.Struct fs) k e) (keyed_local x (fields_in R fs (below t (Term-F.Struct fs) k e)) h) o
    elements_local (elements_unkeyed {t = t} {fs = fs} e n p x) k h = elements_unkeyed (form t (Term-F.Struct fs) k e) (entered_same E R w t k n) (struct_local E R w t k p) (unkeyed_local x (fields_in R fs (below t (Term-F.Struct fs) k e)) h)
    elements_local (elements_array {t = t} {e = u} {n = n} e x) k h = elements_array (form t (Term-F.Array n u) k e) (indexed_local x (below t (Term-F.Array n u) k e) h)
    elements_local (elements_slice {t = t} {e = u} e x) k h = elements_slice (form t (Term-F.Slice u) k e) (indexed_local x (below t (Term-F.Slice u) k e) h)
    elements_local (elements_map {t = t} {k = key} {e = u} e x) k h =
        let p = below t (Term-F.Map key u) k e in elements_map (form t (Term-F.Map key u) k e) (pairs_local x (passes_left R.types (names key) (names u) p) (passes_right R.types (names key) (names u) p) h)

    keyed_local : {fs : List Field} {xs : List Element} {ns : List (List ℕ)} → HasKeyed E fs xs ns → FieldsIn R fs → Refer (element_parts xs) → HasKeyed C fs xs ns
    keyed_local keyed_none k h = keyed_none
    keyed_local (keyed_more {fs = fs} {x = x} {xs = xs} f i b j s v a u r) k h =
        let g = has_local a (value_in R (out-Element x).value (element_value (RefersIn R) x xs h) v) in
        keyed_more f i b j s v g.0 (usable g.1 (each_has (λ f. TermIn R (out-Field f).term) fs f k j) u) (keyed_local r k (elements_rest (RefersIn R) x xs h))

    unkeyed_local : {fs : List Field} {xs : List Element} → HasUnkeyed E fs xs → FieldsIn R fs → Refer (element_parts xs) → HasUnkeyed C fs xs
    unkeyed_local unkeyed_none k h = unkeyed_none
    unkeyed_local (unkeyed_more {x = x} {xs = xs} i v a u s r) k h =
        let g = has_local a (value_in R (out-Element x).value (element_value (RefersIn R) x xs h) v) in
        unkeyed_more i v g.0 (usable g.1 k.0 u) s (unkeyed_local r k.1 (elements_rest (RefersIn R) x xs h))

    indexed_local : {t : Term} {l : Option ℕ} {next n : ℕ} {xs : List Element} → HasIndexed E t l next xs n → TermIn R t → Refer (element_parts xs) → HasIndexed C t l next xs n
    indexed_local indexed_none k h = indexed_none
    indexed_local (indexed_more {x = x} {xs = xs} i r b f s) k h = indexed_more i r b (element_local f k (element_value (RefersIn R) x xs h)) (indexed_local s k (elements_rest (RefersIn R) x xs h))
    indexed_local (indexed_keyed {x = x} {xs = xs} {v = v} i e a j b f s) k h =
        let g = has_local a (value_in R v (element_key (RefersIn R) x xs i h) e) in
        indexed_keyed i e g.0 (index_local E R w g.1 j) b (element_local f k (element_value (RefersIn R) x xs h)) (indexed_local s k (elements_rest (RefersIn R) x xs h))

    pairs_local : {key t : Term} {xs : List Element} → HasPairs E key t xs → TermIn R key → TermIn R t → Refer (element_parts xs) → HasPairs C key t xs
    pairs_local pairs_none j k h = pairs_none
    pairs_local (pairs_more {x = x} {xs = xs} i f g s) j k h = pairs_more i (element_local f j (element_key (RefersIn R) x xs i h)) (element_local g k (element_value (RefersIn R) x xs h)) (pairs_local s j k (elements_rest (RefersIn R) x xs h))

    element_local : {t : Term} {v : ElementValue} → ElementFits E t v → TermIn R t → RefersIn R (value v) → ElementFits C t v
    element_local (fits_value {v = v} e a u) k h = let f = has_local a (value_in R v h e) in fits_value e f.0 (usable f.1 k u)
    element_local (fits_literal {v = v} e x) k h = fits_literal e (elements_local x k (literal_in R v h e))
    element_local (fits_address {t = t} {base = base} {v = v} e d x) k h = fits_address e (form t (Term-F.Pointer base) k d) (elements_local x (below t (Term-F.Pointer base) k d) (literal_in R v h e))

    pub builtin_local : {f : Predeclared} {es : List Expr} {dots : Bool} {r : Operand} → HasBuiltin E f es dots r → Refer (map expression es) → HasBuiltin C f es dots r × OperandIn R r
    builtin_local (append_elements {os = os} {t = t} {u = u} a i e x k) h =
        let f = has_local a h.0 in let j = typed_in R f.1 i in let g = each_local x h.1 in
        (append_elements f.0 i (form t (Term-F.Slice u) j e) g.0 (each_usable E R w u os (below t (Term-F.Slice u) j e) g.1 k), j)
    builtin_local (append_slice {t = t} {u = u} a i e b k) h =
        let f = has_local a h.0 in let j = typed_in R f.1 i in let g = has_local b h.1.0 in
        (append_slice f.0 i (form t (Term-F.Slice u) j e) g.0 (usable g.1 (slice_in R u (below t (Term-F.Slice u) j e)) k), j)
    builtin_local (append_string {t = t} a i e b k) h =
        let f = has_local a h.0 in let j = typed_in R f.1 i in let g = has_local b h.1.0 in
        (append_string f.0 i (form t (Term-F.Slice (basic_term basic.Uint8)) j e) g.0 (string_local E R w g.1 k), j)
    builtin_local (len_string a i n) h = let f = has_local a h.0 in (len_string f.0 (string_local E R w f.1 i) n, basic_in R basic.Int)
    builtin_local (array_constant m a i y n k) h = let f = has_local a h.0 in (array_constant m f.0 i (array_local E R w (typed_in R f.1 i) y) (none_local n h.0) k, basic_in R basic.Int)
    builtin_local (array_value m a i y n) h = let f = has_local a h.0 in (array_value m f.0 i (array_local E R w (typed_in R f.1 i) y) (one_local n h.0), basic_in R basic.Int)
    builtin_local (measure {f = p} {t = t} a c i m) h = let f = has_local a h.0 in (measure f.0 c i (measures_local E R w p t (typed_in R f.1 i) m), basic_in R basic.Int)
    builtin_local (close {t = t} {u = u} {d = d} a i e s) h = let f = has_local a h.0 in (close f.0 i (form t (Term-F.Chan d u) (typed_in R f.1 i) e) s, tt)
    builtin_local (copy_slice {t = t} {u = u} {v = v} a i e b j d) h =
        let f = has_local a h.0 in let g = has_local b h.1.0 in
        (copy_slice f.0 i (form t (Term-F.Slice v) (typed_in R f.1 i) e) g.0 j (form u (Term-F.Slice v) (typed_in R g.1 j) d), basic_in R basic.Int)
    builtin_local (copy_string {t = t} a i e b k) h =
        let f = has_local a h.0 in let g = has_local b h.1.0 in
        (copy_string f.0 i (form t (Term-F.Slice (basic_term basic.Uint8)) (typed_in R f.1 i) e) g.0 (string_local E R w g.1 k), basic_in R basic.Int)
    builtin_local (delete {t = t} {k = key} {u = u} a i e b x) h =
        let f = has_local a h.0 in let j = typed_in R f.1 i in let g = has_local b h.1.0 in
        (delete f.0 i (form t (Term-F.Map key u) j e) g.0 (usable g.1 (passes_left R.types (names key) (names u) (below t (Term-F.Map key u) j e)) x), tt)
    builtin_local (make {t = t} {ns = ns} a x k s) h = let f = has_local a h.0 in (make f.0 (sizes_local x h.1) (makes_local E R w t (length ns) f.1 k) s, f.1)
    builtin_local (new {t = t} a) h = let f = has_local a h.0 in (new f.0, pointer_in R t f.1)
    builtin_local (panic a u) h = let f = has_local a h.0 in (panic f.0 (usable f.1 (any_in R) u), tt)
    builtin_local (print {os = os} i x k) h = let f = each_local x h in (print i f.0 (printed_local E R w os k), tt)
    builtin_local recover h = (recover, any_in R)

    sizes_local : {es : List Expr} {ns : List (Option ℕ)} → HasSizes E es ns → Refer (map expression es) → HasSizes C es ns
    sizes_local sizes_none h = sizes_none
    sizes_local (sizes_more a i x) h = let f = has_local a h.0 in sizes_more f.0 (index_local E R w f.1 i) (sizes_local x h.1)

    none_local : {e : Expr} → HoldsNone E e → RefersIn R (expression e) → HoldsNone C e
    none_local (holds_none f g) h = holds_none f (λ y x before c s k. quiet_local (g y x before c s k) (calls_in R (λ b i. h b (stands_within s i)) k))

    quiet_local : {x : Expr} {before : List Post} {c : Post} → IsQuietCall E x before c → CallIn R x before c → IsQuietCall C x before c
    quiet_local (quiet_conversion {x = x} {before = before} a) k = quiet_conversion (form_local a (chain_names R x before k.operand) (chain_parts R x before k.operand k.posts)).0
    quiet_local (quiet_constant {x = x} {before = before} {c = c} a) k = quiet_constant (form_local a (chain_names R x (before ++ c ∷ []) k.operand) (chain_parts R x (before ++ c ∷ []) k.operand k.all)).0

    one_local : {e : Expr} → HoldsOne E e → RefersIn R (expression e) → HoldsOne C e
    one_local (holds_receive x s i) h = holds_receive x s i
    one_local (holds_call y x before c s k a i b j) h =
        let q = calls_in R (λ b i. h b (stands_within s i)) k in
        holds_call y x before c s k (form_local a (chain_names R x before q.operand) (chain_parts R x before q.operand q.posts)).0 i (form_local b (chain_names R x (before ++ c ∷ []) q.operand) (chain_parts R x (before ++ c ∷ []) q.operand q.all)).0 j

    pub type_local : {t : Typ} {u : Term} → OfType E t u → RefersIn R (type t) → OfType C t u × TermIn R u
    type_local (of_type {t = t} a s) h = let f = of_form_local a (names_here R (type t) h) (parts_in R (type t) h) in (of_type f.0 s, f.1)

    of_form_local : {l : TypeLayer} {u : Term} → OfForm E l u → Each (NameIn R) (type_fronts l) → Refer (type_parts l) → OfForm C l u × TermIn R u
    of_form_local (of_name {q = q} {u = u} a) n h = let f = type_name_local E R w q u n.0 a in (of_name f.0, f.1)
    of_form_local (of_paren a) n h = let f = type_local a h.0 in (of_paren f.0, f.1)
    of_form_local (of_pointer {u = u} a) n h = let f = type_local a h.0 in (of_pointer f.0, pointer_in R u f.1)
    of_form_local (of_slice {u = u} a) n h = let f = type_local a h.0 in (of_slice f.0, slice_in R u f.1)
    of_form_local (of_array {u = u} {n = k} x r a) n h = let g = has_local x h.0 in let f = type_local a h.1.0 in (of_array g.0 r f.0, close_in R (Term-F.Array k u) f.1)
    of_form_local (of_map {u = u} {v = v} a b) n h = let f = type_local a h.0 in let g = type_local b h.1.0 in (of_map f.0 g.0, close_in R (Term-F.Map u v) (passes_both R.types (names u) (names v) f.1 g.1))
    of_form_local (of_channel {u = u} a) n h = let f = type_local a h.0 in (of_channel f.0, close_in R (Term-F.Chan direction.Both u) f.1)
    of_form_local (of_send_channel {u = u} a) n h = let f = type_local a h.0 in (of_send_channel f.0, close_in R (Term-F.Chan direction.SendOnly u) f.1)
    of_form_local (of_receive_channel {u = u} a) n h = let f = type_local a h.0 in (of_receive_channel f.0, close_in R (Term-F.Chan direction.ReceiveOnly u) f.1)
    of_form_local (of_function {g = g} {h = k} a) n h =
        let p = parts_in R (at_signature g) h.0 in
        let f = signature_local a (each_left (RefersIn R) (parameter_parts (out-Sig g).parameters) (optional_result_parts (out-Sig g).result) p) (each_right (RefersIn R) (parameter_parts (out-Sig g).parameters) (optional_result_parts (out-Sig g).result) p) in
        (of_function f.0, close_in R (Term-F.Func k) f.1)
    of_form_local (of_struct {fs = fs} x) n h = let f = fields_local x n h in (of_struct f.0, close_in R (Term-F.Struct fs) (each_passes R.types (λ f. names (out-Field f).term) fs f.1))
    of_form_local (of_interface ms all x s i j) n h =
        let f = methods_local x n h in
        (of_interface ms all f.0 s i j, close_in R (Term-F.Interface ms) (each_passes R.types (λ m. signature_names (out-Method m).signature) ms (each_made ms (λ m k. each_has (λ m. SignatureIn R (out-Method m).signature) all m f.1 (i m k)))))

    pub signature_local : {ds : List ParameterDecl} {r : Option FuncResult} {g : Signature} → OfSignature E ds r g → Refer (parameter_parts ds) → Refer (optional_result_parts r) → OfSignature C ds r g × SignatureIn R g
    signature_local (signature_alone {ts = ts} {variadic = v} a) h k = let f = parameters_local a h in (signature_alone f.0, signature_in R ts [] v f.1 tt)
    signature_local (signature_result {ts = ts} {us = us} {variadic = v} a b) h k = let f = parameters_local a h in let g = result_local b k in (signature_result f.0 g.0, signature_in R ts us v f.1 g.1)

    parameters_local : {ds : List ParameterDecl} {ts : List Term} {v : Bool} → OfParameters E ds ts v → Refer (parameter_parts ds) → OfParameters C ds ts v × Each (TermIn R) ts
    parameters_local parameters_none h = (parameters_none, tt)
    parameters_local (parameters_more {d = d} {u = u} {us = us} f a x) h =
        let g = type_local a h.0 in let k = parameters_local x h.1 in
        (parameters_more f g.0 k.0, each_both (TermIn R) (for_names (out-ParameterDecl d).names u) us (for_names_in R (out-ParameterDecl d).names u g.1) k.1)
    parameters_local (parameters_variadic {u = u} f l a) h = let g = type_local a h.0 in (parameters_variadic f l g.0, (slice_in R u g.1, tt))

    result_local : {l : ResultLayer} {ts : List Term} → OfResult E l ts → Refer (result_parts l) → OfResult C l ts × Each (TermIn R) ts
    result_local (result_parameters x) h = let f = parameters_local x h in (result_parameters f.0, f.1)
    result_local (result_type a) h = let f = type_local a h.0 in (result_type f.0, (f.1, tt))

    fields_local : {ds : List FieldDecl} {fs : List Field} → OfFields E ds fs → Each (NameIn R) (fields_fronts ds) → Refer (fields_parts ds) → OfFields C ds fs × FieldsIn R fs
    fields_local fields_none n h = (fields_none, tt)
    fields_local (fields_named {d = d} {ds = ds} {ns = ns} {tag = tag} {u = u} {fs = fs} e a x) n h =
        let g = type_local a (subst (λ l. Refer (field_parts l)) e (each_left (RefersIn R) (field_parts (out-FieldDecl d)) (fields_parts ds) h)).0 in
        let k = fields_local x (each_right (NameIn R) (field_fronts (out-FieldDecl d)) (fields_fronts ds) n) (each_right (RefersIn R) (field_parts (out-FieldDecl d)) (fields_parts ds) h) in
        (fields_named e g.0 k.0, named_in E R u tag ns fs g.1 k.1)
    fields_local (fields_embedded {d = d} {ds = ds} {star = star} {q = q} {tag = tag} u {fs = fs} e a x) n h =
        let g = type_name_local E R w q u (subst (λ l. Each (NameIn R) (field_fronts l)) e (each_left (NameIn R) (field_fronts (out-FieldDecl d)) (fields_fronts ds) n)).0 a in
        let k = fields_local x (each_right (NameIn R) (field_fronts (out-FieldDecl d)) (fields_fronts ds) n) (each_right (RefersIn R) (field_parts (out-FieldDecl d)) (fields_parts ds) h) in
        (fields_embedded u e g.0 k.0, (embedded_in E R star u tag q.name g.1, k.1))

    methods_local : {xs : List InterfaceElem} {ms : List Method} → OfMethods E xs ms → Each (NameIn R) (elems_fronts xs) → Refer (elems_parts xs) → OfMethods C xs ms × MethodsIn R ms
    methods_local methods_none n h = (methods_none, tt)
    methods_local (methods_method {x = x} {xs = xs} {n = name} {g = g} {h = k} e a r) n h =
        let p = parts_in R (at_signature g) (subst (λ l. Refer (elem_parts l)) e (each_left (RefersIn R) (elem_parts (out-InterfaceElem x)) (elems_parts xs) h)).0 in
        let f = signature_local a (each_left (RefersIn R) (parameter_parts (out-Sig g).parameters) (optional_result_parts (out-Sig g).result) p) (each_right (RefersIn R) (parameter_parts (out-Sig g).parameters) (optional_result_parts (out-Sig g).result) p) in
        let q = methods_local r (each_right (NameIn R) (elem_fronts (out-InterfaceElem x)) (elems_fronts xs) n) (each_right (RefersIn R) (elem_parts (out-InterfaceElem x)) (elems_parts xs) h) in
        (methods_method e f.0 q.0, (rolled_in R (selector_of E name.text) k f.1, q.1))
    methods_local (methods_embedded {x = x} {xs = xs} {q = name} u {ns = ns} {ms = ms} e a d r) n h =
        let f = type_name_local E R w name u (subst (λ l. Each (NameIn R) (elem_fronts l)) e (each_left (NameIn R) (elem_fronts (out-InterfaceElem x)) (elems_fronts xs) n)).0 a in
        let q = methods_local r (each_right (NameIn R) (elem_fronts (out-InterfaceElem x)) (elems_fronts xs) n) (each_right (RefersIn R) (elem_parts (out-InterfaceElem x)) (elems_parts xs) h) in
        (methods_embedded u e f.0 (form u (Term-F.Interface ns) f.1 d) q.0, each_both (λ m. SignatureIn R (out-Method m).signature) ns ms (methods_in R ns (below u (Term-F.Interface ns) f.1 d)) q.1)
