-- What an expression is, and which type a type form stands for, is of made types, where the environment is.
use Rattle.std.proofs.Common.{◌≡◌, inl, inr, ℕ, Bool, true, false, List, [], ◌∷◌, ◌++◌, Option, map, refl, sym}
use Rattle.go_base.proofs.Members.{each_has}
use Rattle.go_base.specs.declared.operator.CompareOp.{CompareOp}
use Rattle.go_base.specs.declared.operator.ProductOperator.{ProductOperator}
use Rattle.go_base.specs.declared.operator.SumOperator.{SumOperator}
use Rattle.go_base.specs.Lists.{Each, Has as HasItem}
use Rattle.go_model.specs.declared.constants.value.Basic.TheVariants as basic
use Rattle.go_model.specs.declared.constants.value.BinaryOp.{BinaryOp}
use Rattle.go_model.specs.declared.types.names.Sel.{Sel}
use Rattle.go_model.specs.declared.types.names.TypeName.{TypeName}
use Rattle.go_model.specs.declared.types.term.Direction.TheVariants as direction
use Rattle.go_model.specs.declared.types.term.Field.{Field}
use Rattle.go_model.specs.declared.types.term.Method.{Method}
use Rattle.go_model.specs.declared.types.term.Signature.{Signature, out-Signature}
use Rattle.go_model.specs.declared.types.term.Term.{Term, Term-F}
use Rattle.go_model.specs.types.Underlying.{under}
use Rattle.go_rules.proofs.LocalParts.{each_both}
use Rattle.go_rules.proofs.LocalTypes.{each_made}
use Rattle.go_selectors.proofs.Lists.{has-right}
use Rattle.go_rules.specs.Environments.{Env, selector_of}
use Rattle.go_rules.specs.Expressions.{Has, has_operand, HasForm, has_int, has_rune, has_string, has_name, has_paren, has_type, has_receive_type, has_function, has_composite, has_composite_array, has_dereference, has_pointer_type, has_address, has_literal_address, has_receive, has_constant_prefix, has_prefix, has_or, has_and, has_compare, has_sum, has_product, has_primary, has_imported, HasLogical, logical_none, logical_more, HasComparisons, comparisons_none, comparisons_more, HasSum, sum_none, sum_more, HasProduct, product_none, product_more, HasPosts, posts_none, posts_more, HasPost, post_field, post_method, post_method_expression, post_assertion, post_array, post_array_pointer, post_slice_index, post_string, post_map, post_slice, post_full_slice, post_conversion, post_call, post_builtin, HasBuiltin, append_elements, append_slice, append_string, len_string, array_constant, array_value, measure, close, copy_slice, copy_string, delete, make, new, panic, print, recover, OfType, of_type, OfForm, of_name, of_paren, of_pointer, of_slice, of_array, of_map, of_channel, of_send_channel, of_receive_channel, of_function, of_struct, of_interface, OfSignature, signature_alone, signature_result, OfParameters, parameters_none, parameters_more, parameters_variadic, OfResult, result_parameters, result_type, OfFields, fields_none, fields_named, fields_embedded, OfMethods, methods_none, methods_method, methods_embedded, field_of, for_names, product_operator, starred, tag_of}
use Rattle.go_rules.specs.Nodes.{ExprLayer, PostLayer, ResultLayer, TypeLayer}
use Rattle.go_rules.specs.Operands.{IsTyped}
use Rattle.go_rules.specs.declared.operand.Operand.{Operand}
use Rattle.go_rules.specs.declared.predeclared.Predeclared.{Predeclared}
use Rattle.go_syntax.specs.declared.expression.Expr.{Expr}
use Rattle.go_syntax.specs.declared.expression.Post.{Post}
use Rattle.go_syntax.specs.declared.name.Name.{Name}
use Rattle.go_syntax.specs.declared.types.FieldDecl.{FieldDecl}
use Rattle.go_syntax.specs.declared.types.FuncResult.{FuncResult}
use Rattle.go_syntax.specs.declared.types.InterfaceElem.{InterfaceElem}
use Rattle.go_syntax.specs.declared.types.ParameterDecl.{ParameterDecl, out-ParameterDecl}
use Rattle.go_syntax.specs.declared.types.«Type».{«Type» as Typ}
use Rattle.go_type_images.specs.Parts.{function_type, parts}
use Rattle.api_std_types.proofs.MadeTypes.{FieldMade, Made, MethodMade, any_made, basic_made, field_made, for_names_made, interface_made, method_made, methods_within, one, parameters_of, pointer_made, results_of_function, rolled, signature_made, slice_made, struct_made, two}
use Rattle.api_std_types.proofs.MadeOperands as operands
use Rattle.api_std_types.proofs.MadeOperands.{EnvMade, OperandMade}

module _ (N : TypeName → Type 0) (Q : Sel → Type 0) (M : Sel → Signature → Type 0) (I : List ℕ → Type 0) (E : Env) (w : EnvMade N Q M I E) where
  abbrev G : Term → Type 0
  G = Made N Q M

  abbrev O : Operand → Type 0
  O = OperandMade N Q M I

  typed : {o : Operand} {t : Term} → O o → IsTyped o t → G t
  typed h i = operands.typed_made N Q M I h i

  -- the last part of the level underneath
  element : (t : Term) (l : _) (u : Term) → G t → under E.table t ≡ l → HasItem (parts l) u → G u
  element t l u h e k = operands.below N Q M I E w t l h e u k

  results_in : (t : Term) (g : Signature) → G t → under E.table t ≡ Term-F.Func g → Each G (out-Signature g).results
  results_in t g h e = each_made (out-Signature g).results (λ u k. element t (Term-F.Func g) u h e (has-right (out-Signature g).params (out-Signature g).results u k))

  starred_made : (star : Bool) (u : Term) → G u → G (starred star u)
  starred_made false u h = h
  starred_made true u h = pointer_made N Q M u h

  named_fields : (u : Term) (tag : Option (List ℕ)) (ns : List Name) (fs : List Field) → G u → Each (FieldMade N Q M) fs → Each (FieldMade N Q M) (map (field_of E false u tag) ns ++ fs)
  named_fields u tag [] fs h k = k
  named_fields u tag (n ∷ ns) fs h k = (field_made N Q M (selector_of E n.text) false u (tag_of tag) (w.own_field n.text) h, named_fields u tag ns fs h k)

  within : (u : Term) (ns : List Method) → G u → under E.table u ≡ Term-F.Interface ns → Each (MethodMade N Q M) ns
  within u ns h e = let v = operands.beneath N Q M I E w u (Term-F.Interface ns) h e in methods_within N Q M v.0 ns v.1 (sym v.2)

  mutual
    pub has_made : {e : Expr} {o : Operand} → Has E e o → O o
    has_made (has_operand a s) = form_made a

    form_made : {l : ExprLayer} {o : Operand} → HasForm E l o → O o
    form_made has_int = tt
    form_made has_rune = tt
    form_made (has_string i) = tt
    form_made (has_name d) = operands.denotes_made N Q M I E w d
    form_made (has_paren a) = has_made a
    form_made (has_type a) = type_made a
    form_made (has_receive_type {u = u} a) = rolled N Q M (Term-F.Chan direction.ReceiveOnly u) tt (one N Q M u (type_made a))
    form_made (has_function a) = form_of_signature a
    form_made (has_composite a x) = type_made a
    form_made (has_composite_array {u = u} {n = k} a x) = rolled N Q M (Term-F.Array k u) tt (one N Q M u (type_made a))
    form_made (has_dereference {t = t} {u = u} a i e) = element t (Term-F.Pointer u) u (typed (has_made a) i) e (inl refl)
    form_made (has_pointer_type {t = t} a) = pointer_made N Q M t (has_made a)
    form_made (has_address {t = t} a) = pointer_made N Q M t (has_made a)
    form_made (has_literal_address {t = t} i a) = pointer_made N Q M t (has_made a)
    form_made (has_receive {t = t} {u = u} {d = d} a i e r) = element t (Term-F.Chan d u) u (typed (has_made a) i) e (inl refl)
    form_made (has_constant_prefix p a k e) = has_made a
    form_made (has_prefix {c = c} p a b i k j) = operands.computed_made N Q M I c (operands.of_made N Q M I (has_made a) i)
    form_made (has_or a c) = logical_made c (has_made a)
    form_made (has_and a c) = logical_made c (has_made a)
    form_made (has_compare a c) = comparisons_made c (has_made a)
    form_made (has_sum a c) = sums_made c (has_made a)
    form_made (has_product a c) = products_made c (has_made a)
    form_made (has_primary a c) = posts_made c (has_made a)
    form_made (has_imported e i d s p) = posts_made p (operands.imported_made N Q M I E w d)

    logical_made : {op : BinaryOp} {o r : Operand} {es : List Expr} → HasLogical E op o es r → O o → O r
    logical_made logical_none i = i
    logical_made (logical_more a c x) i = logical_made x (operands.computes_made N Q M I E w i (has_made a) c)

    comparisons_made : {o r : Operand} {ops : List CompareOp} {es : List Expr} → HasComparisons E o ops es r → O o → O r
    comparisons_made comparisons_none i = i
    comparisons_made (comparisons_more a c x) i = comparisons_made x (operands.comparison_made N Q M I E w c)

    sums_made : {o r : Operand} {ops : List SumOperator} {es : List Expr} → HasSum E o ops es r → O o → O r
    sums_made sum_none i = i
    sums_made (sum_more a c x) i = sums_made x (operands.computes_made N Q M I E w i (has_made a) c)

    products_made : {o r : Operand} {ops : List ProductOperator} {es : List Expr} → HasProduct E o ops es r → O o → O r
    products_made product_none i = i
    products_made (product_more {o = o} {q = q} {r = r} {op = op} a c x) i = products_made x (operands.product_made N Q M I E w (product_operator op) o q r i (has_made a) c)

    posts_made : {o r : Operand} {xs : List Post} → HasPosts E o xs r → O o → O r
    posts_made posts_none i = i
    posts_made (posts_more a s x) i = posts_made x (post_made a i)

    post_made : {o r : Operand} {l : PostLayer} → HasPost E o l r → O o → O r
    post_made (post_field b k f) i = operands.found_made N Q M I E w (typed i k) f
    post_made (post_method b k m) i = operands.method_made N Q M I E w (typed i k) m
    post_made (post_method_expression {t = t} {g = g} b m) i =
        let h = operands.method_made N Q M I E w i m in
        signature_made N Q M (t ∷ (out-Signature g).params) (out-Signature g).results (out-Signature g).variadic (i, parameters_of N Q M g h) (results_of_function N Q M g h)
    post_made (post_assertion k e a m) i = type_made a
    post_made (post_array {t = t} {e = u} {n = n} k e a x b) i = element t (Term-F.Array n u) u (typed i k) e (inl refl)
    post_made (post_array_pointer {t = t} {base = base} {e = u} {n = n} k e d a x b) i = element base (Term-F.Array n u) u (element t (Term-F.Pointer base) base (typed i k) e (inl refl)) d (inl refl)
    post_made (post_slice_index {t = t} {e = u} k e a x) i = element t (Term-F.Slice u) u (typed i k) e (inl refl)
    post_made (post_string n a x b) i = basic_made N Q M basic.Uint8
    post_made (post_map {t = t} {k = key} {e = u} k e a x) i = element t (Term-F.Map key u) u (typed i k) e (inr (inl refl))
    post_made (post_slice n a b x) i = operands.sliced_made N Q M I E w i n
    post_made (post_full_slice n a b c x) i = operands.sliced_made N Q M I E w i n
    post_made (post_conversion c a v) i = operands.converts_made N Q M I E w i v
    post_made (post_call {t = t} {g = g} c k e a x) i = operands.results_made N Q M I (out-Signature g).results (results_in t g (typed i k) e)
    post_made (post_builtin c b) i = builtin_made b

    builtin_made : {f : Predeclared} {es : List Expr} {dots : Bool} {r : Operand} → HasBuiltin E f es dots r → O r
    builtin_made (append_elements a i e x k) = typed (has_made a) i
    builtin_made (append_slice a i e b k) = typed (has_made a) i
    builtin_made (append_string a i e b k) = typed (has_made a) i
    builtin_made (len_string a i n) = basic_made N Q M basic.Int
    builtin_made (array_constant m a i y n k) = basic_made N Q M basic.Int
    builtin_made (array_value m a i y n) = basic_made N Q M basic.Int
    builtin_made (measure a c i m) = basic_made N Q M basic.Int
    builtin_made (close a i e s) = tt
    builtin_made (copy_slice a i e b j d) = basic_made N Q M basic.Int
    builtin_made (copy_string a i e b k) = basic_made N Q M basic.Int
    builtin_made (delete a i e b x) = tt
    builtin_made (make a x k s) = has_made a
    builtin_made (new {t = t} a) = pointer_made N Q M t (has_made a)
    builtin_made (panic a u) = tt
    builtin_made (print i x k) = tt
    builtin_made recover = any_made N Q M

    pub type_made : {t : Typ} {u : Term} → OfType E t u → G u
    type_made (of_type a s) = of_form_made a

    of_form_made : {l : TypeLayer} {u : Term} → OfForm E l u → G u
    of_form_made (of_name {q = q} {u = u} a) = operands.type_name_made N Q M I E w q u a
    of_form_made (of_paren a) = type_made a
    of_form_made (of_pointer {u = u} a) = pointer_made N Q M u (type_made a)
    of_form_made (of_slice {u = u} a) = slice_made N Q M u (type_made a)
    of_form_made (of_array {u = u} {n = k} x r a) = rolled N Q M (Term-F.Array k u) tt (one N Q M u (type_made a))
    of_form_made (of_map {u = u} {v = v} a b) = rolled N Q M (Term-F.Map u v) tt (two N Q M u v (type_made a) (type_made b))
    of_form_made (of_channel {u = u} a) = rolled N Q M (Term-F.Chan direction.Both u) tt (one N Q M u (type_made a))
    of_form_made (of_send_channel {u = u} a) = rolled N Q M (Term-F.Chan direction.SendOnly u) tt (one N Q M u (type_made a))
    of_form_made (of_receive_channel {u = u} a) = rolled N Q M (Term-F.Chan direction.ReceiveOnly u) tt (one N Q M u (type_made a))
    of_form_made (of_function a) = form_of_signature a
    of_form_made (of_struct {fs = fs} x) = struct_made N Q M fs (fields_made x)
    of_form_made (of_interface ms all x s i j) = let k = methods_made x in interface_made N Q M ms (each_made ms (λ m q. each_has (MethodMade N Q M) all m k (i m q)))

    pub form_of_signature : {ds : List ParameterDecl} {r : Option FuncResult} {g : Signature} → OfSignature E ds r g → G (function_type g)
    form_of_signature (signature_alone {ts = ts} {variadic = v} a) = signature_made N Q M ts [] v (parameters_made a) tt
    form_of_signature (signature_result {ts = ts} {us = us} {variadic = v} a b) = signature_made N Q M ts us v (parameters_made a) (result_made b)

    parameters_made : {ds : List ParameterDecl} {ts : List Term} {v : Bool} → OfParameters E ds ts v → Each G ts
    parameters_made parameters_none = tt
    parameters_made (parameters_more {d = d} {u = u} {us = us} f a x) = each_both G (for_names (out-ParameterDecl d).names u) us (for_names_made N Q M (out-ParameterDecl d).names u (type_made a)) (parameters_made x)
    parameters_made (parameters_variadic {u = u} f l a) = (slice_made N Q M u (type_made a), tt)

    result_made : {l : ResultLayer} {ts : List Term} → OfResult E l ts → Each G ts
    result_made (result_parameters x) = parameters_made x
    result_made (result_type a) = (type_made a, tt)

    fields_made : {ds : List FieldDecl} {fs : List Field} → OfFields E ds fs → Each (FieldMade N Q M) fs
    fields_made fields_none = tt
    fields_made (fields_named {ns = ns} {tag = tag} {u = u} {fs = fs} e a x) = named_fields u tag ns fs (type_made a) (fields_made x)
    fields_made (fields_embedded {star = star} {q = q} {tag = tag} u e a x) =
        (field_made N Q M (selector_of E q.name.text) true (starred star u) (tag_of tag) (w.own_field q.name.text) (starred_made star u (operands.type_name_made N Q M I E w q u a)), fields_made x)

    methods_made : {xs : List InterfaceElem} {ms : List Method} → OfMethods E xs ms → Each (MethodMade N Q M) ms
    methods_made methods_none = tt
    methods_made (methods_method {n = name} {h = k} e a r) = let f = form_of_signature a in (method_made N Q M (selector_of E name.text) k (w.own_method name.text k f) f, methods_made r)
    methods_made (methods_embedded {q = q} u {ns = ns} {ms = ms} e a d r) = each_both (MethodMade N Q M) ns ms (within u ns (operands.type_name_made N Q M I E w q u a) d) (methods_made r)
