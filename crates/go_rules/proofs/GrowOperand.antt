-- Among more entries an expression is the operand that it was, and a type form stands for the type that it stood for.
use Rattle.std.proofs.Common.{◌≡◌, ℕ, length, Bool, true, List, Option, refl}
use Rattle.go_syntax.specs.go_base.declared.operator.CompareOp.{CompareOp}
use Rattle.go_syntax.specs.go_base.declared.operator.ProductOperator.{ProductOperator}
use Rattle.go_syntax.specs.go_base.declared.operator.SumOperator.{SumOperator}
use Rattle.go_model.specs.declared.constants.value.Basic.TheVariants as basic
use Rattle.go_model.specs.declared.constants.value.BinaryOp.{BinaryOp}
use Rattle.go_model.specs.declared.types.term.Field.{Field}
use Rattle.go_model.specs.declared.types.term.Method.{Method}
use Rattle.go_model.specs.declared.types.term.Signature.{Signature}
use Rattle.go_model.specs.declared.types.term.Term.{Term, Term-F}
use Rattle.go_model.specs.types.Terms.{Layer}
use Rattle.go_model.specs.types.Underlying.{under}
use Rattle.go_rules.specs.Environments.{Env}
use Rattle.go_rules.specs.Expressions.{Has, has_operand, HasForm, has_int, has_rune, has_string, has_name, has_paren, has_type, has_receive_type, has_function, has_composite, has_composite_array, has_dereference, has_pointer_type, has_address, has_literal_address, has_receive, has_constant_prefix, has_prefix, has_or, has_and, has_compare, has_sum, has_product, has_primary, has_imported, HasLogical, logical_none, logical_more, HasComparisons, comparisons_none, comparisons_more, HasSum, sum_none, sum_more, HasProduct, product_none, product_more, HasPosts, posts_none, posts_more, HasPost, post_field, post_method, post_method_expression, post_assertion, post_array, post_array_pointer, post_slice_index, post_string, post_map, post_slice, post_full_slice, post_conversion, post_call, post_builtin, HasIndexed, indexed_none, indexed_more, indexed_keyed, HasBuiltin, append_elements, append_slice, append_string, len_string, array_constant, array_value, measure, close, copy_slice, copy_string, delete, make, new, panic, print, recover, HasEach, each_none, each_more, HasSizes, sizes_none, sizes_more, HasOptional, optional_none, optional_some, HasKeyed, keyed_none, keyed_more, HoldsNone, holds_none, IsQuietCall, quiet_conversion, quiet_constant, HoldsOne, holds_receive, holds_call, OfType, of_type, OfForm, of_name, of_paren, of_pointer, of_slice, of_array, of_map, of_channel, of_send_channel, of_receive_channel, of_function, of_struct, of_interface, OfSignature, signature_alone, signature_result, OfParameters, parameters_none, parameters_more, parameters_variadic, OfResult, result_parameters, result_type, OfFields, fields_none, fields_named, fields_embedded, OfMethods, methods_none, methods_method, methods_embedded, HasArguments, arguments_each, arguments_tuple, HasElements, elements_keyed, elements_unkeyed, elements_array, elements_slice, elements_map, HasUnkeyed, unkeyed_none, unkeyed_more, HasPairs, pairs_none, pairs_more, ElementFits, fits_value, fits_literal, fits_address, product_operator}
use Rattle.go_rules.specs.Growth.{Grows}
use Rattle.go_rules.specs.Nodes.{ExprLayer, PostLayer, TypeLayer, ResultLayer}
use Rattle.go_rules.specs.Operands.{basic_term}
use Rattle.go_rules.specs.Usability.{UsableAs}
use Rattle.go_rules.specs.declared.operand.Operand.{Operand}
use Rattle.go_rules.specs.declared.predeclared.Predeclared.{Predeclared}
use Rattle.go_rules.proofs.GrowRelations.{kind_more, struct_permitted, usable_more}
use Rattle.go_rules.proofs.GrowResults.{array_more, comparison_more, computes_more, converts_more, denotes_more, each_of, fit_more, holds_more, imported_more, index_more, makes_more, measures_more, printed_more, product_more as of_product, slices_more, string_more, type_name_more}
use Rattle.go_rules.proofs.GrowTypes.{joined, is_form, entered_more, form_more, found_more, method_more}
use Rattle.go_syntax.specs.declared.expression.Element.{Element}
use Rattle.go_syntax.specs.declared.expression.ElementValue.{ElementValue}
use Rattle.go_syntax.specs.declared.expression.Expr.{Expr}
use Rattle.go_syntax.specs.declared.expression.Post.{Post}
use Rattle.go_syntax.specs.declared.types.FieldDecl.{FieldDecl}
use Rattle.go_syntax.specs.declared.types.FuncResult.{FuncResult}
use Rattle.go_syntax.specs.declared.types.InterfaceElem.{InterfaceElem}
use Rattle.go_syntax.specs.declared.types.ParameterDecl.{ParameterDecl}
use Rattle.go_syntax.specs.declared.types.«Type».{«Type» as Typ}

module _ (E F : Env) (m : Grows E F) where
  abbrev G : Env
  G = joined E F

  form : (t : Term) (l : Layer) → is_form l ≡ true → under E.table t ≡ l → under F.table t ≡ l
  form t l h e = form_more E F m t l h e

  usable : {o : Operand} {t : Term} → UsableAs E o t → UsableAs G o t
  usable u = usable_more E F m u

  mutual
    pub has_more : {e : Expr} {x : Operand} → Has E e x → Has G e x
    has_more (has_operand a s) = has_operand (has_form_more a) s

    pub has_form_more : {l : ExprLayer} {x : Operand} → HasForm E l x → HasForm G l x
    has_form_more has_int = has_int
    has_form_more has_rune = has_rune
    has_form_more (has_string i) = has_string i
    has_form_more (has_name d) = has_name (denotes_more E F m d)
    has_form_more (has_paren a) = has_paren (has_more a)
    has_form_more (has_type a) = has_type (type_more a)
    has_form_more (has_receive_type a) = has_receive_type (type_more a)
    has_form_more (has_function a) = has_function (signature_more a)
    has_form_more (has_composite a x) = has_composite (type_more a) (elements_more x)
    has_form_more (has_composite_array a x) = has_composite_array (type_more a) (all_indexed x)
    has_form_more (has_dereference {t = t} {u = u} a h e) = has_dereference (has_more a) h (form t (Term-F.Pointer u) refl e)
    has_form_more (has_pointer_type a) = has_pointer_type (has_more a)
    has_form_more (has_address a) = has_address (has_more a)
    has_form_more (has_literal_address i a) = has_literal_address i (has_more a)
    has_form_more (has_receive {t = t} {u = u} {d = d} a h e r) = has_receive (has_more a) h (form t (Term-F.Chan d u) refl e) r
    has_form_more (has_constant_prefix f a k e) = has_constant_prefix f (has_more a) (kind_more E F m k) e
    has_form_more (has_prefix f a b h k i) = has_prefix f (has_more a) b h (kind_more E F m k) i
    has_form_more (has_or a c) = has_or (has_more a) (all_logical c)
    has_form_more (has_and a c) = has_and (has_more a) (all_logical c)
    has_form_more (has_compare a c) = has_compare (has_more a) (all_comparisons c)
    has_form_more (has_sum a c) = has_sum (has_more a) (all_sums c)
    has_form_more (has_product a c) = has_product (has_more a) (all_products c)
    has_form_more (has_primary a c) = has_primary (has_more a) (all_posts c)
    has_form_more (has_imported e f d s p) = has_imported e f (imported_more E F m d) s (all_posts p)

    pub all_logical : {op : BinaryOp} {o r : Operand} {es : List Expr} → HasLogical E op o es r → HasLogical G op o es r
    all_logical logical_none = logical_none
    all_logical (logical_more a c x) = logical_more (has_more a) (computes_more E F m c) (all_logical x)

    pub all_comparisons : {o r : Operand} {ops : List CompareOp} {es : List Expr} → HasComparisons E o ops es r → HasComparisons G o ops es r
    all_comparisons comparisons_none = comparisons_none
    all_comparisons (comparisons_more a c x) = comparisons_more (has_more a) (comparison_more E F m c) (all_comparisons x)

    pub all_sums : {o r : Operand} {ops : List SumOperator} {es : List Expr} → HasSum E o ops es r → HasSum G o ops es r
    all_sums sum_none = sum_none
    all_sums (sum_more a c x) = sum_more (has_more a) (computes_more E F m c) (all_sums x)

    pub all_products : {o r : Operand} {ops : List ProductOperator} {es : List Expr} → HasProduct E o ops es r → HasProduct G o ops es r
    all_products product_none = product_none
    all_products (product_more {o = o} {q = q} {r = r} {op = op} a c x) = product_more (has_more a) (of_product E F m (product_operator op) o q r c) (all_products x)

    pub all_posts : {o r : Operand} {xs : List Post} → HasPosts E o xs r → HasPosts G o xs r
    all_posts posts_none = posts_none
    all_posts (posts_more a w x) = posts_more (post_more a) w (all_posts x)

    pub post_more : {o r : Operand} {l : PostLayer} → HasPost E o l r → HasPost G o l r
    post_more (post_field b h f) = post_field b h (found_more E F m f)
    post_more (post_method b h f) = post_method b h (method_more E F m f)
    post_more (post_method_expression b f) = post_method_expression b (method_more E F m f)
    post_more (post_assertion {t = t} {u = u} {ms = ms} h e a x) = post_assertion h (form t (Term-F.Interface ms) refl e) (type_more a) (holds_more E F m t u x)
    post_more (post_array {t = t} {e = u} {n = n} h e a i b) = post_array h (form t (Term-F.Array n u) refl e) (has_more a) (index_more E F m i) b
    post_more (post_array_pointer {t = t} {base = base} {e = u} {n = n} h e f a i b) = post_array_pointer h (form t (Term-F.Pointer base) refl e) (form base (Term-F.Array n u) refl f) (has_more a) (index_more E F m i) b
    post_more (post_slice_index {t = t} {e = u} h e a i) = post_slice_index h (form t (Term-F.Slice u) refl e) (has_more a) (index_more E F m i)
    post_more (post_string n a i b) = post_string (string_more E F m n) (has_more a) (index_more E F m i) b
    post_more (post_map {t = t} {k = k} {e = u} h e a f) = post_map h (form t (Term-F.Map k u) refl e) (has_more a) (usable f)
    post_more (post_slice n a b i) = post_slice (slices_more E F m n) (if_more a) (if_more b) i
    post_more (post_full_slice n a b c i) = post_full_slice (slices_more E F m n) (if_more a) (if_more b) (if_more c) i
    post_more (post_conversion c a v) = post_conversion c (has_more a) (converts_more E F m v)
    post_more (post_call {t = t} {g = g} c h e a f) = post_call c h (form t (Term-F.Func g) refl e) (arguments_more a) (fit_more E F m f)
    post_more (post_builtin c b) = post_builtin c (builtin_more b)

    pub if_more : {e : Option Expr} {c : Option ℕ} → HasOptional E e c → HasOptional G e c
    if_more optional_none = optional_none
    if_more (optional_some a i) = optional_some (has_more a) (index_more E F m i)

    pub all_more : {es : List Expr} {os : List Operand} → HasEach E es os → HasEach G es os
    all_more each_none = each_none
    all_more (each_more a x) = each_more (has_more a) (all_more x)

    pub arguments_more : {dots : Bool} {es : List Expr} {os : List Operand} → HasArguments E dots es os → HasArguments G dots es os
    arguments_more (arguments_each x) = arguments_each (all_more x)
    arguments_more (arguments_tuple a) = arguments_tuple (has_more a)

    pub elements_more : {t : Term} {xs : List Element} → HasElements E t xs → HasElements G t xs
    elements_more (elements_keyed {t = t} {fs = fs} e x o) = elements_keyed (form t (Term-F.Struct fs) refl e) (all_keyed x) o
    elements_more (elements_unkeyed {t = t} {fs = fs} e n p x) = elements_unkeyed (form t (Term-F.Struct fs) refl e) (entered_more E F m t n) (struct_permitted E F m t n p) (all_unkeyed x)
    elements_more (elements_array {t = t} {e = u} {n = n} e x) = elements_array (form t (Term-F.Array n u) refl e) (all_indexed x)
    elements_more (elements_slice {t = t} {e = u} e x) = elements_slice (form t (Term-F.Slice u) refl e) (all_indexed x)
    elements_more (elements_map {t = t} {k = k} {e = u} e x) = elements_map (form t (Term-F.Map k u) refl e) (all_pairs x)

    pub all_keyed : {fs : List Field} {xs : List Element} {ns : List (List ℕ)} → HasKeyed E fs xs ns → HasKeyed G fs xs ns
    all_keyed keyed_none = keyed_none
    all_keyed (keyed_more f h b i s v a u x) = keyed_more f h b i s v (has_more a) (usable u) (all_keyed x)

    pub all_unkeyed : {fs : List Field} {xs : List Element} → HasUnkeyed E fs xs → HasUnkeyed G fs xs
    all_unkeyed unkeyed_none = unkeyed_none
    all_unkeyed (unkeyed_more k v a u r x) = unkeyed_more k v (has_more a) (usable u) r (all_unkeyed x)

    pub all_indexed : {t : Term} {l : Option ℕ} {next n : ℕ} {xs : List Element} → HasIndexed E t l next xs n → HasIndexed G t l next xs n
    all_indexed indexed_none = indexed_none
    all_indexed (indexed_more k r b f x) = indexed_more k r b (element_more f) (all_indexed x)
    all_indexed (indexed_keyed k e a i b f x) = indexed_keyed k e (has_more a) (index_more E F m i) b (element_more f) (all_indexed x)

    pub all_pairs : {k t : Term} {xs : List Element} → HasPairs E k t xs → HasPairs G k t xs
    all_pairs pairs_none = pairs_none
    all_pairs (pairs_more k f g x) = pairs_more k (element_more f) (element_more g) (all_pairs x)

    pub element_more : {t : Term} {v : ElementValue} → ElementFits E t v → ElementFits G t v
    element_more (fits_value v a u) = fits_value v (has_more a) (usable u)
    element_more (fits_literal v x) = fits_literal v (elements_more x)
    element_more (fits_address {t = t} {base = base} v e x) = fits_address v (form t (Term-F.Pointer base) refl e) (elements_more x)

    pub builtin_more : {f : Predeclared} {es : List Expr} {dots : Bool} {r : Operand} → HasBuiltin E f es dots r → HasBuiltin G f es dots r
    builtin_more (append_elements {os = os} {t = t} {u = u} a h e x k) = append_elements (has_more a) h (form t (Term-F.Slice u) refl e) (all_more x) (each_of os (λ o i. usable i) k)
    builtin_more (append_slice {t = t} {u = u} a h e b k) = append_slice (has_more a) h (form t (Term-F.Slice u) refl e) (has_more b) (usable k)
    builtin_more (append_string {t = t} a h e b k) = append_string (has_more a) h (form t (Term-F.Slice (basic_term basic.Uint8)) refl e) (has_more b) (string_more E F m k)
    builtin_more (len_string a i n) = len_string (has_more a) (string_more E F m i) n
    builtin_more (array_constant f a h y n k) = array_constant f (has_more a) h (array_more E F m y) (none_more n) k
    builtin_more (array_value f a h y n) = array_value f (has_more a) h (array_more E F m y) (one_more n)
    builtin_more (measure {f = f} {t = t} a c h x) = measure (has_more a) c h (measures_more E F m f t x)
    builtin_more (close {t = t} {u = u} {d = d} a h e s) = close (has_more a) h (form t (Term-F.Chan d u) refl e) s
    builtin_more (copy_slice {t = t} {u = u} {v = v} a h e b g d) = copy_slice (has_more a) h (form t (Term-F.Slice v) refl e) (has_more b) g (form u (Term-F.Slice v) refl d)
    builtin_more (copy_string {t = t} a h e b s) = copy_string (has_more a) h (form t (Term-F.Slice (basic_term basic.Uint8)) refl e) (has_more b) (string_more E F m s)
    builtin_more (delete {t = t} {k = k} {u = u} a h e b f) = delete (has_more a) h (form t (Term-F.Map k u) refl e) (has_more b) (usable f)
    builtin_more (make {t = t} {ns = ns} a x k s) = make (has_more a) (all_sizes x) (makes_more E F m t (length ns) k) s
    builtin_more (new a) = new (has_more a)
    builtin_more (panic a u) = panic (has_more a) (usable u)
    builtin_more (print {os = os} f x k) = print f (all_more x) (each_of os (λ o i. printed_more E F m i) k)
    builtin_more recover = recover

    pub all_sizes : {es : List Expr} {ns : List (Option ℕ)} → HasSizes E es ns → HasSizes G es ns
    all_sizes sizes_none = sizes_none
    all_sizes (sizes_more a i x) = sizes_more (has_more a) (index_more E F m i) (all_sizes x)

    pub none_more : {e : Expr} → HoldsNone E e → HoldsNone G e
    none_more (holds_none f g) = holds_none f (λ y x before c s k. quiet_more (g y x before c s k))

    quiet_more : {x : Expr} {before : List Post} {c : Post} → IsQuietCall E x before c → IsQuietCall G x before c
    quiet_more (quiet_conversion a) = quiet_conversion (has_form_more a)
    quiet_more (quiet_constant a) = quiet_constant (has_form_more a)

    pub one_more : {e : Expr} → HoldsOne E e → HoldsOne G e
    one_more (holds_receive x s i) = holds_receive x s i
    one_more (holds_call y x before c s k a i b j) = holds_call y x before c s k (has_form_more a) i (has_form_more b) j

    pub type_more : {t : Typ} {u : Term} → OfType E t u → OfType G t u
    type_more (of_type a s) = of_type (of_form_more a) s

    pub of_form_more : {l : TypeLayer} {u : Term} → OfForm E l u → OfForm G l u
    of_form_more (of_name {q = q} {u = u} a) = of_name (type_name_more E F m q u a)
    of_form_more (of_paren a) = of_paren (type_more a)
    of_form_more (of_pointer a) = of_pointer (type_more a)
    of_form_more (of_slice a) = of_slice (type_more a)
    of_form_more (of_array h r a) = of_array (has_more h) r (type_more a)
    of_form_more (of_map a b) = of_map (type_more a) (type_more b)
    of_form_more (of_channel a) = of_channel (type_more a)
    of_form_more (of_send_channel a) = of_send_channel (type_more a)
    of_form_more (of_receive_channel a) = of_receive_channel (type_more a)
    of_form_more (of_function a) = of_function (signature_more a)
    of_form_more (of_struct x) = of_struct (fields_more x)
    of_form_more (of_interface ms all x s f g) = of_interface ms all (methods_more x) s f g

    pub signature_more : {ds : List ParameterDecl} {r : Option FuncResult} {g : Signature} → OfSignature E ds r g → OfSignature G ds r g
    signature_more (signature_alone a) = signature_alone (all_parameters a)
    signature_more (signature_result a b) = signature_result (all_parameters a) (result_more b)

    pub all_parameters : {ds : List ParameterDecl} {ts : List Term} {variadic : Bool} → OfParameters E ds ts variadic → OfParameters G ds ts variadic
    all_parameters parameters_none = parameters_none
    all_parameters (parameters_more f a x) = parameters_more f (type_more a) (all_parameters x)
    all_parameters (parameters_variadic f l a) = parameters_variadic f l (type_more a)

    pub result_more : {l : ResultLayer} {ts : List Term} → OfResult E l ts → OfResult G l ts
    result_more (result_parameters x) = result_parameters (all_parameters x)
    result_more (result_type a) = result_type (type_more a)

    pub fields_more : {ds : List FieldDecl} {fs : List Field} → OfFields E ds fs → OfFields G ds fs
    fields_more fields_none = fields_none
    fields_more (fields_named e a x) = fields_named e (type_more a) (fields_more x)
    fields_more (fields_embedded {q = q} u e a x) = fields_embedded u e (type_name_more E F m q u a) (fields_more x)

    pub methods_more : {xs : List InterfaceElem} {ms : List Method} → OfMethods E xs ms → OfMethods G xs ms
    methods_more methods_none = methods_none
    methods_more (methods_method e a x) = methods_method e (signature_more a) (methods_more x)
    methods_more (methods_embedded {q = q} u {ns = ns} e a r x) = methods_embedded u e (type_name_more E F m q u a) (form u (Term-F.Interface ns) refl r) (methods_more x)
