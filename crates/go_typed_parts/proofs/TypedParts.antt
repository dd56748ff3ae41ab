-- Each part of a typed tree is typed, and a chain of posts has an operand up to each of them.
use Rattle.std.proofs.Common.{◌≡◌, ◌⊎◌, inl, inr, ℕ, Bool, List, [], ◌∷◌, ◌++◌, map, refl, sym, subst, Option, Some, None}
use Rattle.go_base.specs.declared.operator.CompareOp.{CompareOp}
use Rattle.go_base.specs.declared.operator.ProductOperator.{ProductOperator}
use Rattle.go_base.specs.declared.operator.SumOperator.{SumOperator}
use Rattle.go_base.specs.Lists.{Each}
use Rattle.go_model.specs.declared.constants.value.BinaryOp.{BinaryOp}
use Rattle.go_model.specs.declared.types.term.Field.{Field}
use Rattle.go_model.specs.declared.types.term.Method.{Method}
use Rattle.go_model.specs.declared.types.term.Signature.{Signature}
use Rattle.go_model.specs.declared.types.term.Term.{Term}
use Rattle.go_base.proofs.Members.{each_has}
use Rattle.go_rules.specs.Environments.{Env}
use Rattle.go_rules.specs.Expressions.{ElementFits, Has, HasArguments, HasBuiltin, HasComparisons, HasEach, HasElements, HasForm, HasIndexed, HasKeyed, HasLogical, HasOptional, HasPairs, HasPost, HasPosts, HasProduct, HasSizes, HasSum, HasUnkeyed, OfFields, OfForm, OfMethods, OfParameters, OfResult, OfSignature, OfType, append_elements, append_slice, append_string, arguments_each, arguments_tuple, array_constant, array_value, close, comparisons_more, comparisons_none, copy_slice, copy_string, delete, each_more, each_none, elements_array, elements_keyed, elements_map, elements_slice, elements_unkeyed, fields_embedded, fields_named, fields_none, fits_address, fits_literal, fits_value, has_address, has_and, has_compare, has_composite, has_composite_array, has_constant_prefix, has_dereference, has_function, has_imported, has_int, has_literal_address, has_name, has_operand, has_or, has_paren, has_pointer_type, has_prefix, has_primary, has_product, has_receive, has_receive_type, has_rune, has_string, has_sum, has_type, indexed_keyed, indexed_more, indexed_none, keyed_more, keyed_none, len_string, logical_more, logical_none, make, measure, methods_embedded, methods_method, methods_none, new, of_array, of_channel, of_function, of_interface, of_map, of_name, of_paren, of_pointer, of_receive_channel, of_send_channel, of_slice, of_struct, of_type, optional_none, optional_some, pairs_more, pairs_none, panic, parameters_more, parameters_none, parameters_variadic, post_array, post_array_pointer, post_assertion, post_builtin, post_call, post_conversion, post_field, post_full_slice, post_map, post_method, post_method_expression, post_slice, post_slice_index, post_string, posts_more, posts_none, print, product_more, product_none, recover, result_parameters, result_type, signature_alone, signature_result, sizes_more, sizes_none, sum_more, sum_none, unkeyed_more, unkeyed_none, HasFieldKey, field_key, IsCall, call, call_receive_type, chain}
use Rattle.go_rules.specs.Nodes.{Node, Stands, stands_here, stands_in, parts, elem_parts, field_parts, ExprLayer, PostLayer, TypeLayer, ResultLayer, expression, post, value, type, element_parts, expression_parts, fields_parts, elems_parts, optional, optional_result_parts, parameter_parts, post_parts, result_parts, type_parts, value_parts}
use Rattle.go_rules.specs.declared.operand.Operand.{Operand}
use Rattle.go_rules.specs.declared.predeclared.Predeclared.{Predeclared}
use Rattle.go_rules.proofs.LocalParts.{each_both}
use Rattle.go_syntax.specs.declared.expression.Element.{Element, out-Element}
use Rattle.go_syntax.specs.declared.expression.ElementValue.{ElementValue, out-ElementValue}
use Rattle.go_syntax.specs.declared.expression.Expr.{Expr, Expr-F, out-Expr}
use Rattle.go_syntax.specs.declared.expression.Expr.TheVariants as expr
use Rattle.go_syntax.specs.declared.expression.Expr.TheVariants.{outs-Type as expr_type}
use Rattle.go_syntax.specs.declared.expression.Post.{Post}
use Rattle.go_syntax.specs.declared.name.Name.{Name}
use Rattle.go_syntax.specs.declared.types.FieldDecl.{FieldDecl, out-FieldDecl}
use Rattle.go_syntax.specs.declared.types.FuncResult.{FuncResult, out-FuncResult}
use Rattle.go_syntax.specs.declared.types.InterfaceElem.{InterfaceElem, out-InterfaceElem}
use Rattle.go_syntax.specs.declared.types.ParameterDecl.{ParameterDecl}
use Rattle.go_syntax.specs.declared.types.«Type».{«Type» as Typ, «out-Type» as out-Typ}
use Rattle.go_syntax.specs.declared.types.«Type».TheVariants as typ
use Rattle.go_syntax.specs.declared.types.«Type».TheVariants.{outs-ReceiveChan as receive_type}
use Rattle.go_typed_parts.specs.TypedNodes.{IsTypedNode, typed_expression, bare_name, typed_post, bare_selector, typed_value, typed_key, bare_key, typed_type, typed_signature}

module _ (E : Env) where
  abbrev Typed : List Node → Type 0
  Typed bs = Each (IsTypedNode E) bs

  -- ---- chains of operators and posts

  each_parts : {es : List Expr} {os : List Operand} → HasEach E es os → Typed (map expression es)
  each_parts each_none = tt
  each_parts (each_more a x) = (typed_expression a, each_parts x)

  sizes_parts : {es : List Expr} {ns : List (Option ℕ)} → HasSizes E es ns → Typed (map expression es)
  sizes_parts sizes_none = tt
  sizes_parts (sizes_more a i x) = (typed_expression a, sizes_parts x)

  arguments_parts : {dots : Bool} {es : List Expr} {os : List Operand} → HasArguments E dots es os → Typed (map expression es)
  arguments_parts (arguments_each x) = each_parts x
  arguments_parts (arguments_tuple a) = (typed_expression a, tt)

  logical_parts : {op : BinaryOp} {o r : Operand} {es : List Expr} → HasLogical E op o es r → Typed (map expression es)
  logical_parts logical_none = tt
  logical_parts (logical_more a c x) = (typed_expression a, logical_parts x)

  comparisons_parts : {o r : Operand} {ops : List CompareOp} {es : List Expr} → HasComparisons E o ops es r → Typed (map expression es)
  comparisons_parts comparisons_none = tt
  comparisons_parts (comparisons_more a c x) = (typed_expression a, comparisons_parts x)

  sums_parts : {o r : Operand} {ops : List SumOperator} {es : List Expr} → HasSum E o ops es r → Typed (map expression es)
  sums_parts sum_none = tt
  sums_parts (sum_more a c x) = (typed_expression a, sums_parts x)

  products_parts : {o r : Operand} {ops : List ProductOperator} {es : List Expr} → HasProduct E o ops es r → Typed (map expression es)
  products_parts product_none = tt
  products_parts (product_more a c x) = (typed_expression a, products_parts x)

  posts_parts : {o r : Operand} {xs : List Post} → HasPosts E o xs r → Typed (map post xs)
  posts_parts posts_none = tt
  posts_parts (posts_more a s x) = (typed_post a, posts_parts x)

  optional_parts : {e : Option Expr} {c : Option ℕ} → HasOptional E e c → Typed (optional expression e)
  optional_parts optional_none = tt
  optional_parts (optional_some a i) = (typed_expression a, tt)

  -- ---- elements of composite literals

  keyless : (x : Element) → (out-Element x).key ≡ None → Typed (optional value (out-Element x).key)
  keyless x e = subst (λ k. Typed (optional value k)) (sym e) tt

  keyed : (x : Element) (v : ElementValue) → (out-Element x).key ≡ Some v → IsTypedNode E (value v) → Typed (optional value (out-Element x).key)
  keyed x v e h = subst (λ k. Typed (optional value k)) (sym e) (h, tt)

  element : (x : Element) (xs : List Element) → Typed (optional value (out-Element x).key) → IsTypedNode E (value (out-Element x).value) → Typed (element_parts xs) → Typed (element_parts (x ∷ xs))
  element x xs h k l = each_both (IsTypedNode E) (optional value (out-Element x).key) (value (out-Element x).value ∷ element_parts xs) h (k, l)

  field_key_part : (x : Element) (n : Name) → HasFieldKey x n → Typed (optional value (out-Element x).key)
  field_key_part x n (field_key {v = v} i e f) = keyed x v i (bare_key e f)

  keyed_parts : {fs : List Field} {xs : List Element} {ns : List (List ℕ)} → HasKeyed E fs xs ns → Typed (element_parts xs)
  keyed_parts keyed_none = tt
  keyed_parts (keyed_more {x = x} {xs = xs} {n = n} f i b j s v a u r) = element x xs (field_key_part x n i) (typed_key v a) (keyed_parts r)

  unkeyed_parts : {fs : List Field} {xs : List Element} → HasUnkeyed E fs xs → Typed (element_parts xs)
  unkeyed_parts unkeyed_none = tt
  unkeyed_parts (unkeyed_more {x = x} {xs = xs} i v a u s r) = element x xs (keyless x i) (typed_key v a) (unkeyed_parts r)

  indexed_parts : {t : Term} {l : Option ℕ} {next n : ℕ} {xs : List Element} → HasIndexed E t l next xs n → Typed (element_parts xs)
  indexed_parts indexed_none = tt
  indexed_parts (indexed_more {x = x} {xs = xs} i r b f s) = element x xs (keyless x i) (typed_value f) (indexed_parts s)
  indexed_parts (indexed_keyed {x = x} {xs = xs} {v = v} i e a j b f s) = element x xs (keyed x v i (typed_key e a)) (typed_value f) (indexed_parts s)

  pairs_parts : {key t : Term} {xs : List Element} → HasPairs E key t xs → Typed (element_parts xs)
  pairs_parts pairs_none = tt
  pairs_parts (pairs_more {x = x} {xs = xs} {v = v} i f g s) = element x xs (keyed x v i (typed_value f)) (typed_value g) (pairs_parts s)

  elements_parts : {t : Term} {xs : List Element} → HasElements E t xs → Typed (element_parts xs)
  elements_parts (elements_keyed e x o) = keyed_parts x
  elements_parts (elements_unkeyed e n p x) = unkeyed_parts x
  elements_parts (elements_array e x) = indexed_parts x
  elements_parts (elements_slice e x) = indexed_parts x
  elements_parts (elements_map e x) = pairs_parts x

  -- ---- expressions

  form_parts : {l : ExprLayer} {o : Operand} → HasForm E l o → Typed (expression_parts l)
  form_parts has_int = tt
  form_parts has_rune = tt
  form_parts (has_string i) = tt
  form_parts (has_name d) = tt
  form_parts (has_paren a) = (typed_expression a, tt)
  form_parts (has_type a) = (typed_type a, tt)
  form_parts (has_receive_type a) = (typed_type a, tt)
  form_parts (has_function a) = (typed_signature a, tt)
  form_parts (has_composite a x) = (typed_type a, elements_parts x)
  form_parts (has_composite_array a x) = (typed_type a, indexed_parts x)
  form_parts (has_dereference a i e) = (typed_expression a, tt)
  form_parts (has_pointer_type a) = (typed_expression a, tt)
  form_parts (has_address a) = (typed_expression a, tt)
  form_parts (has_literal_address i a) = (typed_expression a, tt)
  form_parts (has_receive a i e r) = (typed_expression a, tt)
  form_parts (has_constant_prefix p a k e) = (typed_expression a, tt)
  form_parts (has_prefix p a b i k j) = (typed_expression a, tt)
  form_parts (has_or a c) = (typed_expression a, logical_parts c)
  form_parts (has_and a c) = (typed_expression a, logical_parts c)
  form_parts (has_compare a c) = (typed_expression a, comparisons_parts c)
  form_parts (has_sum a c) = (typed_expression a, sums_parts c)
  form_parts (has_product a c) = (typed_expression a, products_parts c)
  form_parts (has_primary a c) = (typed_expression a, posts_parts c)
  form_parts (has_imported e i d s p) = (bare_name e, (bare_selector i, posts_parts p))

  open_has : {e : Expr} {o : Operand} → Has E e o → HasForm E (out-Expr e) o
  open_has (has_operand a s) = a

  -- ---- type forms

  parameters_parts : {ds : List ParameterDecl} {ts : List Term} {v : Bool} → OfParameters E ds ts v → Typed (parameter_parts ds)
  parameters_parts parameters_none = tt
  parameters_parts (parameters_more f a x) = (typed_type a, parameters_parts x)
  parameters_parts (parameters_variadic f l a) = (typed_type a, tt)

  results_parts : {l : ResultLayer} {ts : List Term} → OfResult E l ts → Typed (result_parts l)
  results_parts (result_parameters x) = parameters_parts x
  results_parts (result_type a) = (typed_type a, tt)

  signature_typed : {ds : List ParameterDecl} {r : Option FuncResult} {h : Signature} → OfSignature E ds r h → Typed (parameter_parts ds ++ optional_result_parts r)
  signature_typed (signature_alone {ds = ds} a) = each_both (IsTypedNode E) (parameter_parts ds) [] (parameters_parts a) tt
  signature_typed (signature_result {ds = ds} {r = r} a b) = each_both (IsTypedNode E) (parameter_parts ds) (result_parts (out-FuncResult r)) (parameters_parts a) (results_parts b)

  fields_typed : {ds : List FieldDecl} {fs : List Field} → OfFields E ds fs → Typed (fields_parts ds)
  fields_typed fields_none = tt
  fields_typed (fields_named {d = d} {ds = ds} e a x) = each_both (IsTypedNode E) (field_parts (out-FieldDecl d)) (fields_parts ds) (subst (λ l. Typed (field_parts l)) (sym e) (typed_type a, tt)) (fields_typed x)
  fields_typed (fields_embedded {d = d} {ds = ds} u e a x) = each_both (IsTypedNode E) (field_parts (out-FieldDecl d)) (fields_parts ds) (subst (λ l. Typed (field_parts l)) (sym e) tt) (fields_typed x)

  methods_typed : {xs : List InterfaceElem} {ms : List Method} → OfMethods E xs ms → Typed (elems_parts xs)
  methods_typed methods_none = tt
  methods_typed (methods_method {x = x} {xs = xs} e a r) = each_both (IsTypedNode E) (elem_parts (out-InterfaceElem x)) (elems_parts xs) (subst (λ l. Typed (elem_parts l)) (sym e) (typed_signature a, tt)) (methods_typed r)
  methods_typed (methods_embedded {x = x} {xs = xs} u e a d r) = each_both (IsTypedNode E) (elem_parts (out-InterfaceElem x)) (elems_parts xs) (subst (λ l. Typed (elem_parts l)) (sym e) tt) (methods_typed r)

  type_form_parts : {l : TypeLayer} {u : Term} → OfForm E l u → Typed (type_parts l)
  type_form_parts (of_name a) = tt
  type_form_parts (of_paren a) = (typed_type a, tt)
  type_form_parts (of_pointer a) = (typed_type a, tt)
  type_form_parts (of_slice a) = (typed_type a, tt)
  type_form_parts (of_array x r a) = (typed_expression x, (typed_type a, tt))
  type_form_parts (of_map a b) = (typed_type a, (typed_type b, tt))
  type_form_parts (of_channel a) = (typed_type a, tt)
  type_form_parts (of_send_channel a) = (typed_type a, tt)
  type_form_parts (of_receive_channel a) = (typed_type a, tt)
  type_form_parts (of_function a) = (typed_signature a, tt)
  type_form_parts (of_struct x) = fields_typed x
  type_form_parts (of_interface ms all x s i j) = methods_typed x

  open_type : {t : Typ} {u : Term} → OfType E t u → OfForm E (out-Typ t) u
  open_type (of_type a s) = a

  -- ---- posts

  builtin_parts : {f : Predeclared} {es : List Expr} {dots : Bool} {r : Operand} → HasBuiltin E f es dots r → Typed (map expression es)
  builtin_parts (append_elements a i e x k) = (typed_expression a, each_parts x)
  builtin_parts (append_slice a i e b k) = (typed_expression a, (typed_expression b, tt))
  builtin_parts (append_string a i e b k) = (typed_expression a, (typed_expression b, tt))
  builtin_parts (len_string a i n) = (typed_expression a, tt)
  builtin_parts (array_constant m a i y n k) = (typed_expression a, tt)
  builtin_parts (array_value m a i y n) = (typed_expression a, tt)
  builtin_parts (measure a c i m) = (typed_expression a, tt)
  builtin_parts (close a i e s) = (typed_expression a, tt)
  builtin_parts (copy_slice a i e b j d) = (typed_expression a, (typed_expression b, tt))
  builtin_parts (copy_string a i e b k) = (typed_expression a, (typed_expression b, tt))
  builtin_parts (delete a i e b x) = (typed_expression a, (typed_expression b, tt))
  builtin_parts (make a x k s) = (typed_expression a, sizes_parts x)
  builtin_parts (new a) = (typed_expression a, tt)
  builtin_parts (panic a u) = (typed_expression a, tt)
  builtin_parts (print i x k) = each_parts x
  builtin_parts recover = tt

  -- the type of a call that begins with `<-chan`
  in_type : (t : Typ) → IsTypedNode E (type (typ.ReceiveChan t)) → IsTypedNode E (type t)
  in_type t (typed_type a) = (subst (λ l. Typed (type_parts l)) (receive_type t) (type_form_parts (open_type a))).0

  no_name : (t : Typ) (n : Name) → out-Expr (expr.Type t) ≡ Expr-F.Name n → ⊥
  no_name t n e = let f = expr_type t in absurd (cc)

  receive_part : (t : Typ) → IsTypedNode E (expression (expr.Type (typ.ReceiveChan t))) → IsTypedNode E (type t)
  receive_part t (typed_expression a) = in_type t (subst (λ l. Typed (expression_parts l)) (expr_type (typ.ReceiveChan t)) (form_parts (open_has a))).0
  receive_part t (bare_name {n = n} e) = absurd (no_name (typ.ReceiveChan t) n e)

  call_parts : {l : PostLayer} {es : List Expr} {dots : Bool} → IsCall l es dots → Typed (map expression es) → Typed (post_parts l)
  call_parts call h = h
  call_parts (call_receive_type {t = t}) h = (receive_part t h.0, h.1)

  post_typed : {o r : Operand} {l : PostLayer} → HasPost E o l r → Typed (post_parts l)
  post_typed (post_field b k f) = tt
  post_typed (post_method b k m) = tt
  post_typed (post_method_expression b m) = tt
  post_typed (post_assertion k e a m) = (typed_type a, tt)
  post_typed (post_array k e a x b) = (typed_expression a, tt)
  post_typed (post_array_pointer k e d a x b) = (typed_expression a, tt)
  post_typed (post_slice_index k e a x) = (typed_expression a, tt)
  post_typed (post_string n a x b) = (typed_expression a, tt)
  post_typed (post_map k e a x) = (typed_expression a, tt)
  post_typed (post_slice {low = low} {high = high} n a b x) = each_both (IsTypedNode E) (optional expression low) (optional expression high) (optional_parts a) (optional_parts b)
  post_typed (post_full_slice {low = low} {high = high} {bound = bound} n a b c x) = each_both (IsTypedNode E) (optional expression low) (expression high ∷ expression bound ∷ []) (optional_parts a) ((optional_parts b).0, ((optional_parts c).0, tt))
  post_typed (post_conversion c a v) = call_parts c (typed_expression a, tt)
  post_typed (post_call c k e a x) = call_parts c (arguments_parts a)
  post_typed (post_builtin c b) = call_parts c (builtin_parts b)

  -- ---- values of literals, and all nodes

  fits_parts : {t : Term} {v : ElementValue} → ElementFits E t v → Typed (value_parts (out-ElementValue v))
  fits_parts (fits_value e a u) = subst (λ l. Typed (value_parts l)) (sym e) (typed_expression a, tt)
  fits_parts (fits_literal e x) = subst (λ l. Typed (value_parts l)) (sym e) (elements_parts x)
  fits_parts (fits_address e d x) = subst (λ l. Typed (value_parts l)) (sym e) (elements_parts x)

  -- the parts of a typed tree
  pub typed_parts : {a : Node} → IsTypedNode E a → Typed (parts a)
  typed_parts (typed_expression a) = form_parts (open_has a)
  typed_parts (bare_name e) = subst (λ l. Typed (expression_parts l)) (sym e) tt
  typed_parts (typed_post a) = post_typed a
  typed_parts (bare_selector e) = subst (λ l. Typed (post_parts l)) (sym e) tt
  typed_parts (typed_value f) = fits_parts f
  typed_parts (typed_key e a) = subst (λ l. Typed (value_parts l)) (sym e) (typed_expression a, tt)
  typed_parts (bare_key e f) = subst (λ l. Typed (value_parts l)) (sym e) (bare_name f, tt)
  typed_parts (typed_type a) = type_form_parts (open_type a)
  typed_parts (typed_signature a) = signature_typed a

  -- what stands in a typed tree is typed
  pub typed_within : {a b : Node} → Stands a b → IsTypedNode E a → IsTypedNode E b
  typed_within stands_here h = h
  typed_within (stands_in {a = a} {b = b} k s) h = typed_within s (each_has (IsTypedNode E) (parts a) b (typed_parts h) k)

  -- ---- chains

  posts_before : (xs ys : List Post) (o r : Operand) → HasPosts E o (xs ++ ys) r → (q : Operand) × HasPosts E o xs q
  posts_before [] ys o r h = (o, posts_none)
  posts_before (x ∷ xs) ys o r (posts_more {q = q} a s h) = let k = posts_before xs ys q r h in (k.0, posts_more a s k.1)

  -- a chain up to a post has an operand, but for the name of an import
  pub chain_typed : (e : Expr) {x : Expr} {o : Operand} (before : List Post) (p : Post) (after : List Post) → HasForm E (out-Expr e) o → out-Expr e ≡ Expr-F.Primary x (before ++ p ∷ after)
      → ((q : Operand) × HasForm E (chain x before) q) ⊎ ((before ≡ []) × ((n : Name) × (out-Expr x ≡ Expr-F.Name n)))
  chain_typed f {x = x} {o = o} before p after h e = by before (subst (λ l. HasForm E l o) e h)
    where
      by : (before : List Post) → HasForm E (Expr-F.Primary x (before ++ p ∷ after)) o → ((q : Operand) × HasForm E (chain x before) q) ⊎ ((before ≡ []) × ((n : Name) × (out-Expr x ≡ Expr-F.Name n)))
      by [] (has_primary {o = q} a c) = inl (q, open_has a)
      by [] (has_imported {q = n} i j d s c) = inr (refl, (n, i))
      by (y ∷ ys) (has_primary {o = q} {r = r} a c) = let k = posts_before (y ∷ ys) (p ∷ after) q r c in inl (k.0, has_primary a k.1)
      by (y ∷ ys) (has_imported {o = q} {r = r} i j d s c) = let k = posts_before ys (p ∷ after) q r c in inl (k.0, has_imported i j d s k.1)
