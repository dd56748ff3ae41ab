-- What an expression is, and which type a type form stands for, is kept, where the environment is, and the members of struct and
-- interface types are named well.
use Rattle.std.proofs.Common.{◌≡◌, ℕ, Bool, true, false, List, [], ◌∷◌, ◌++◌, Option, map, refl, sym, ap, ◌∙◌, subst, inl, inr}
use Rattle.std.proofs.lemmas.Slice.Eq.{bytes_eq-Decides}
use Rattle.go_base.proofs.Members.{each_has}
use Rattle.go_base.specs.declared.operator.CompareOp.{CompareOp}
use Rattle.go_base.specs.declared.operator.ProductOperator.{ProductOperator}
use Rattle.go_base.specs.declared.operator.SumOperator.{SumOperator}
use Rattle.go_base.specs.Lists.{Each, Has as In}
use Rattle.go_model.specs.declared.constants.value.Basic.TheVariants as basic
use Rattle.go_model.specs.declared.constants.value.BinaryOp.{BinaryOp}
use Rattle.go_model.specs.declared.types.names.Sel.{Sel}
use Rattle.go_model.specs.declared.types.names.TypeName.{TypeName}
use Rattle.go_model.specs.declared.types.term.Direction.TheVariants as direction
use Rattle.go_model.specs.declared.types.term.Field.{Field, out-roll-Field}
use Rattle.go_model.specs.declared.types.term.Method.{Method, roll-Method, out-roll-Method}
use Rattle.go_model.specs.declared.types.term.Signature.{Signature, out-Signature}
use Rattle.go_model.specs.declared.types.term.Term.{Term, Term-F}
use Rattle.go_model.specs.types.Members.{AreDistinct, field_sel}
use Rattle.go_model.specs.types.MethodSets.{method_sel}
use Rattle.go_model.specs.types.Terms.{IsBlank, Layer, blank}
use Rattle.go_model.specs.types.Underlying.{under}
use Rattle.go_rules.proofs.LocalParts.{each_both, each_left, each_right}
use Rattle.go_rules.proofs.LocalTypes.{each_made}
use Rattle.go_rules.proofs.OneKind.{no_truth}
use Rattle.go_rules.specs.Asks.{AreDistinctNames, field_names, fields_names, method_names, methods_names, texts}
use Rattle.go_rules.specs.Environments.{Env, selector_of}
use Rattle.go_rules.specs.Expressions.{Has, has_operand, HasForm, has_int, has_rune, has_string, has_name, has_paren, has_type, has_receive_type, has_function, has_composite, has_composite_array, has_dereference, has_pointer_type, has_address, has_literal_address, has_receive, has_constant_prefix, has_prefix, has_or, has_and, has_compare, has_sum, has_product, has_primary, has_imported, HasLogical, logical_none, logical_more, HasComparisons, comparisons_none, comparisons_more, HasSum, sum_none, sum_more, HasProduct, product_none, product_more, HasPosts, posts_none, posts_more, HasPost, post_field, post_method, post_method_expression, post_assertion, post_array, post_array_pointer, post_slice_index, post_string, post_map, post_slice, post_full_slice, post_conversion, post_call, post_builtin, HasBuiltin, append_elements, append_slice, append_string, len_string, array_constant, array_value, measure, close, copy_slice, copy_string, delete, make, new, panic, print, recover, OfType, of_type, OfForm, of_name, of_paren, of_pointer, of_slice, of_array, of_map, of_channel, of_send_channel, of_receive_channel, of_function, of_struct, of_interface, OfSignature, signature_alone, signature_result, OfParameters, parameters_none, parameters_more, parameters_variadic, OfResult, result_parameters, result_type, OfFields, fields_none, fields_named, fields_embedded, OfMethods, methods_none, methods_method, methods_embedded, field_of, for_names, is_blank, product_operator, starred, tag_of, with_receiver}
use Rattle.go_rules.specs.Nodes.{ExprLayer, Node, PostLayer, ResultLayer, TypeLayer, elem_parts, elems_parts, expression, expression_parts, field_parts, fields_parts, optional_result_parts, parameter_parts, post, post_parts, result_parts, signature as at_signature, stands_here, type, type_parts}
use Rattle.go_rules.specs.Operands.{IsTyped}
use Rattle.go_rules.specs.declared.operand.Operand.{Operand}
use Rattle.go_rules.specs.declared.predeclared.Predeclared.{Predeclared}
use Rattle.go_syntax.specs.declared.expression.Expr.{Expr}
use Rattle.go_syntax.specs.declared.expression.Post.{Post}
use Rattle.go_syntax.specs.declared.name.Name.{Name}
use Rattle.go_syntax.specs.declared.types.FieldDecl.{FieldDecl, out-FieldDecl}
use Rattle.go_syntax.specs.declared.types.FuncResult.{FuncResult}
use Rattle.go_syntax.specs.declared.types.InterfaceElem.{InterfaceElem, out-InterfaceElem}
use Rattle.go_syntax.specs.declared.types.ParameterDecl.{ParameterDecl, out-ParameterDecl}
use Rattle.go_syntax.specs.declared.types.Signature.{Signature as Sig, out-Signature as out-Sig}
use Rattle.go_syntax.specs.declared.types.«Type».{«Type» as Typ}
use Rattle.go_typed_packages.proofs.KeptFinds.{found_kept, level_kept, method_kept}
use Rattle.go_typed_packages.proofs.KeptResults.{any_kept, basic_kept, comparison_kept, computed_kept, computes_kept, converts_kept, denotes_kept, for_names_kept, imported_kept, of_kept, pointer_kept, product_kept, results_kept, signature_kept, slice_kept, sliced_kept, type_name_kept, typed_kept}
use Rattle.go_typed_packages.proofs.KeptTerms.{close_term, open_signature}
use Rattle.go_typed_packages.proofs.NamedParts.{call_named, parameters_named, parts_named, result_named}
use Rattle.go_typed_packages.specs.inner.KeptTypes.{EnvKept, FieldKept, LayerKept, MethodKept, OperandKept, SignatureKept, TermKept}
use Rattle.go_typed_packages.specs.inner.NamedMembers.{AreNamed, NamesMembers}

-- ---- the names of fields

abbrev sel_name : Field → List ℕ
sel_name f = (field_sel f).name

named_texts : (E : Env) (u : Term) (tag : Option (List ℕ)) (ns : List Name) (fs : List Field) (ms : List (List ℕ)) → map sel_name fs ≡ ms → map sel_name (map (field_of E false u tag) ns ++ fs) ≡ texts ns ++ ms
named_texts E u tag [] fs ms e = e
named_texts E u tag (n ∷ ns) fs ms e =
    let p = ap (λ (x : _). x.sel.name) (out-roll-Field (record { sel = selector_of E n.text; embedded = false; term = u; tag = tag_of tag })) in let q = named_texts E u tag ns fs ms e in
    λ i. p i ∷ q i

-- the fields that are declared have the names that their declarations say
fields_texts : (E : Env) {ds : List FieldDecl} {fs : List Field} → OfFields E ds fs → map sel_name fs ≡ fields_names ds
fields_texts E fields_none = refl
fields_texts E (fields_named {ds = ds} {ns = ns} {tag = tag} {u = u} {fs = fs} e a x) = named_texts E u tag ns fs (fields_names ds) (fields_texts E x) ∙ ap (λ l. field_names l ++ fields_names ds) (sym e)
fields_texts E (fields_embedded {ds = ds} {star = star} {q = q} {tag = tag} u {fs = fs} e a x) =
    let p = ap (λ (x : _). x.sel.name) (out-roll-Field (record { sel = selector_of E q.name.text; embedded = true; term = starred star u; tag = tag_of tag })) in let r = fields_texts E x in
    (λ i. p i ∷ r i) ∙ ap (λ l. field_names l ++ fields_names ds) (sym e)

sel_there : (fs : List Field) (s : Sel) → In (map field_sel fs) s → In (map sel_name fs) s.name
sel_there [] s h = absurd h
sel_there (f ∷ fs) s (inl e) = inl (ap (λ (z : Sel). z.name) e)
sel_there (f ∷ fs) s (inr h) = inr (sel_there fs s h)

distinct : (fs : List Field) → AreDistinctNames (map sel_name fs) → AreDistinct (map field_sel fs)
distinct [] h = tt
distinct (f ∷ fs) h = (λ other k e. h.0 other.name (sel_there fs other k) e, distinct fs h.1)

-- ---- the methods of interfaces

not_blank : (name : List ℕ) → is_blank name ≡ false → name ≡ blank → ⊥
not_blank name h e = no_truth (sym ((bytes_eq-Decides name blank).1 e) ∙ h)

module _ (N : TypeName → Type 0) (S : Sel → Type 0) where
  -- a method of an interface: its signature is kept, and it isn't blank
  record NamedMethod (m : Method) : Type 0 where
    kept : MethodKept N S m
    named : IsBlank (method_sel m) → ⊥

  both_named : (ms : List Method) → Each (λ s. IsBlank s → ⊥) (map method_sel ms) → Each (MethodKept N S) ms → Each NamedMethod ms
  both_named [] h k = tt
  both_named (m ∷ ms) h k = (record { kept = k.0; named = h.0 }, both_named ms h.1 k.1)

  sels_named : (ms : List Method) → Each NamedMethod ms → Each (λ s. IsBlank s → ⊥) (map method_sel ms)
  sels_named [] h = tt
  sels_named (m ∷ ms) h = (h.0.named, sels_named ms h.1)

  methods_of_named : (ms : List Method) → Each NamedMethod ms → Each (MethodKept N S) ms
  methods_of_named [] h = tt
  methods_of_named (m ∷ ms) h = (h.0.kept, methods_of_named ms h.1)

  made_method : (s : Sel) (g : Signature) → S s → SignatureKept N S g → (IsBlank s → ⊥) → NamedMethod (roll-Method (record { sel = s; signature = g }))
  made_method s g h k n =
      let e = out-roll-Method (record { sel = s; signature = g }) in record {
        kept = record { sel = subst (λ (x : _). S x.sel) (sym e) h; signature = subst (λ (x : _). SignatureKept N S x.signature) (sym e) k };
        named = subst (λ (x : _). IsBlank x.sel → ⊥) (sym e) n;
      }

  starred_kept : (star : Bool) (u : Term) → TermKept N S u → TermKept N S (starred star u)
  starred_kept false u h = h
  starred_kept true u h = pointer_kept N S u h

  module _ (E : Env) (w : EnvKept N S E) where
    below : (t : Term) (l : Layer) → TermKept N S t → under E.table t ≡ l → LayerKept N S l
    below t l h e = level_kept N S E w t l h e

    typed : {o : Operand} {t : Term} → OperandKept N S o → IsTyped o t → TermKept N S t
    typed h i = typed_kept N S h i

    made_field : (embedded : Bool) (u : Term) (tag : Option (List ℕ)) (n : Name) → TermKept N S u → FieldKept N S (field_of E embedded u tag n)
    made_field embedded u tag n h =
        let e = out-roll-Field (record { sel = selector_of E n.text; embedded = embedded; term = u; tag = tag_of tag }) in
        record { sel = subst (λ (x : _). S x.sel) (sym e) (w.own n.text); term = subst (λ (x : _). TermKept N S x.term) (sym e) h }

    named_fields : (u : Term) (tag : Option (List ℕ)) (ns : List Name) (fs : List Field) → TermKept N S u → Each (FieldKept N S) fs → Each (FieldKept N S) (map (field_of E false u tag) ns ++ fs)
    named_fields u tag [] fs h k = k
    named_fields u tag (n ∷ ns) fs h k = (made_field false u tag n h, named_fields u tag ns fs h k)

    abbrev Named : List Node → Type 0
    Named bs = Each AreNamed bs

    mutual
      pub has_kept : {e : Expr} {o : Operand} → Has E e o → AreNamed (expression e) → OperandKept N S o
      has_kept (has_operand {e = e} a s) h = form_kept a (parts_named (expression e) h)

      form_kept : {l : ExprLayer} {o : Operand} → HasForm E l o → Named (expression_parts l) → OperandKept N S o
      form_kept has_int h = tt
      form_kept has_rune h = tt
      form_kept (has_string i) h = tt
      form_kept (has_name d) h = denotes_kept N S E w d
      form_kept (has_paren a) h = has_kept a h.0
      form_kept (has_type a) h = type_kept a h.0
      form_kept (has_receive_type {u = u} a) h = close_term N S (Term-F.Chan direction.ReceiveOnly u) (type_kept a h.0)
      form_kept (has_function {g = g} {h = k} a) h = close_term N S (Term-F.Func k) (form_of_signature a (parameters_named g h.0) (result_named g h.0))
      form_kept (has_composite a x) h = type_kept a h.0
      form_kept (has_composite_array {u = u} {n = k} a x) h = close_term N S (Term-F.Array k u) (type_kept a h.0)
      form_kept (has_dereference {t = t} {u = u} a i e) h = below t (Term-F.Pointer u) (typed (has_kept a h.0) i) e
      form_kept (has_pointer_type {t = t} a) h = pointer_kept N S t (has_kept a h.0)
      form_kept (has_address {t = t} a) h = pointer_kept N S t (has_kept a h.0)
      form_kept (has_literal_address {t = t} i a) h = pointer_kept N S t (has_kept a h.0)
      form_kept (has_receive {t = t} {u = u} {d = d} a i e r) h = below t (Term-F.Chan d u) (typed (has_kept a h.0) i) e
      form_kept (has_constant_prefix p a k e) h = has_kept a h.0
      form_kept (has_prefix {c = c} p a b i k j) h = computed_kept N S c (of_kept N S (has_kept a h.0) i)
      form_kept (has_or a c) h = logical_kept c (has_kept a h.0) h.1
      form_kept (has_and a c) h = logical_kept c (has_kept a h.0) h.1
      form_kept (has_compare a c) h = comparisons_kept c (has_kept a h.0) h.1
      form_kept (has_sum a c) h = sums_kept c (has_kept a h.0) h.1
      form_kept (has_product a c) h = products_kept c (has_kept a h.0) h.1
      form_kept (has_primary a c) h = posts_kept c (has_kept a h.0) h.1
      form_kept (has_imported e i d s p) h = posts_kept p (imported_kept N S E w d) h.1.1

      logical_kept : {op : BinaryOp} {o r : Operand} {es : List Expr} → HasLogical E op o es r → OperandKept N S o → Named (map expression es) → OperandKept N S r
      logical_kept logical_none i h = i
      logical_kept (logical_more a c x) i h = logical_kept x (computes_kept N S E w i (has_kept a h.0) c) h.1

      comparisons_kept : {o r : Operand} {ops : List CompareOp} {es : List Expr} → HasComparisons E o ops es r → OperandKept N S o → Named (map expression es) → OperandKept N S r
      comparisons_kept comparisons_none i h = i
      comparisons_kept (comparisons_more a c x) i h = comparisons_kept x (comparison_kept N S E w c) h.1

      sums_kept : {o r : Operand} {ops : List SumOperator} {es : List Expr} → HasSum E o ops es r → OperandKept N S o → Named (map expression es) → OperandKept N S r
      sums_kept sum_none i h = i
      sums_kept (sum_more a c x) i h = sums_kept x (computes_kept N S E w i (has_kept a h.0) c) h.1

      products_kept : {o r : Operand} {ops : List ProductOperator} {es : List Expr} → HasProduct E o ops es r → OperandKept N S o → Named (map expression es) → OperandKept N S r
      products_kept product_none i h = i
      products_kept (product_more {o = o} {q = q} {r = r} {op = op} a c x) i h = products_kept x (product_kept N S E w (product_operator op) o q r i (has_kept a h.0) c) h.1

      posts_kept : {o r : Operand} {xs : List Post} → HasPosts E o xs r → OperandKept N S o → Named (map post xs) → OperandKept N S r
      posts_kept posts_none i h = i
      posts_kept (posts_more {x = p} a s x) i h = posts_kept x (post_kept a i (parts_named (post p) h.0)) h.1

      post_kept : {o r : Operand} {l : PostLayer} → HasPost E o l r → OperandKept N S o → Named (post_parts l) → OperandKept N S r
      post_kept (post_field b k f) i h = found_kept N S E w (typed i k) f
      post_kept (post_method {g = g} b k m) i h = close_term N S (Term-F.Func g) (method_kept N S E w (typed i k) m)
      post_kept (post_method_expression {t = t} {g = g} b m) i h =
          let p = open_signature N S g (method_kept N S E w i m) in
          close_term N S (Term-F.Func (with_receiver t g)) (signature_kept N S (t ∷ (out-Signature g).params) (out-Signature g).results (out-Signature g).variadic (i, p.0) p.1)
      post_kept (post_assertion k e a m) i h = type_kept a h.0
      post_kept (post_array {t = t} {e = u} {n = n} k e a x b) i h = below t (Term-F.Array n u) (typed i k) e
      post_kept (post_array_pointer {t = t} {base = base} {e = u} {n = n} k e d a x b) i h = below base (Term-F.Array n u) (below t (Term-F.Pointer base) (typed i k) e) d
      post_kept (post_slice_index {t = t} {e = u} k e a x) i h = below t (Term-F.Slice u) (typed i k) e
      post_kept (post_string n a x b) i h = basic_kept N S basic.Uint8
      post_kept (post_map {t = t} {k = key} {e = u} k e a x) i h = (below t (Term-F.Map key u) (typed i k) e).1
      post_kept (post_slice n a b x) i h = sliced_kept N S E w i n
      post_kept (post_full_slice n a b c x) i h = sliced_kept N S E w i n
      post_kept (post_conversion c a v) i h = converts_kept N S E w i v
      post_kept (post_call {t = t} {g = g} c k e a x) i h = results_kept N S (out-Signature g).results (open_signature N S g (below t (Term-F.Func g) (typed i k) e)).1
      post_kept (post_builtin c b) i h = builtin_kept b (call_named c h)

      builtin_kept : {f : Predeclared} {es : List Expr} {dots : Bool} {r : Operand} → HasBuiltin E f es dots r → Named (map expression es) → OperandKept N S r
      builtin_kept (append_elements a i e x k) h = typed (has_kept a h.0) i
      builtin_kept (append_slice a i e b k) h = typed (has_kept a h.0) i
      builtin_kept (append_string a i e b k) h = typed (has_kept a h.0) i
      builtin_kept (len_string a i n) h = basic_kept N S basic.Int
      builtin_kept (array_constant m a i y n k) h = basic_kept N S basic.Int
      builtin_kept (array_value m a i y n) h = basic_kept N S basic.Int
      builtin_kept (measure a c i m) h = basic_kept N S basic.Int
      builtin_kept (close a i e s) h = tt
      builtin_kept (copy_slice a i e b j d) h = basic_kept N S basic.Int
      builtin_kept (copy_string a i e b k) h = basic_kept N S basic.Int
      builtin_kept (delete a i e b x) h = tt
      builtin_kept (make a x k s) h = has_kept a h.0
      builtin_kept (new {t = t} a) h = pointer_kept N S t (has_kept a h.0)
      builtin_kept (panic a u) h = tt
      builtin_kept (print i x k) h = tt
      builtin_kept recover h = any_kept N S

      pub type_kept : {t : Typ} {u : Term} → OfType E t u → AreNamed (type t) → TermKept N S u
      type_kept (of_type {t = t} a s) h = of_form_kept a (h (type t) stands_here) (parts_named (type t) h)

      of_form_kept : {l : TypeLayer} {u : Term} → OfForm E l u → NamesMembers l → Named (type_parts l) → TermKept N S u
      of_form_kept (of_name {q = q} {u = u} a) n h = type_name_kept N S E w q u a
      of_form_kept (of_paren a) n h = type_kept a h.0
      of_form_kept (of_pointer {u = u} a) n h = pointer_kept N S u (type_kept a h.0)
      of_form_kept (of_slice {u = u} a) n h = slice_kept N S u (type_kept a h.0)
      of_form_kept (of_array {u = u} {n = k} x r a) n h = close_term N S (Term-F.Array k u) (type_kept a h.1.0)
      of_form_kept (of_map {u = u} {v = v} a b) n h = close_term N S (Term-F.Map u v) (type_kept a h.0, type_kept b h.1.0)
      of_form_kept (of_channel {u = u} a) n h = close_term N S (Term-F.Chan direction.Both u) (type_kept a h.0)
      of_form_kept (of_send_channel {u = u} a) n h = close_term N S (Term-F.Chan direction.SendOnly u) (type_kept a h.0)
      of_form_kept (of_receive_channel {u = u} a) n h = close_term N S (Term-F.Chan direction.ReceiveOnly u) (type_kept a h.0)
      of_form_kept (of_function {g = g} {h = k} a) n h = close_term N S (Term-F.Func k) (form_of_signature a (parameters_named g h.0) (result_named g h.0))
      of_form_kept (of_struct {fs = fs} x) n h = close_term N S (Term-F.Struct fs) (distinct fs (subst AreDistinctNames (sym (fields_texts E x)) n), fields_kept x h)
      of_form_kept (of_interface ms all x s i j) n h =
          let k = methods_kept x n h in
          let named = each_made ms (λ m q. each_has NamedMethod all m k (i m q)) in
          close_term N S (Term-F.Interface ms) (record { ordered = s; named = sels_named ms named }, methods_of_named ms named)

      pub form_of_signature : {ds : List ParameterDecl} {r : Option FuncResult} {g : Signature} → OfSignature E ds r g → Named (parameter_parts ds) → Named (optional_result_parts r) → SignatureKept N S g
      form_of_signature (signature_alone {ts = ts} {variadic = v} a) h k = signature_kept N S ts [] v (parameters_kept a h) tt
      form_of_signature (signature_result {ts = ts} {us = us} {variadic = v} a b) h k = signature_kept N S ts us v (parameters_kept a h) (result_kept b k)

      parameters_kept : {ds : List ParameterDecl} {ts : List Term} {v : Bool} → OfParameters E ds ts v → Named (parameter_parts ds) → Each (TermKept N S) ts
      parameters_kept parameters_none h = tt
      parameters_kept (parameters_more {d = d} {u = u} {us = us} f a x) h = each_both (TermKept N S) (for_names (out-ParameterDecl d).names u) us (for_names_kept N S (out-ParameterDecl d).names u (type_kept a h.0)) (parameters_kept x h.1)
      parameters_kept (parameters_variadic {u = u} f l a) h = (slice_kept N S u (type_kept a h.0), tt)

      result_kept : {l : ResultLayer} {ts : List Term} → OfResult E l ts → Named (result_parts l) → Each (TermKept N S) ts
      result_kept (result_parameters x) h = parameters_kept x h
      result_kept (result_type a) h = (type_kept a h.0, tt)

      fields_kept : {ds : List FieldDecl} {fs : List Field} → OfFields E ds fs → Named (fields_parts ds) → Each (FieldKept N S) fs
      fields_kept fields_none h = tt
      fields_kept (fields_named {d = d} {ds = ds} {ns = ns} {tag = tag} {u = u} {fs = fs} e a x) h =
          named_fields u tag ns fs (type_kept a (subst (λ l. Named (field_parts l)) e (each_left AreNamed (field_parts (out-FieldDecl d)) (fields_parts ds) h)).0)
          (fields_kept x (each_right AreNamed (field_parts (out-FieldDecl d)) (fields_parts ds) h))
      fields_kept (fields_embedded {d = d} {ds = ds} {star = star} {q = q} {tag = tag} u e a x) h =
          (made_field true (starred star u) tag q.name (starred_kept star u (type_name_kept N S E w q u a)), fields_kept x (each_right AreNamed (field_parts (out-FieldDecl d)) (fields_parts ds) h))

      methods_kept : {xs : List InterfaceElem} {ms : List Method} → OfMethods E xs ms → Each (λ n. is_blank n ≡ false) (methods_names xs) → Named (elems_parts xs) → Each NamedMethod ms
      methods_kept methods_none n h = tt
      methods_kept (methods_method {x = x} {xs = xs} {n = name} {g = g} {h = k} e a r) n h =
          let p = (subst (λ l. Named (elem_parts l)) e (each_left AreNamed (elem_parts (out-InterfaceElem x)) (elems_parts xs) h)).0 in
          let f = form_of_signature a (parameters_named g p) (result_named g p) in
          let b = (subst (λ l. Each (λ n. is_blank n ≡ false) (method_names l)) e (each_left (λ n. is_blank n ≡ false) (method_names (out-InterfaceElem x)) (methods_names xs) n)).0 in
          (made_method (selector_of E name.text) k (w.own name.text) f (not_blank name.text b), methods_kept r (each_right (λ n. is_blank n ≡ false) (method_names (out-InterfaceElem x)) (methods_names xs) n) (each_right AreNamed (elem_parts (out-InterfaceElem x)) (elems_parts xs) h))
      methods_kept (methods_embedded {x = x} {xs = xs} {q = q} u {ns = ns} {ms = ms} e a d r) n h =
          let f = below u (Term-F.Interface ns) (type_name_kept N S E w q u a) d in
          each_both NamedMethod ns ms (both_named ns f.0.named f.1) (methods_kept r (each_right (λ n. is_blank n ≡ false) (method_names (out-InterfaceElem x)) (methods_names xs) n) (each_right AreNamed (elem_parts (out-InterfaceElem x)) (elems_parts xs) h))

    -- the signature of a function or a method
    pub whole_kept : (g : Sig) (h : Signature) → OfSignature E (out-Sig g).parameters (out-Sig g).result h → AreNamed (at_signature g) → SignatureKept N S h
    whole_kept g h a n = form_of_signature a (parameters_named g n) (result_named g n)
