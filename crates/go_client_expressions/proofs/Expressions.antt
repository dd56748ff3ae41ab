-- Expressions and type forms in two environments of a client: on the new side an expression is an operand that follows what it was, and a
-- form stands for the image of what it stood for.
use Rattle.std.proofs.Common.{◌≡◌, inl, inr, ℕ, zero, suc, Bool, true, false, ◌&&◌, List, [], ◌∷◌, ◌++◌, length, map, replicate, refl, sym, ap, ◌∙◌, subst, Option, Some, None, if◌then◌else◌}
use Rattle.std.specs.List.Sorted.{IsStrictlySortedBy}
use Rattle.std.specs.Prelude.{pos}
use Rattle.go_base.specs.Lists.{Each, Has as HasItem}
use Rattle.go_base.proofs.Members.{each_has}
use Rattle.go_base.specs.declared.operator.CompareOp.{CompareOp}
use Rattle.go_base.specs.declared.operator.PrefixOperator.{PrefixOperator}
use Rattle.go_base.specs.declared.operator.PrefixOperator.TheVariants as prefix
use Rattle.go_base.specs.declared.operator.ProductOperator.{ProductOperator}
use Rattle.go_base.specs.declared.operator.SumOperator.{SumOperator}
use Rattle.go_selectors.proofs.Lists.{has-left, has-right}
use Rattle.go_model.specs.constants.Constants.{is_representable, unary_value}
use Rattle.go_model.specs.declared.constants.value.Basic.{Basic}
use Rattle.go_model.specs.declared.constants.value.Basic.TheVariants as basic
use Rattle.go_model.specs.declared.constants.value.BinaryOp.{BinaryOp}
use Rattle.go_model.specs.declared.constants.value.Kind.{Kind}
use Rattle.go_model.specs.declared.constants.value.UnaryOp.{UnaryOp}
use Rattle.go_model.specs.declared.constants.value.Value.{Value}
use Rattle.go_model.specs.declared.constants.value.Value.TheVariants as value_of_constant
use Rattle.go_model.specs.declared.types.names.Sel.{Sel}
use Rattle.go_model.specs.declared.types.names.TypeName.{TypeName}
use Rattle.go_model.specs.declared.types.package.ConstTerm.{ConstTerm}
use Rattle.go_model.specs.declared.types.package.ConstTerm.TheVariants as constant
use Rattle.go_model.specs.declared.types.package.Defined.{Defined}
use Rattle.go_model.specs.declared.types.term.Direction.{Direction}
use Rattle.go_model.specs.declared.types.term.Direction.TheVariants as direction
use Rattle.go_model.specs.declared.types.term.Field.{Field, roll-Field, fold-roll-Field, out-roll-Field}
use Rattle.go_model.specs.declared.types.term.Method.{Method, roll-Method, fold-roll-Method, out-roll-Method}
use Rattle.go_model.specs.declared.types.term.Signature.{Signature, out-Signature, roll-Signature, fold-roll-Signature, out-roll-Signature}
use Rattle.go_model.specs.declared.types.term.Term.{Term, Term-F, out-Term, roll-Term, out-roll-Term}
use Rattle.go_model.specs.types.Imports.{is_imported, is_imported_struct}
use Rattle.go_model.specs.types.MethodSets.{method_sel, sel_order}
use Rattle.go_model.specs.types.Selectors.{base_of}
use Rattle.go_model.specs.types.Terms.{Layer, pointer_to, slice_of}
use Rattle.go_model.specs.types.Underlying.{entry, under, under_entry, under_layer}
use Rattle.go_rules.specs.Asks.{ElementMeets, EmbedsField, EmbedsInterface, FieldMeets, IsOwnLayer, Meets, TypeMeets}
use Rattle.go_rules.specs.Environments.{Env, is_exported, selector_of}
use Rattle.go_rules.specs.Expressions.{ArgumentsFit, Denotes, DenotesImported, IsComposite, IsIndex, IsString, IsTypeName, NamesType, Has, has_operand, HasForm, has_int, has_rune, has_string, has_name, has_paren, has_type, has_receive_type, has_function, has_composite, has_composite_array, has_dereference, has_pointer_type, has_address, has_literal_address, has_receive, has_constant_prefix, has_prefix, has_or, has_and, has_compare, has_sum, has_product, has_primary, has_imported, HasLogical, logical_none, logical_more, HasComparisons, comparisons_none, comparisons_more, HasSum, sum_none, sum_more, HasProduct, product_none, product_more, HasPosts, posts_none, posts_more, HasPost, post_field, post_method, post_method_expression, post_assertion, post_array, post_array_pointer, post_slice_index, post_string, post_map, post_slice, post_full_slice, post_conversion, post_call, post_builtin, HasIndexed, indexed_none, indexed_more, indexed_keyed, HasBuiltin, append_elements, append_slice, append_string, len_string, array_constant, array_value, measure, close, copy_slice, copy_string, delete, make, new, panic, print, recover, HasEach, each_none, each_more, HasSizes, sizes_none, sizes_more, HasOptional, optional_none, optional_some, HasKeyed, keyed_none, keyed_more, HoldsNone, holds_none, IsQuietCall, quiet_conversion, quiet_constant, HoldsOne, holds_receive, holds_call, OfType, of_type, OfForm, of_name, of_paren, of_pointer, of_slice, of_array, of_map, of_channel, of_send_channel, of_receive_channel, of_function, of_struct, of_interface, OfSignature, signature_alone, signature_result, OfParameters, parameters_none, parameters_more, parameters_variadic, OfResult, result_parameters, result_type, OfFields, fields_none, fields_named, fields_embedded, OfMethods, methods_none, methods_method, methods_embedded, HasArguments, arguments_each, arguments_tuple, HasElements, elements_keyed, elements_unkeyed, elements_array, elements_slice, elements_map, HasUnkeyed, unkeyed_none, unkeyed_more, HasPairs, pairs_none, pairs_more, ElementFits, fits_value, fits_literal, fits_address, array_of, chain, channel_of, field_of, for_names, has_capacity, has_length, int_constant, measures, product_operator, reached, results_of, signature as made_signature, starred, tag_of, unary_operator, with_receiver}
use Rattle.go_rules.specs.Growth.{Grows}
use Rattle.go_rules.specs.Nodes.{Node, ExprLayer, PostLayer, ResultLayer, TypeLayer, element_parts, elem_parts, elems_parts, expression, expression_parts, field_parts, fields_parts, optional, optional_result_parts, parameter_parts, post, post_parts, result_parts, signature as at_signature, stands_here, type, type_parts, value}
use Rattle.go_rules.specs.Operands.{HasKind, IsTyped, any_term, basic_term, computed, constant_of, function_of, is_variable, no_value, plain, type_name, value_of, variable}
use Rattle.go_rules.specs.Usability.{UsableAs}
use Rattle.go_rules.specs.declared.operand.Mode.TheVariants as mode
use Rattle.go_rules.specs.declared.operand.Operand.{Operand}
use Rattle.go_rules.specs.declared.predeclared.Predeclared.{Predeclared}
use Rattle.go_rules.specs.declared.predeclared.Predeclared.TheVariants as builtins
use Rattle.go_rules.proofs.GrowResults.{type_name_more}
use Rattle.go_rules.proofs.GrowTypes.{joined_is}
use Rattle.go_rules.proofs.LocalParts.{each_both, each_left, each_right, element_key, element_value, elements_rest}
use Rattle.go_rules.proofs.LocalTypes.{each_made}
use Rattle.go_syntax.specs.declared.expression.Element.{Element, out-Element}
use Rattle.go_syntax.specs.declared.expression.ElementValue.{ElementValue}
use Rattle.go_syntax.specs.declared.expression.Expr.{Expr, Expr-F}
use Rattle.go_syntax.specs.declared.expression.Post.{Post, Post-F}
use Rattle.go_syntax.specs.declared.name.Name.{Name}
use Rattle.go_syntax.specs.declared.name.QualifiedName.{QualifiedName}
use Rattle.go_syntax.specs.declared.types.FieldDecl.{FieldDecl, out-FieldDecl}
use Rattle.go_syntax.specs.declared.types.FuncResult.{FuncResult}
use Rattle.go_syntax.specs.declared.types.InterfaceElem.{InterfaceElem, out-InterfaceElem}
use Rattle.go_syntax.specs.declared.types.ParameterDecl.{ParameterDecl, out-ParameterDecl}
use Rattle.go_syntax.specs.declared.types.Signature.{out-Signature as out-Sig}
use Rattle.go_syntax.specs.declared.types.«Type».{«Type» as Typ, «Type-F» as Typ-F}
use Rattle.go_type_images.specs.EntryImages.{const_to, entry_to}
use Rattle.go_type_images.specs.Images.{Naming, image, image_field_step, image_method_step, image_of_field, image_of_layer, image_of_method, image_of_signature, image_step, same_sels}
use Rattle.go_type_images.specs.Levels.{interface_layer, is_structured}
use Rattle.go_type_images.specs.Parts.{field_type, function_type, method_type, parts as part_types}
use Rattle.go_type_images.specs.declared.pair.TypePair.{TypePair}
use Rattle.go_type_images.proofs.ImageLevels.{image_roll, out_image, out_image_signature}
use Rattle.go_type_images.proofs.ImageParts.{method_sels}
use Rattle.go_client_types.specs.Following.{After, addressable, after_bare, after_constant, after_value, same_mode}
use Rattle.go_client_types.specs.Keeping.{Keeps}
use Rattle.go_client_types.specs.Reached.{IsClientSel, IsMade, IsMadeField, IsReached, reach_made}
use Rattle.go_client_types.proofs.Assigning.{usable_kept}
use Rattle.go_client_types.proofs.Conversions as C
use Rattle.go_client_types.proofs.Hypotheses.{embeds, embeds_too}
use Rattle.go_client_types.proofs.Operands.{bounded, kind_kept, of_after, typed_after, within_after}
use Rattle.go_client_types.proofs.Relations as relations
use Rattle.go_client_types.proofs.TypeForms.{meets_parts}
use Rattle.go_client_types.proofs.Views as V
use Rattle.go_client_operators.specs.FollowedOperands.{AreAfter}
use Rattle.go_client_operators.proofs.Calls as calls
use Rattle.go_client_operators.proofs.Names.{imported_kept, name_kept}
use Rattle.go_client_operators.proofs.Operators as operators
use Rattle.go_client_expressions.proofs.Fields as fields
use Rattle.go_client_expressions.proofs.MetParts as met
use Rattle.go_client_expressions.proofs.Results as results
use Rattle.go_client_expressions.proofs.Selected as selected

no_embedding : {A : Type 0} → false ≡ true → A
no_embedding e = absurd (cc)

no_interface : (n : TypeName) (ns : List Method) → ◌≡◌ {A = Layer} (Term-F.Named n) (Term-F.Interface ns) → ⊥
no_interface n ns e = absurd (cc)

no_plain_interface : (b : Basic) (ns : List Method) → ◌≡◌ {A = Layer} (Term-F.Plain b) (Term-F.Interface ns) → ⊥
no_plain_interface b ns e = absurd (cc)

one_interface : {ms ns : List Method} → ◌≡◌ {A = Layer} (Term-F.Interface ms) (Term-F.Interface ns) → ms ≡ ns
one_interface e = cc

-- what has a length or a capacity is neither a struct nor an interface, and its image has them too
length_plain : (l : Layer) → has_length l ≡ true → is_structured l ≡ false
length_plain (Term-F.Struct fs) e = absurd (cc)
length_plain (Term-F.Interface ms) e = absurd (cc)
length_plain l e = refl

capacity_plain : (l : Layer) → has_capacity l ≡ true → is_structured l ≡ false
capacity_plain (Term-F.Struct fs) e = absurd (cc)
capacity_plain (Term-F.Interface ms) e = absurd (cc)
capacity_plain l e = refl

measures_plain : (f : Predeclared) (l : Layer) → measures f l ≡ true → is_structured l ≡ false
measures_plain builtins.Len l e = length_plain l e
measures_plain builtins.Cap l e = capacity_plain l e
measures_plain f l e = absurd (cc)

length_image : (r : Naming) (l : Layer) → has_length (image_of_layer r same_sels l) ≡ has_length l
length_image r (Term-F.Plain b) = refl
length_image r (Term-F.Named n) = refl
length_image r (Term-F.Pointer t) = refl
length_image r (Term-F.Slice t) = refl
length_image r (Term-F.Array n t) = refl
length_image r (Term-F.Map k t) = refl
length_image r (Term-F.Chan d t) = refl
length_image r (Term-F.Func g) = refl
length_image r (Term-F.Struct fs) = refl
length_image r (Term-F.Interface ms) = refl

capacity_image : (r : Naming) (l : Layer) → has_capacity (image_of_layer r same_sels l) ≡ has_capacity l
capacity_image r (Term-F.Plain b) = refl
capacity_image r (Term-F.Named n) = refl
capacity_image r (Term-F.Pointer t) = refl
capacity_image r (Term-F.Slice t) = refl
capacity_image r (Term-F.Array n t) = refl
capacity_image r (Term-F.Map k t) = refl
capacity_image r (Term-F.Chan d t) = refl
capacity_image r (Term-F.Func g) = refl
capacity_image r (Term-F.Struct fs) = refl
capacity_image r (Term-F.Interface ms) = refl

measures_image : (r : Naming) (f : Predeclared) (l : Layer) → measures f (image_of_layer r same_sels l) ≡ measures f l
measures_image r builtins.Len l = length_image r l
measures_image r builtins.Cap l = capacity_image r l
measures_image r f l = refl

-- what a name of a type stands for, it stands for in an environment that has more
pub names_grow : (E G : Env) → Grows E G → (q : QualifiedName) (t : Term) → IsTypeName E q t → IsTypeName G q t
names_grow E G grows q t a = subst (λ D. IsTypeName D q t) (joined_is E G grows) (type_name_more E G grows q t a)

module _ (E F G : Env) (r : Naming) (pairs : List TypePair) (std : TypeName → Bool) (is_open : Sel → Bool) (K : Keeps E F r pairs std is_open) (more : (q : QualifiedName) (t : Term) → IsTypeName E q t → IsTypeName G q t) (barred : G.profile ≡ true) where
  abbrev to : Term → Term
  to = image r same_sels

  abbrev R : Term → Type 0
  R = IsReached pairs std is_open

  abbrev A : Operand → Operand → Type 0
  A = After r pairs std is_open

  abbrev Met : List Node → Type 0
  Met bs = Each (Meets G) bs

  -- ---- names of types

  by_name : (q : Option Name) (n : Name) (t : Term) → NamesType E q n t → NamesType F q n (to t) × R t
  by_name None n t d = let f = name_kept E F r pairs std is_open K n (type_name t) d in let g = results.named_after r pairs std is_open f.2 in (subst (Denotes F n) g.0 f.1, g.1)
  by_name (Some q) n t d = let f = imported_kept E F r pairs std is_open K q n (type_name t) d in let g = results.named_after r pairs std is_open f.2 in (subst (DenotesImported F q n) g.0 f.1, g.1)

  pub type_name_kept : (q : QualifiedName) (t : Term) → IsTypeName E q t → IsTypeName F q (to t) × R t
  type_name_kept q t d = by_name q.qualifier q.name t d

  client_sel : (n : Name) → IsClientSel (selector_of E n.text)
  client_sel n = selected.client_sel E F r pairs std is_open K n

  -- ---- types that are made

  made : (l : Layer) → IsMade l → ((u : Term) → HasItem (part_types l) u → R u) → R (roll-Term l)
  made l m h = reach_made (subst IsMade (sym (out-roll-Term l)) m) (λ u k. h u (subst (λ x. HasItem (part_types x) u) (out-roll-Term l) k))

  one : (t : Term) → R t → (u : Term) → HasItem (t ∷ []) u → R u
  one t h u (inl e) = subst R e h
  one t h u (inr k) = absurd k

  two : (s t : Term) → R s → R t → (u : Term) → HasItem (s ∷ t ∷ []) u → R u
  two s t h k u (inl e) = subst R e h
  two s t h k u (inr j) = one t k u j

  many : (ts : List Term) → Each R ts → (u : Term) → HasItem ts u → R u
  many ts h u k = each_has R ts u h k

  rolled : (f : TypeLayer) (l : Layer) → OfForm F f (roll-Term (image_of_layer r same_sels l)) → OfForm F f (to (roll-Term l))
  rolled f l h = subst (OfForm F f) (sym (image_roll r same_sels l)) h

  -- ---- signatures

  image_of_made : (ts us : List Term) (variadic : Bool) → image_of_signature r same_sels (made_signature ts variadic us) ≡ made_signature (map to ts) variadic (map to us)
  image_of_made ts us variadic = fold-roll-Signature Term Field Method Signature (image_step r) (image_field_step same_sels) (image_method_step same_sels) roll-Signature (record { params = ts; variadic = variadic; results = us })

  map_append : (xs ys : List Term) → map to (xs ++ ys) ≡ map to xs ++ map to ys
  map_append [] ys = refl
  map_append (x ∷ xs) ys = ap (λ zs. to x ∷ zs) (map_append xs ys)

  map_replicate : (n : ℕ) (t : Term) → map to (replicate n t) ≡ replicate n (to t)
  map_replicate zero t = refl
  map_replicate (suc n) t = ap (λ zs. to t ∷ zs) (map_replicate n t)

  map_names : (ns : List Name) (t : Term) → map to (for_names ns t) ≡ for_names ns (to t)
  map_names [] t = refl
  map_names (n ∷ ns) t = map_replicate (length (n ∷ ns)) t

  each_replicate : (n : ℕ) (t : Term) → R t → Each R (replicate n t)
  each_replicate zero t h = tt
  each_replicate (suc n) t h = (h, each_replicate n t h)

  each_names : (ns : List Name) (t : Term) → R t → Each R (for_names ns t)
  each_names [] t h = (h, tt)
  each_names (n ∷ ns) t h = each_replicate (length (n ∷ ns)) t h

  slice_image : (t : Term) → to (slice_of t) ≡ slice_of (to t)
  slice_image t = image_roll r same_sels (Term-F.Slice t)

  signature_reached : (ts us : List Term) (variadic : Bool) → Each R ts → Each R us → R (function_of (made_signature ts variadic us))
  signature_reached ts us variadic h k = made (Term-F.Func (made_signature ts variadic us)) tt (λ u j. many (ts ++ us) (each_both R ts us h k) u (subst (λ (x : _). HasItem (x.params ++ x.results) u) (out-roll-Signature (record { params = ts; variadic = variadic; results = us })) j))

  -- ---- fields

  field_made : (embedded : Bool) (u : Term) (tag : Option (List ℕ)) (n : Name) → (embedded ≡ true → IsOwnLayer (out-Term (base_of u))) → IsMadeField (field_of E embedded u tag n)
  field_made embedded u tag n h = record {
    label = subst (λ (x : _). IsClientSel x.sel) (sym (out-roll-Field (record { sel = selector_of E n.text; embedded = embedded; term = u; tag = tag_of tag }))) (client_sel n);
    embeds = subst (λ (x : _). x.embedded ≡ true → IsOwnLayer (out-Term (base_of x.term))) (sym (out-roll-Field (record { sel = selector_of E n.text; embedded = embedded; term = u; tag = tag_of tag }))) h;
  }

  field_reached : (embedded : Bool) (u : Term) (tag : Option (List ℕ)) (n : Name) → R u → R (field_type (field_of E embedded u tag n))
  field_reached embedded u tag n h = subst (λ (x : _). R x.term) (sym (out-roll-Field (record { sel = selector_of E n.text; embedded = embedded; term = u; tag = tag_of tag }))) h

  field_image : (embedded : Bool) (u : Term) (tag : Option (List ℕ)) (n : Name) → image_of_field r same_sels (field_of E embedded u tag n) ≡ field_of F embedded (to u) tag n
  field_image embedded u tag n =
      fold-roll-Field Term Field Method Signature (image_step r) (image_field_step same_sels) (image_method_step same_sels) roll-Signature (record { sel = selector_of E n.text; embedded = embedded; term = u; tag = tag_of tag })
      ∙ ap (λ path. roll-Field (record { sel = record { name = n.text; «package» = if is_exported n.text then [] else path }; embedded = embedded; term = to u; tag = tag_of tag })) (sym K.path)

  abbrev fields_to : List Field → List Field
  fields_to fs = map (image_of_field r same_sels) fs

  named_image : (u : Term) (tag : Option (List ℕ)) (ns : List Name) (fs : List Field) → fields_to (map (field_of E false u tag) ns ++ fs) ≡ map (field_of F false (to u) tag) ns ++ fields_to fs
  named_image u tag [] fs = refl
  named_image u tag (n ∷ ns) fs = λ i. field_image false u tag n i ∷ named_image u tag ns fs i

  -- fields that a client makes, of types that it reaches
  abbrev MadeFields : List Field → Type 0
  MadeFields fs = Each IsMadeField fs × Each (λ f. R (field_type f)) fs

  named_made : (u : Term) (tag : Option (List ℕ)) (ns : List Name) (fs : List Field) → R u → MadeFields fs → MadeFields (map (field_of E false u tag) ns ++ fs)
  named_made u tag [] fs h k = k
  named_made u tag (n ∷ ns) fs h k = let j = named_made u tag ns fs h k in ((field_made false u tag n no_embedding, j.0), (field_reached false u tag n h, j.1))

  starred_image : (star : Bool) (u : Term) → to (starred star u) ≡ starred star (to u)
  starred_image false u = refl
  starred_image true u = image_roll r same_sels (Term-F.Pointer u)

  starred_reached : (star : Bool) (u : Term) → R u → R (starred star u)
  starred_reached false u h = h
  starred_reached true u h = made (Term-F.Pointer u) tt (one u h)

  field_types : (fs : List Field) (u : Term) → Each (λ f. R (field_type f)) fs → HasItem (map field_type fs) u → R u
  field_types [] u h k = absurd k
  field_types (f ∷ fs) u h (inl e) = subst R e h.0
  field_types (f ∷ fs) u h (inr k) = field_types fs u h.1 k

  -- ---- methods

  abbrev methods_to : List Method → List Method
  methods_to ms = map (image_of_method r same_sels) ms

  abbrev MadeMethods : List Method → Type 0
  MadeMethods ms = Each (λ m. IsClientSel (method_sel m)) ms × Each (λ m. R (method_type m)) ms

  method_types : (ms : List Method) (u : Term) → Each (λ m. R (method_type m)) ms → HasItem (map method_type ms) u → R u
  method_types [] u h k = absurd k
  method_types (m ∷ ms) u h (inl e) = subst R e h.0
  method_types (m ∷ ms) u h (inr k) = method_types ms u h.1 k

  all_types : (ms : List Method) → ((u : Term) → HasItem (map method_type ms) u → R u) → Each (λ m. R (method_type m)) ms
  all_types [] h = tt
  all_types (m ∷ ms) h = (h (method_type m) (inl refl), all_types ms (λ u k. h u (inr k)))

  in_mapped : (ms : List Method) (m : Method) → HasItem ms m → HasItem (methods_to ms) (image_of_method r same_sels m)
  in_mapped [] m k = absurd k
  in_mapped (n ∷ ms) m (inl e) = inl (ap (image_of_method r same_sels) e)
  in_mapped (n ∷ ms) m (inr k) = inr (in_mapped ms m k)

  of_mapped : (ms : List Method) (m : Method) → HasItem (methods_to ms) m → (n : Method) × HasItem ms n × (image_of_method r same_sels n ≡ m)
  of_mapped [] m k = absurd k
  of_mapped (n ∷ ms) m (inl e) = (n, inl refl, e)
  of_mapped (n ∷ ms) m (inr k) = let f = of_mapped ms m k in (f.0, inr f.1, f.2)

  mapped_in : (ms ns : List Method) → ((m : Method) → HasItem ms m → HasItem ns m) → (m : Method) → HasItem (methods_to ms) m → HasItem (methods_to ns) m
  mapped_in ms ns h m k = let f = of_mapped ms m k in subst (HasItem (methods_to ns)) f.2 (in_mapped ns f.0 (h f.0 f.1))

  map_methods : (ms ns : List Method) → methods_to (ms ++ ns) ≡ methods_to ms ++ methods_to ns
  map_methods [] ns = refl
  map_methods (m ∷ ms) ns = ap (λ xs. image_of_method r same_sels m ∷ xs) (map_methods ms ns)

  method_image : (n : Name) (h : Signature) → image_of_method r same_sels (roll-Method (record { sel = selector_of E n.text; signature = h })) ≡ roll-Method (record { sel = selector_of F n.text; signature = image_of_signature r same_sels h })
  method_image n h =
      fold-roll-Method Term Field Method Signature (image_step r) (image_field_step same_sels) (image_method_step same_sels) roll-Signature (record { sel = selector_of E n.text; signature = h })
      ∙ ap (λ path. roll-Method (record { sel = record { name = n.text; «package» = if is_exported n.text then [] else path }; signature = image_of_signature r same_sels h })) (sym K.path)

  method_made : (n : Name) (h : Signature) → IsClientSel (method_sel (roll-Method (record { sel = selector_of E n.text; signature = h })))
  method_made n h = subst (λ (x : _). IsClientSel x.sel) (sym (out-roll-Method (record { sel = selector_of E n.text; signature = h }))) (client_sel n)

  method_reached : (n : Name) (h : Signature) → R (function_of h) → R (method_type (roll-Method (record { sel = selector_of E n.text; signature = h })))
  method_reached n h k = subst (λ (x : _). R (function_type x.signature)) (sym (out-roll-Method (record { sel = selector_of E n.text; signature = h }))) k

  abbrev level_to : Layer → Layer
  level_to = image_of_layer r same_sels

  is_interface : {l : Layer} {ns : List Method} → IsMade l → ((u : Term) → HasItem (part_types l) u → R u) → l ≡ Term-F.Interface ns → MadeMethods ns
  is_interface {ns = ns} m h e = (subst IsMade e m, all_types ns (λ u k. h u (subst (λ x. HasItem (part_types x) u) (sym e) k)))

  interface_entry : (n : TypeName) (o : Option Defined) (ns : List Method) → is_imported n ≡ false → entry E.table n ≡ o → under_entry n o ≡ Term-F.Interface ns → (under_entry n (entry_to r o) ≡ Term-F.Interface (methods_to ns)) × MadeMethods ns
  interface_entry n None ns h e f = absurd (no_interface n ns f)
  interface_entry n (Some d) ns h e f = let o = K.own_entries n d h e in (out_image r same_sels d.underlying ∙ ap level_to f, is_interface o.made o.reached f)

  interface_of : (l : Layer) (ns : List Method) → IsOwnLayer l → under_layer E.table l ≡ Term-F.Interface ns → (under_layer F.table (level_to l) ≡ Term-F.Interface (methods_to ns)) × MadeMethods ns
  interface_of (Term-F.Named n) ns h e =
      let f = interface_entry n (entry E.table n) ns h refl e in
      (ap (λ m. under_layer F.table (Term-F.Named m)) (K.types.own n h) ∙ ap (under_entry n) (K.entries n h) ∙ f.0, f.1)
  interface_of (Term-F.Plain b) ns h e = absurd (no_plain_interface b ns e)
  interface_of (Term-F.Interface ms) ns h e = let s : ms ≡ ns = one_interface e in (ap (λ xs. Term-F.Interface (methods_to xs)) s, subst MadeMethods (sym h ∙ s) (tt, tt))
  interface_of (Term-F.Pointer t) ns h e = absurd h
  interface_of (Term-F.Slice t) ns h e = absurd h
  interface_of (Term-F.Array n t) ns h e = absurd h
  interface_of (Term-F.Map k t) ns h e = absurd h
  interface_of (Term-F.Chan d t) ns h e = absurd h
  interface_of (Term-F.Func g) ns h e = absurd h
  interface_of (Term-F.Struct fs) ns h e = absurd h

  own_interface : (u : Term) (ns : List Method) → IsOwnLayer (out-Term u) → under E.table u ≡ Term-F.Interface ns → (under F.table (to u) ≡ Term-F.Interface (methods_to ns)) × MadeMethods ns
  own_interface u ns h e = let f = interface_of (out-Term u) ns h e in (ap (under_layer F.table) (out_image r same_sels u) ∙ f.0, f.1)

  -- ---- what is underneath, of one part

  pointer_form : (t u : Term) → R t → under E.table t ≡ Term-F.Pointer u → (under F.table (to t) ≡ Term-F.Pointer (to u)) × R u
  pointer_form t u h e = let f = V.form_kept E F r pairs std is_open K t (Term-F.Pointer u) h refl e in (f.0, f.1 u (inl refl))

  slice_form : (t u : Term) → R t → under E.table t ≡ Term-F.Slice u → (under F.table (to t) ≡ Term-F.Slice (to u)) × R u
  slice_form t u h e = let f = V.form_kept E F r pairs std is_open K t (Term-F.Slice u) h refl e in (f.0, f.1 u (inl refl))

  array_form : (t u : Term) (n : ℕ) → R t → under E.table t ≡ Term-F.Array n u → (under F.table (to t) ≡ Term-F.Array n (to u)) × R u
  array_form t u n h e = let f = V.form_kept E F r pairs std is_open K t (Term-F.Array n u) h refl e in (f.0, f.1 u (inl refl))

  map_form : (t k u : Term) → R t → under E.table t ≡ Term-F.Map k u → (under F.table (to t) ≡ Term-F.Map (to k) (to u)) × R k × R u
  map_form t k u h e = let f = V.form_kept E F r pairs std is_open K t (Term-F.Map k u) h refl e in (f.0, f.1 k (inl refl), f.1 u (inr (inl refl)))

  channel_form : (t u : Term) (d : Direction) → R t → under E.table t ≡ Term-F.Chan d u → (under F.table (to t) ≡ Term-F.Chan d (to u)) × R u
  channel_form t u d h e = let f = V.form_kept E F r pairs std is_open K t (Term-F.Chan d u) h refl e in (f.0, f.1 u (inl refl))

  function_form : (t : Term) (g : Signature) → R t → under E.table t ≡ Term-F.Func g → (under F.table (to t) ≡ Term-F.Func (image_of_signature r same_sels g)) × ((u : Term) → HasItem (out-Signature g).params u → R u) × Each R (out-Signature g).results
  function_form t g h e =
      let f = V.form_kept E F r pairs std is_open K t (Term-F.Func g) h refl e in
      (f.0, λ u k. f.1 u (has-left (out-Signature g).params (out-Signature g).results u k), each_made (out-Signature g).results (λ u k. f.1 u (has-right (out-Signature g).params (out-Signature g).results u k)))

  -- the parameters and results of a function that a client reaches
  signature_parts : (g : Signature) → R (function_type g) → Each R (out-Signature g).params × Each R (out-Signature g).results
  signature_parts g h =
      let all : (u : Term) → HasItem ((out-Signature g).params ++ (out-Signature g).results) u → R u = λ u k. C.part_reached E F r pairs std is_open K (function_type g) u h (subst (λ l. HasItem (part_types l) u) (sym (out-roll-Term (Term-F.Func g))) k) in
      (each_made (out-Signature g).params (λ u k. all u (has-left (out-Signature g).params (out-Signature g).results u k)), each_made (out-Signature g).results (λ u k. all u (has-right (out-Signature g).params (out-Signature g).results u k)))

  -- ---- types that are made of others

  made_pointer : (t : Term) → R t → R (pointer_to t)
  made_pointer t h = made (Term-F.Pointer t) tt (one t h)

  pointer_image : (t : Term) → pointer_to (to t) ≡ to (pointer_to t)
  pointer_image t = sym (image_roll r same_sels (Term-F.Pointer t))

  made_slice : (t : Term) → R t → R (slice_of t)
  made_slice t h = made (Term-F.Slice t) tt (one t h)

  basic_reached : (b : Basic) → R (basic_term b)
  basic_reached b = made (Term-F.Plain b) tt (λ u k. absurd k)

  basic_stays : (b : Basic) → to (basic_term b) ≡ basic_term b
  basic_stays b = image_roll r same_sels (Term-F.Plain b)

  basic_after : (b : Basic) → A (plain (basic_term b)) (plain (basic_term b))
  basic_after b = subst (λ t. A (plain (basic_term b)) (plain t)) (basic_stays b) (after_value same_mode (basic_reached b))

  int_after : (n : ℕ) → A (int_constant n) (int_constant n)
  int_after n = subst (λ t. A (int_constant n) (constant_of (constant.OfTerm t) (value_of_constant.Int (pos n)))) (basic_stays basic.Int) (after_constant (basic_reached basic.Int))

  any_reached : R any_term
  any_reached = made (Term-F.Interface []) tt (λ u k. absurd k)

  any_stays : to any_term ≡ any_term
  any_stays = image_roll r same_sels (Term-F.Interface [])

  any_after : A (plain any_term) (plain any_term)
  any_after = subst (λ t. A (plain any_term) (plain t)) any_stays (after_value same_mode any_reached)

  bytes_form : (t : Term) → R t → under E.table t ≡ Term-F.Slice (basic_term basic.Uint8) → under F.table (to t) ≡ Term-F.Slice (basic_term basic.Uint8)
  bytes_form t h e = subst (λ z. under F.table (to t) ≡ Term-F.Slice z) (basic_stays basic.Uint8) (slice_form t (basic_term basic.Uint8) h e).0

  function_after : (g : Signature) → R (function_type g) → A (plain (function_of g)) (plain (function_of (image_of_signature r same_sels g)))
  function_after g h = subst (λ t. A (plain (function_of g)) (plain t)) (image_roll r same_sels (Term-F.Func g)) (after_value same_mode h)

  -- the function that a method expression stands for
  receiver_image : (t : Term) (g : Signature) → image_of_signature r same_sels (with_receiver t g) ≡ with_receiver (to t) (image_of_signature r same_sels g)
  receiver_image t g =
      image_of_made (t ∷ (out-Signature g).params) (out-Signature g).results (out-Signature g).variadic
      ∙ ap (λ x. made_signature (to t ∷ x.params) x.variadic x.results) (sym (out_image_signature r same_sels g))

  receiver_reached : (t : Term) (g : Signature) → R t → R (function_type g) → R (function_type (with_receiver t g))
  receiver_reached t g h k = let s = signature_parts g k in signature_reached (t ∷ (out-Signature g).params) (out-Signature g).results (out-Signature g).variadic (h, s.0) s.1

  receiver_after : (t : Term) (g : Signature) → R t → R (function_type g) → A (plain (function_of (with_receiver t g))) (plain (function_of (with_receiver (to t) (image_of_signature r same_sels g))))
  receiver_after t g h k = subst (λ s. A (plain (function_of (with_receiver t g))) (plain (function_of s))) (receiver_image t g) (function_after (with_receiver t g) (receiver_reached t g h k))

  -- ---- use of values

  usable : {o q : Operand} {t : Term} → A o q → R t → UsableAs E o t → UsableAs F q (to t)
  usable a h u = usable_kept E F r pairs std is_open K a h u

  typed : {o q : Operand} {t : Term} → A o q → IsTyped o t → IsTyped q (to t) × R t
  typed a i = typed_after r pairs std is_open a i

  same_bits : (v : Value) (b : Basic) → is_representable v b E.bits ≡ true → is_representable v b F.bits ≡ true
  same_bits v b e = subst (λ n. is_representable v b n ≡ true) (sym K.bits) e

  measures_kept : (f : Predeclared) (t : Term) → R t → measures f (under E.table t) ≡ true → measures f (under F.table (to t)) ≡ true
  measures_kept f t h m = ap (measures f) (V.form_kept E F r pairs std is_open K t (under E.table t) h (measures_plain f (under E.table t) m) refl).0 ∙ measures_image r f (under E.table t) ∙ m

  -- what is made of an operand whose mode is known
  pointer_operand : {e : Expr} (t : Term) → (q : Operand) × Has F e q × A (type_name t) q → (q : Operand) × HasForm F (Expr-F.Prefix prefix.Dereference e) q × A (type_name (pointer_to t)) q
  pointer_operand {e = e} t (q, a, after_value same_mode h) = (type_name (to (pointer_to t)), subst (λ z. HasForm F (Expr-F.Prefix prefix.Dereference e) (type_name z)) (pointer_image t) (has_pointer_type a), after_value same_mode (made_pointer t h))
  pointer_operand t (q, a, after_bare h) = absurd h

  address_operand : {e : Expr} (t : Term) → (q : Operand) × Has F e q × A (variable t) q → (q : Operand) × HasForm F (Expr-F.Prefix prefix.Address e) q × A (plain (pointer_to t)) q
  address_operand {e = e} t (q, a, after_value same_mode h) = (plain (to (pointer_to t)), subst (λ z. HasForm F (Expr-F.Prefix prefix.Address e) (plain z)) (pointer_image t) (has_address a), after_value same_mode (made_pointer t h))
  address_operand t (q, a, after_bare h) = absurd h

  literal_address : {e : Expr} (t : Term) → IsComposite e → (q : Operand) × Has F e q × A (plain t) q → (q : Operand) × HasForm F (Expr-F.Prefix prefix.Address e) q × A (plain (pointer_to t)) q
  literal_address {e = e} t i (q, a, after_value same_mode h) = (plain (to (pointer_to t)), subst (λ z. HasForm F (Expr-F.Prefix prefix.Address e) (plain z)) (pointer_image t) (has_literal_address i a), after_value same_mode (made_pointer t h))
  literal_address {e = e} t i (q, a, after_value addressable h) = (plain (to (pointer_to t)), subst (λ z. HasForm F (Expr-F.Prefix prefix.Address e) (plain z)) (pointer_image t) (has_address a), after_value same_mode (made_pointer t h))
  literal_address t i (q, a, after_bare h) = absurd h

  constant_prefix : {op : PrefixOperator} {u : UnaryOp} {e : Expr} {c : ConstTerm} {v w : Value} {k : Kind} → unary_operator op ≡ Some u → HasKind E c k → unary_value u v k E.bits ≡ Some w → (q : Operand) × Has F e q × A (constant_of c v) q → (q : Operand) × HasForm F (Expr-F.Prefix op e) q × A (constant_of c w) q
  constant_prefix {u = u} {c = c} {v = v} {w = w} {k = k} x i e (q, a, after_constant h) = (constant_of (const_to r c) w, has_constant_prefix x a (kind_kept E F r pairs std is_open K h i) (subst (λ b. unary_value u v k b ≡ Some w) (sym K.bits) e), after_constant h)
  constant_prefix x i e (q, a, after_bare h) = absurd h

  interface_level : (t : Term) (ms : List Method) → R t → under E.table t ≡ Term-F.Interface ms → (ns : List Method) × (under F.table (to t) ≡ Term-F.Interface ns)
  interface_level t ms h e = calls.is_interface (under F.table (to t)) (calls.interface_kept E F r pairs std is_open K t h (ap interface_layer e))

  index : {o q : Operand} {n : Option ℕ} → A o q → IsIndex E o n → IsIndex F q n
  index a x = operators.index_kept E F r pairs std is_open K a x

  text : {o q : Operand} {n : Option ℕ} → A o q → IsString E o n → IsString F q n
  text a x = operators.string_kept E F r pairs std is_open K a x

  -- arguments and results of a call
  fits_image : (g : Signature) {dots : Bool} {qs : List Operand} → ArgumentsFit F (out-Signature g).variadic dots (map to (out-Signature g).params) qs → ArgumentsFit F (out-Signature (image_of_signature r same_sels g)).variadic dots (out-Signature (image_of_signature r same_sels g)).params qs
  fits_image g {dots = dots} {qs = qs} w = subst (λ (s : _). ArgumentsFit F s.variadic dots s.params qs) (sym (out_image_signature r same_sels g)) w

  call_result : (g : Signature) → Each R (out-Signature g).results → A (results_of (out-Signature g).results) (results_of (out-Signature (image_of_signature r same_sels g)).results)
  call_result g h = subst (λ (s : _). A (results_of (out-Signature g).results) (results_of s.results)) (sym (out_image_signature r same_sels g)) (results.results_after r pairs std is_open (out-Signature g).results h)

  -- a type that is named stays so
  named : {e : Expr} (t : Term) → (q : Operand) × Has F e q × A (type_name t) q → Has F e (type_name (to t)) × R t
  named {e = e} t f = let n = results.named_after r pairs std is_open f.2 in (subst (Has F e) n.0 f.1, n.1)

  embeds_own : (star : Bool) (q : QualifiedName) (u : Term) → EmbedsField G star q → IsTypeName E q u → IsOwnLayer (out-Term (base_of (starred star u)))
  embeds_own star q u m a = embeds E G more barred star q u m a

  embeds_interface : (q : QualifiedName) (u : Term) → EmbedsInterface G q → IsTypeName E q u → IsOwnLayer (out-Term u)
  embeds_interface q u m a = embeds_too E G more barred q u m a

  -- ---- expressions

  mutual
    pub has_kept : {e : Expr} {o : Operand} → Has E e o → Meets G (expression e) → (q : Operand) × Has F e q × A o q
    has_kept (has_operand {e = e} a s) m = let f = form_kept a (meets_parts G (expression e) m) in (f.0, has_operand f.1 (within_after r pairs std is_open f.2 s), f.2)

    pub form_kept : {l : ExprLayer} {o : Operand} → HasForm E l o → Met (expression_parts l) → (q : Operand) × HasForm F l q × A o q
    form_kept has_int h = (_, has_int, after_constant tt)
    form_kept has_rune h = (_, has_rune, after_constant tt)
    form_kept (has_string i) h = (_, has_string i, after_constant tt)
    form_kept (has_name {n = n} {o = o} d) h = let f = name_kept E F r pairs std is_open K n o d in (f.0, has_name f.1, f.2)
    form_kept (has_paren a) h = let f = has_kept a h.0 in (f.0, has_paren f.1, f.2)
    form_kept (has_type {u = u} a) h = let f = type_kept a h.0 in (type_name (to u), has_type f.0, after_value same_mode f.1)
    form_kept (has_receive_type {t = x} {u = u} a) h =
        let f = type_kept a h.0 in
        (type_name (to (channel_of direction.ReceiveOnly u)), subst (λ t. HasForm F (Expr-F.ParenReceiveChan x) (type_name t)) (sym (image_roll r same_sels (Term-F.Chan direction.ReceiveOnly u))) (has_receive_type f.0), after_value same_mode (made (Term-F.Chan direction.ReceiveOnly u) tt (one u f.1)))
    form_kept (has_function {g = g} {body = body} {h = k} a) h =
        let m = meets_parts G (at_signature g) h.0 in
        let f = signature_kept a (each_left (Meets G) (parameter_parts (out-Sig g).parameters) (optional_result_parts (out-Sig g).result) m) (each_right (Meets G) (parameter_parts (out-Sig g).parameters) (optional_result_parts (out-Sig g).result) m) in
        (plain (function_of (image_of_signature r same_sels k)), has_function f.0, function_after k f.1)
    form_kept (has_composite {u = u} a x) h = let f = type_kept a h.0 in (plain (to u), has_composite f.0 (elements_kept x f.1 h.1), after_value same_mode f.1)
    form_kept (has_composite_array {t = t} {u = u} {xs = xs} {n = n} a x) h =
        let f = type_kept a h.0 in
        (plain (to (array_of n u)), subst (λ z. HasForm F (Expr-F.CompositeArray t xs) (plain z)) (sym (image_roll r same_sels (Term-F.Array n u))) (has_composite_array f.0 (indexed_kept x f.1 h.1)), after_value same_mode (made (Term-F.Array n u) tt (one u f.1)))
    form_kept (has_dereference {t = t} {u = u} a i e) h = let f = has_kept a h.0 in let j = typed f.2 i in let g = pointer_form t u j.1 e in (variable (to u), has_dereference f.1 j.0 g.0, after_value same_mode g.1)
    form_kept (has_pointer_type {t = t} a) h = pointer_operand t (has_kept a h.0)
    form_kept (has_address {t = t} a) h = address_operand t (has_kept a h.0)
    form_kept (has_literal_address {t = t} i a) h = literal_address t i (has_kept a h.0)
    form_kept (has_receive {t = t} {u = u} {d = d} a i e c) h = let f = has_kept a h.0 in let j = typed f.2 i in let g = channel_form t u d j.1 e in (plain (to u), has_receive f.1 j.0 g.0 c, after_value same_mode g.1)
    form_kept (has_constant_prefix x a k e) h = constant_prefix x k e (has_kept a h.0)
    form_kept (has_prefix {c = c} x a b i k j) h =
        let f = has_kept a h.0 in let d = of_after r pairs std is_open f.2 i in
        (computed (const_to r c), has_prefix x f.1 (operators.constant_mode r pairs std is_open f.2 ∙ b) d.0 (kind_kept E F r pairs std is_open K d.1 k) j, operators.computed_after r pairs std is_open c d.1)
    form_kept (has_or a c) h = let f = has_kept a h.0 in let g = logical_kept c f.2 h.1 in (g.0, has_or f.1 g.1, g.2)
    form_kept (has_and a c) h = let f = has_kept a h.0 in let g = logical_kept c f.2 h.1 in (g.0, has_and f.1 g.1, g.2)
    form_kept (has_compare a c) h = let f = has_kept a h.0 in let g = comparisons_kept c f.2 h.1 in (g.0, has_compare f.1 g.1, g.2)
    form_kept (has_sum a c) h = let f = has_kept a h.0 in let g = sums_kept c f.2 h.1 in (g.0, has_sum f.1 g.1, g.2)
    form_kept (has_product a c) h = let f = has_kept a h.0 in let g = products_kept c f.2 h.1 in (g.0, has_product f.1 g.1, g.2)
    form_kept (has_primary a c) h = let f = has_kept a h.0 in let g = posts_kept c f.2 h.1 in (g.0, has_primary f.1 g.1, g.2)
    form_kept (has_imported {q = x} {n = n} {o = o} e i d s y) h =
        let f = imported_kept E F r pairs std is_open K x n o d in let g = posts_kept y f.2 h.1.1 in
        (g.0, has_imported e i f.1 (within_after r pairs std is_open f.2 s) g.1, g.2)

    logical_kept : {op : BinaryOp} {o s q : Operand} {es : List Expr} → HasLogical E op o es s → A o q → Met (map expression es) → (z : Operand) × HasLogical F op q es z × A s z
    logical_kept logical_none i h = (_, logical_none, i)
    logical_kept (logical_more a c x) i h = let f = has_kept a h.0 in let g = operators.computes_kept E F r pairs std is_open K i f.2 c in let k = logical_kept x g.2 h.1 in (k.0, logical_more f.1 g.1 k.1, k.2)

    comparisons_kept : {o s q : Operand} {ops : List CompareOp} {es : List Expr} → HasComparisons E o ops es s → A o q → Met (map expression es) → (z : Operand) × HasComparisons F q ops es z × A s z
    comparisons_kept comparisons_none i h = (_, comparisons_none, i)
    comparisons_kept (comparisons_more a c x) i h = let f = has_kept a h.0 in let g = operators.comparison_kept E F r pairs std is_open K i f.2 c in let k = comparisons_kept x g.2 h.1 in (k.0, comparisons_more f.1 g.1 k.1, k.2)

    sums_kept : {o s q : Operand} {ops : List SumOperator} {es : List Expr} → HasSum E o ops es s → A o q → Met (map expression es) → (z : Operand) × HasSum F q ops es z × A s z
    sums_kept sum_none i h = (_, sum_none, i)
    sums_kept (sum_more a c x) i h = let f = has_kept a h.0 in let g = operators.computes_kept E F r pairs std is_open K i f.2 c in let k = sums_kept x g.2 h.1 in (k.0, sum_more f.1 g.1 k.1, k.2)

    products_kept : {o s q : Operand} {ops : List ProductOperator} {es : List Expr} → HasProduct E o ops es s → A o q → Met (map expression es) → (z : Operand) × HasProduct F q ops es z × A s z
    products_kept product_none i h = (_, product_none, i)
    products_kept (product_more {op = op} a c x) i h = let f = has_kept a h.0 in let g = operators.product_kept E F r pairs std is_open K (product_operator op) i f.2 c in let k = products_kept x g.2 h.1 in (k.0, product_more f.1 g.1 k.1, k.2)

    posts_kept : {o s q : Operand} {xs : List Post} → HasPosts E o xs s → A o q → Met (map post xs) → (z : Operand) × HasPosts F q xs z × A s z
    posts_kept posts_none i h = (_, posts_none, i)
    posts_kept (posts_more {x = x} a s y) i h = let f = post_kept a i (meets_parts G (post x) h.0) in let k = posts_kept y f.2 h.1 in (k.0, posts_more f.1 (within_after r pairs std is_open f.2 s) k.1, k.2)

    post_kept : {o s q : Operand} {l : PostLayer} → HasPost E o l s → A o q → Met (post_parts l) → (z : Operand) × HasPost F q l z × A s z
    post_kept {o = o} {q = q} (post_field {t = t} {u = u} {n = n} {through = k} b i f) a h =
        let j = typed a i in let g = selected.field_kept E F r pairs std is_open K n t k u j.1 b f in
        (value_of (reached (if g.0 then true else is_variable q.mode)) (to u), post_field b j.0 g.1, after_value (results.through_after r pairs std is_open k g.0 o.mode q.mode g.2 (results.mode_after r pairs std is_open a)) g.3)
    post_kept {o = o} {q = q} (post_method {t = t} {n = n} {g = g} b i m) a h =
        let j = typed a i in let f = selected.called_kept E F r pairs std is_open K n (is_variable o.mode) t g j.1 m in (
          plain (function_of (image_of_signature r same_sels g)),
          post_method b j.0 (selected.raised F (is_variable o.mode) (is_variable q.mode) (to t) (selector_of F n.text) (image_of_signature r same_sels g) (results.variable_stays r pairs std is_open a) f.0),
          function_after g f.1,
        )
    post_kept (post_method_expression {t = t} {n = n} {g = g} b m) a h =
        let k = results.named_after r pairs std is_open a in let f = selected.called_kept E F r pairs std is_open K n false t g k.1 m in (
          plain (function_of (with_receiver (to t) (image_of_signature r same_sels g))),
          subst (λ z. HasPost F z (Post-F.Selector n) (plain (function_of (with_receiver (to t) (image_of_signature r same_sels g))))) (sym k.0) (post_method_expression b f.0),
          receiver_after t g k.1 f.1,
        )
    post_kept (post_assertion {t = t} {u = u} {ms = ms} i e y m) a h =
        let j = typed a i in let f = type_kept y h.0 in let d = interface_level t ms j.1 e in
        (plain (to u), post_assertion j.0 d.1 f.0 (calls.may_hold_kept E F r pairs std is_open K t u j.1 f.1 m), after_value same_mode f.1)
    post_kept {o = o} {q = q} (post_array {t = t} {e = u} {n = n} i e y x b) a h =
        let j = typed a i in let g = array_form t u n j.1 e in let f = has_kept y h.0 in
        (value_of (reached (is_variable q.mode)) (to u), post_array j.0 g.0 f.1 (index f.2 x) b, after_value (results.mode_after r pairs std is_open a) g.1)
    post_kept (post_array_pointer {t = t} {base = base} {e = u} {n = n} i e d y x b) a h =
        let j = typed a i in let g = pointer_form t base j.1 e in let m = array_form base u n g.1 d in let f = has_kept y h.0 in
        (variable (to u), post_array_pointer j.0 g.0 m.0 f.1 (index f.2 x) b, after_value same_mode m.1)
    post_kept (post_slice_index {t = t} {e = u} i e y x) a h =
        let j = typed a i in let g = slice_form t u j.1 e in let f = has_kept y h.0 in
        (variable (to u), post_slice_index j.0 g.0 f.1 (index f.2 x), after_value same_mode g.1)
    post_kept (post_string s y x b) a h = let f = has_kept y h.0 in (plain (basic_term basic.Uint8), post_string (text a s) f.1 (index f.2 x) b, basic_after basic.Uint8)
    post_kept (post_map {t = t} {k = key} {e = u} i e y x) a h =
        let j = typed a i in let g = map_form t key u j.1 e in let f = has_kept y h.0 in
        (value_of mode.MapElement (to u), post_map j.0 g.0 f.1 (usable f.2 g.1 x), after_value same_mode g.2)
    post_kept (post_slice {low = low} {high = high} s x y b) a h =
        let g = calls.slices_kept E F r pairs std is_open K a s in
        (g.0, post_slice g.1 (optional_kept x (each_left (Meets G) (optional expression low) (optional expression high) h)) (optional_kept y (each_right (Meets G) (optional expression low) (optional expression high) h)) b, g.2)
    post_kept (post_full_slice {low = low} {high = high} {bound = bound} s x y z b) a h =
        let g = calls.slices_kept E F r pairs std is_open K a s in let k = each_right (Meets G) (optional expression low) (expression high ∷ expression bound ∷ []) h in
        (g.0, post_full_slice g.1 (optional_kept x (each_left (Meets G) (optional expression low) (expression high ∷ expression bound ∷ []) h)) (optional_kept y (k.0, tt)) (optional_kept z (k.1.0, tt)) b, g.2)
    post_kept (post_conversion {x = x} {t = t} c y v) a h =
        let k = results.named_after r pairs std is_open a in let f = has_kept y (met.call_met G c h).0 in let g = calls.converts_kept E F r pairs std is_open K f.2 k.1 v in
        (g.0, subst (λ z. HasPost F z x g.0) (sym k.0) (post_conversion c f.1 g.1), g.2)
    post_kept (post_call {t = t} {g = g} c i e y w) a h =
        let j = typed a i in let d = function_form t g j.1 e in let f = arguments_kept y (met.call_met G c h) in (
          results_of (out-Signature (image_of_signature r same_sels g)).results,
          post_call c j.0 d.0 f.1 (fits_image g (calls.arguments_kept E F r pairs std is_open K f.0 f.2 d.1 w)),
          call_result g d.2,
        )
    post_kept (post_builtin {x = x} c b) a h = let f = builtin_kept b (met.call_met G c h) in (f.0, subst (λ z. HasPost F z x f.0) (sym (results.builtin_after r pairs std is_open a)) (post_builtin c f.1), f.2)

    optional_kept : {e : Option Expr} {c : Option ℕ} → HasOptional E e c → Met (optional expression e) → HasOptional F e c
    optional_kept optional_none h = optional_none
    optional_kept (optional_some a i) h = let f = has_kept a h.0 in optional_some f.1 (index f.2 i)

    pub each_kept : {es : List Expr} {os : List Operand} → HasEach E es os → Met (map expression es) → (qs : List Operand) × HasEach F es qs × AreAfter r pairs std is_open os qs
    each_kept each_none h = ([], each_none, tt)
    each_kept (each_more a x) h = let f = has_kept a h.0 in let g = each_kept x h.1 in (f.0 ∷ g.0, each_more f.1 g.1, (f.2, g.2))

    arguments_kept : {dots : Bool} {es : List Expr} {os : List Operand} → HasArguments E dots es os → Met (map expression es) → (qs : List Operand) × HasArguments F dots es qs × AreAfter r pairs std is_open os qs
    arguments_kept (arguments_each x) h = let f = each_kept x h in (f.0, arguments_each f.1, f.2)
    arguments_kept (arguments_tuple {e = e} {ts = ts} a) h =
        let f = has_kept a h.0 in let g = results.tuple_after r pairs std is_open f.2 in
        (map plain (map to ts), arguments_tuple (subst (Has F e) g.0 f.1), results.plains_after r pairs std is_open ts g.1)

    elements_kept : {t : Term} {xs : List Element} → HasElements E t xs → R t → Met (element_parts xs) → HasElements F (to t) xs
    elements_kept (elements_keyed {t = t} {fs = fs} e x o) k h =
        let d = fields.struct_kept E F r pairs std is_open K t fs k e in
        elements_keyed d.1 (keyed_kept x d.0 (fields.fields_kept E F r pairs std is_open K t fs d.0 k e d.1) h) o
    elements_kept (elements_unkeyed {t = t} {fs = fs} e n y x) k h =
        let i : is_imported_struct E.table t ≡ false = subst (λ b. (b && is_imported_struct E.table t) ≡ false) K.barred y in
        let c = C.neither _ _ (C.not_open E F r pairs std is_open K t k (fields.closed_struct E F r pairs std is_open K t fs i e)) in
        elements_unkeyed (fields.struct_image_kept E F r pairs std is_open K t fs k i e) (relations.entered E F r pairs std is_open K t k n) (fields.and_false F.profile (is_imported_struct F.table (to t)) c.0) (unkeyed_kept x (fields.all_fields E F r pairs std is_open K t fs k i e) h)
    elements_kept (elements_array {t = t} {e = u} {n = n} e x) k h = let g = array_form t u n k e in elements_array g.0 (indexed_kept x g.1 h)
    elements_kept (elements_slice {t = t} {e = u} e x) k h = let g = slice_form t u k e in elements_slice g.0 (indexed_kept x g.1 h)
    elements_kept (elements_map {t = t} {k = key} {e = u} e x) k h = let g = map_form t key u k e in elements_map g.0 (pairs_kept x g.1 g.2 h)

    keyed_kept : {fs : List Field} {xs : List Element} {ns : List (List ℕ)} → HasKeyed E fs xs ns → (gs : List Field) → fields.FieldsKept E F r pairs std is_open K fs gs → Met (element_parts xs) → HasKeyed F gs xs ns
    keyed_kept keyed_none gs w h = keyed_none
    keyed_kept (keyed_more {x = x} {xs = xs} {n = n} f i b j s v a u y) gs w h =
        let g = has_kept a (met.value_met G (out-Element x).value (element_value (Meets G) x xs h) v) in
        let l = w f j (subst IsClientSel (sym s) (client_sel n)) in
        keyed_more l.0 i b l.1 (l.2 ∙ s ∙ selected.sel_same E F r pairs std is_open K n) v g.1 (subst (UsableAs F g.0) (sym l.3) (usable g.2 l.4 u)) (keyed_kept y gs w (elements_rest (Meets G) x xs h))

    unkeyed_kept : {fs : List Field} {xs : List Element} → HasUnkeyed E fs xs → ((u : Term) → HasItem (map field_type fs) u → R u) → Met (element_parts xs) → HasUnkeyed F (map (image_of_field r same_sels) fs) xs
    unkeyed_kept unkeyed_none k h = unkeyed_none
    unkeyed_kept (unkeyed_more {f = f} {x = x} {xs = xs} i v a u s y) k h =
        let g = has_kept a (met.value_met G (out-Element x).value (element_value (Meets G) x xs h) v) in
        unkeyed_more i v g.1 (subst (UsableAs F g.0) (sym (fields.image_type E F r pairs std is_open K f)) (usable g.2 (k (field_type f) (inl refl)) u)) (fields.reachable_kept E F r pairs std is_open K f s) (unkeyed_kept y (λ t j. k t (inr j)) (elements_rest (Meets G) x xs h))

    indexed_kept : {t : Term} {l : Option ℕ} {next n : ℕ} {xs : List Element} → HasIndexed E t l next xs n → R t → Met (element_parts xs) → HasIndexed F (to t) l next xs n
    indexed_kept indexed_none k h = indexed_none
    indexed_kept (indexed_more {next = next} {x = x} {xs = xs} i c b f s) k h = indexed_more i (same_bits (value_of_constant.Int (pos next)) basic.Int c) b (element_kept f k (element_value (Meets G) x xs h)) (indexed_kept s k (elements_rest (Meets G) x xs h))
    indexed_kept (indexed_keyed {x = x} {xs = xs} {v = v} i e a j b f s) k h =
        let g = has_kept a (met.value_met G v (element_key (Meets G) x xs i h) e) in
        indexed_keyed i e g.1 (index g.2 j) b (element_kept f k (element_value (Meets G) x xs h)) (indexed_kept s k (elements_rest (Meets G) x xs h))

    pairs_kept : {key t : Term} {xs : List Element} → HasPairs E key t xs → R key → R t → Met (element_parts xs) → HasPairs F (to key) (to t) xs
    pairs_kept pairs_none j k h = pairs_none
    pairs_kept (pairs_more {x = x} {xs = xs} i f g s) j k h = pairs_more i (element_kept f j (element_key (Meets G) x xs i h)) (element_kept g k (element_value (Meets G) x xs h)) (pairs_kept s j k (elements_rest (Meets G) x xs h))

    pub element_kept : {t : Term} {v : ElementValue} → ElementFits E t v → R t → Meets G (value v) → ElementFits F (to t) v
    element_kept (fits_value {v = v} e a u) k h = let f = has_kept a (met.value_met G v h e) in fits_value e f.1 (usable f.2 k u)
    element_kept (fits_literal {v = v} e x) k h = fits_literal e (elements_kept x k (met.literal_met G v h e))
    element_kept (fits_address {t = t} {base = base} {v = v} e d x) k h = let g = pointer_form t base k d in fits_address e g.0 (elements_kept x g.1 (met.literal_met G v h e))

    builtin_kept : {f : Predeclared} {es : List Expr} {dots : Bool} {s : Operand} → HasBuiltin E f es dots s → Met (map expression es) → (q : Operand) × HasBuiltin F f es dots q × A s q
    builtin_kept (append_elements {os = os} {t = t} {u = u} a i e x k) h =
        let f = has_kept a h.0 in let j = typed f.2 i in let l = slice_form t u j.1 e in let g = each_kept x h.1 in
        (plain (to t), append_elements f.1 j.0 l.0 g.1 (calls.each_usable E F r pairs std is_open K u os g.0 l.1 g.2 k), after_value same_mode j.1)
    builtin_kept (append_slice {t = t} {u = u} a i e b k) h =
        let f = has_kept a h.0 in let j = typed f.2 i in let l = slice_form t u j.1 e in let g = has_kept b h.1.0 in
        (plain (to t), append_slice f.1 j.0 l.0 g.1 (subst (UsableAs F g.0) (slice_image u) (usable g.2 (made_slice u l.1) k)), after_value same_mode j.1)
    builtin_kept (append_string {t = t} a i e b k) h =
        let f = has_kept a h.0 in let j = typed f.2 i in let g = has_kept b h.1.0 in
        (plain (to t), append_string f.1 j.0 (bytes_form t j.1 e) g.1 (text g.2 k), after_value same_mode j.1)
    builtin_kept (len_string {n = n} a i b) h = let f = has_kept a h.0 in (int_constant n, len_string f.1 (text f.2 i) (same_bits (value_of_constant.Int (pos n)) basic.Int b), int_after n)
    builtin_kept (array_constant {n = n} m a i y w b) h =
        let f = has_kept a h.0 in let j = typed f.2 i in let g = operators.array_kept E F r pairs std is_open K j.1 y in
        (int_constant n, array_constant m f.1 j.0 g.0 (none_kept w h.0) (same_bits (value_of_constant.Int (pos n)) basic.Int b), int_after n)
    builtin_kept (array_value m a i y w) h =
        let f = has_kept a h.0 in let j = typed f.2 i in let g = operators.array_kept E F r pairs std is_open K j.1 y in
        (plain (basic_term basic.Int), array_value m f.1 j.0 g.0 (one_kept w h.0), basic_after basic.Int)
    builtin_kept (measure {f = w} {t = t} a c i m) h =
        let f = has_kept a h.0 in let j = typed f.2 i in
        (plain (basic_term basic.Int), measure f.1 (operators.constant_mode r pairs std is_open f.2 ∙ c) j.0 (measures_kept w t j.1 m), basic_after basic.Int)
    builtin_kept (close {t = t} {u = u} {d = d} a i e s) h = let f = has_kept a h.0 in let j = typed f.2 i in (no_value, close f.1 j.0 (channel_form t u d j.1 e).0 s, after_bare tt)
    builtin_kept (copy_slice {t = t} {u = u} {v = v} a i e b j d) h =
        let f = has_kept a h.0 in let g = has_kept b h.1.0 in let k = typed f.2 i in let l = typed g.2 j in
        (plain (basic_term basic.Int), copy_slice f.1 k.0 (slice_form t v k.1 e).0 g.1 l.0 (slice_form u v l.1 d).0, basic_after basic.Int)
    builtin_kept (copy_string {t = t} a i e b k) h =
        let f = has_kept a h.0 in let j = typed f.2 i in let g = has_kept b h.1.0 in
        (plain (basic_term basic.Int), copy_string f.1 j.0 (bytes_form t j.1 e) g.1 (text g.2 k), basic_after basic.Int)
    builtin_kept (delete {t = t} {k = key} {u = u} a i e b x) h =
        let f = has_kept a h.0 in let j = typed f.2 i in let l = map_form t key u j.1 e in let g = has_kept b h.1.0 in
        (no_value, delete f.1 j.0 l.0 g.1 (usable g.2 l.1 x), after_bare tt)
    builtin_kept (make {t = t} {ns = ns} a x k s) h =
        let n = named t (has_kept a h.0) in
        (plain (to t), make n.0 (sizes_kept x h.1) (calls.makes_kept E F r pairs std is_open K t (length ns) n.1 k) s, after_value same_mode n.1)
    builtin_kept (new {e = e} {t = t} a) h =
        let n = named t (has_kept a h.0) in
        (plain (to (pointer_to t)), subst (λ z. HasBuiltin F builtins.New (e ∷ []) false (plain z)) (pointer_image t) (new n.0), after_value same_mode (made_pointer t n.1))
    builtin_kept (panic a u) h = let f = has_kept a h.0 in (no_value, panic f.1 (subst (UsableAs F f.0) any_stays (usable f.2 any_reached u)), after_bare tt)
    builtin_kept (print {os = os} i x k) h = let f = each_kept x h in (no_value, print i f.1 (results.all_printed E F r pairs std is_open K os f.0 f.2 k), after_bare tt)
    builtin_kept recover h = (plain any_term, recover, any_after)

    sizes_kept : {es : List Expr} {ns : List (Option ℕ)} → HasSizes E es ns → Met (map expression es) → HasSizes F es ns
    sizes_kept sizes_none h = sizes_none
    sizes_kept (sizes_more a i x) h = let f = has_kept a h.0 in sizes_more f.1 (index f.2 i) (sizes_kept x h.1)

    none_kept : {e : Expr} → HoldsNone E e → Meets G (expression e) → HoldsNone F e
    none_kept (holds_none f g) h = holds_none f (λ y x before c s k. quiet_kept (g y x before c s k) (met.calls_met G (met.within G h s) k))

    quiet_kept : {x : Expr} {before : List Post} {c : Post} → IsQuietCall E x before c → met.CallMet G x before c → IsQuietCall F x before c
    quiet_kept (quiet_conversion {x = x} {before = before} a) k =
        let f = form_kept a (met.chain_met G x before k.operand k.posts) in let n = results.named_after r pairs std is_open f.2 in
        quiet_conversion (subst (HasForm F (chain x before)) n.0 f.1)
    quiet_kept (quiet_constant {x = x} {before = before} {c = c} a) k =
        let f = form_kept a (met.chain_met G x (before ++ c ∷ []) k.operand k.all) in let n = results.constant_after r pairs std is_open f.2 in
        quiet_constant (subst (HasForm F (chain x (before ++ c ∷ []))) n.0 f.1)

    one_kept : {e : Expr} → HoldsOne E e → Meets G (expression e) → HoldsOne F e
    one_kept (holds_receive x s i) h = holds_receive x s i
    one_kept (holds_call y x before c s k a i b j) h =
        let q = met.calls_met G (met.within G h s) k in
        let f = form_kept a (met.chain_met G x before q.operand q.posts) in
        let g = form_kept b (met.chain_met G x (before ++ c ∷ []) q.operand q.all) in
        holds_call y x before c s k f.1 (results.type_mode r pairs std is_open f.2 ∙ i) g.1 (operators.constant_mode r pairs std is_open g.2 ∙ j)

    -- ---- type forms

    pub type_kept : {t : Typ} {u : Term} → OfType E t u → Meets G (type t) → OfType F t (to u) × R u
    type_kept (of_type {t = t} {u = u} a s) m = let f = of_form_kept a (m.types t stands_here) (meets_parts G (type t) m) in (of_type f.0 (bounded r pairs std is_open u s), f.1)

    of_form_kept : {l : TypeLayer} {u : Term} → OfForm E l u → TypeMeets G l → Met (type_parts l) → OfForm F l (to u) × R u
    of_form_kept (of_name {q = q} {u = u} a) n h = let f = type_name_kept q u a in (of_name f.0, f.1)
    of_form_kept (of_paren a) n h = let f = type_kept a h.0 in (of_paren f.0, f.1)
    of_form_kept (of_pointer {t = t} {u = u} a) n h = let f = type_kept a h.0 in (rolled (Typ-F.Pointer t) (Term-F.Pointer u) (of_pointer f.0), made (Term-F.Pointer u) tt (one u f.1))
    of_form_kept (of_slice {t = t} {u = u} a) n h = let f = type_kept a h.0 in (rolled (Typ-F.«Type::Slice» t) (Term-F.Slice u) (of_slice f.0), made (Term-F.Slice u) tt (one u f.1))
    of_form_kept (of_array {e = e} {t = t} {u = u} {c = c} {n = k} x s a) n h =
        let g = has_kept x h.0 in let w = results.constant_after r pairs std is_open g.2 in let f = type_kept a h.1.0 in
        (rolled (Typ-F.Array e t) (Term-F.Array k u) (of_array (subst (Has F e) w.0 g.1) (same_bits (value_of_constant.Int (pos k)) basic.Int s) f.0), made (Term-F.Array k u) tt (one u f.1))
    of_form_kept (of_map {k = key} {t = t} {u = u} {v = v} a b) n h = let f = type_kept a h.0 in let g = type_kept b h.1.0 in (rolled (Typ-F.Map key t) (Term-F.Map u v) (of_map f.0 g.0), made (Term-F.Map u v) tt (two u v f.1 g.1))
    of_form_kept (of_channel {t = t} {u = u} a) n h = let f = type_kept a h.0 in (rolled (Typ-F.Chan t) (Term-F.Chan direction.Both u) (of_channel f.0), made (Term-F.Chan direction.Both u) tt (one u f.1))
    of_form_kept (of_send_channel {t = t} {u = u} a) n h = let f = type_kept a h.0 in (rolled (Typ-F.SendChan t) (Term-F.Chan direction.SendOnly u) (of_send_channel f.0), made (Term-F.Chan direction.SendOnly u) tt (one u f.1))
    of_form_kept (of_receive_channel {t = t} {u = u} a) n h = let f = type_kept a h.0 in (rolled (Typ-F.ReceiveChan t) (Term-F.Chan direction.ReceiveOnly u) (of_receive_channel f.0), made (Term-F.Chan direction.ReceiveOnly u) tt (one u f.1))
    of_form_kept (of_function {g = g} {h = k} a) n h =
        let p = meets_parts G (at_signature g) h.0 in
        let f = signature_kept a (each_left (Meets G) (parameter_parts (out-Sig g).parameters) (optional_result_parts (out-Sig g).result) p) (each_right (Meets G) (parameter_parts (out-Sig g).parameters) (optional_result_parts (out-Sig g).result) p) in
        (rolled (Typ-F.Func g) (Term-F.Func k) (of_function f.0), f.1)
    of_form_kept (of_struct {ds = ds} {fs = fs} x) n h = let f = fields_kept x n.1 h in (rolled (Typ-F.Struct ds) (Term-F.Struct fs) (of_struct f.0), made (Term-F.Struct fs) f.1.0 (λ u k. field_types fs u f.1.1 k))
    of_form_kept (of_interface {xs = xs} ms all x s i j) n h =
        let f = methods_kept x n.1 h in (
          rolled (Typ-F.Interface xs) (Term-F.Interface ms) (of_interface (methods_to ms) (methods_to all) f.0 (subst (IsStrictlySortedBy sel_order) (sym (method_sels r ms)) s) (mapped_in ms all i) (mapped_in all ms j)),
          made (Term-F.Interface ms) (each_made ms (λ m k. each_has (λ m. IsClientSel (method_sel m)) all m f.1.0 (i m k))) (λ u k. method_types ms u (each_made ms (λ m l. each_has (λ m. R (method_type m)) all m f.1.1 (i m l))) k),
        )

    pub signature_kept : {ds : List ParameterDecl} {o : Option FuncResult} {g : Signature} → OfSignature E ds o g → Met (parameter_parts ds) → Met (optional_result_parts o) → OfSignature F ds o (image_of_signature r same_sels g) × R (function_of g)
    signature_kept (signature_alone {ds = ds} {ts = ts} {variadic = v} a) h k = let f = parameters_kept a h in (subst (OfSignature F ds None) (sym (image_of_made ts [] v)) (signature_alone f.0), signature_reached ts [] v f.1 tt)
    signature_kept (signature_result {ds = ds} {r = o} {ts = ts} {us = us} {variadic = v} a b) h k = let f = parameters_kept a h in let g = result_kept b k in (subst (OfSignature F ds (Some o)) (sym (image_of_made ts us v)) (signature_result f.0 g.0), signature_reached ts us v f.1 g.1)

    parameters_kept : {ds : List ParameterDecl} {ts : List Term} {v : Bool} → OfParameters E ds ts v → Met (parameter_parts ds) → OfParameters F ds (map to ts) v × Each R ts
    parameters_kept parameters_none h = (parameters_none, tt)
    parameters_kept (parameters_more {d = d} {ds = ds} {u = u} {us = us} {variadic = v} f a x) h =
        let g = type_kept a h.0 in let k = parameters_kept x h.1 in
        (subst (λ ts. OfParameters F (d ∷ ds) ts v) (sym (map_append (for_names (out-ParameterDecl d).names u) us ∙ ap (λ ts. ts ++ map to us) (map_names (out-ParameterDecl d).names u))) (parameters_more f g.0 k.0), each_both R (for_names (out-ParameterDecl d).names u) us (each_names (out-ParameterDecl d).names u g.1) k.1)
    parameters_kept (parameters_variadic {d = d} {u = u} f l a) h = let g = type_kept a h.0 in (subst (λ t. OfParameters F (d ∷ []) (t ∷ []) true) (sym (slice_image u)) (parameters_variadic f l g.0), (made (Term-F.Slice u) tt (one u g.1), tt))

    result_kept : {l : ResultLayer} {ts : List Term} → OfResult E l ts → Met (result_parts l) → OfResult F l (map to ts) × Each R ts
    result_kept (result_parameters x) h = let f = parameters_kept x h in (result_parameters f.0, f.1)
    result_kept (result_type a) h = let f = type_kept a h.0 in (result_type f.0, (f.1, tt))

    pub fields_kept : {ds : List FieldDecl} {fs : List Field} → OfFields E ds fs → Each (λ d. FieldMeets G (out-FieldDecl d)) ds → Met (fields_parts ds) → OfFields F ds (fields_to fs) × MadeFields fs
    fields_kept fields_none n h = (fields_none, (tt, tt))
    fields_kept (fields_named {d = d} {ds = ds} {ns = ns} {tag = tag} {u = u} {fs = fs} e a x) n h =
        let g = type_kept a (subst (λ l. Met (field_parts l)) e (each_left (Meets G) (field_parts (out-FieldDecl d)) (fields_parts ds) h)).0 in
        let k = fields_kept x n.1 (each_right (Meets G) (field_parts (out-FieldDecl d)) (fields_parts ds) h) in
        (subst (OfFields F (d ∷ ds)) (sym (named_image u tag ns fs)) (fields_named e g.0 k.0), named_made u tag ns fs g.1 k.1)
    fields_kept (fields_embedded {d = d} {ds = ds} {star = star} {q = q} {tag = tag} u {fs = fs} e a x) n h =
        let g = type_name_kept q u a in
        let k = fields_kept x n.1 (each_right (Meets G) (field_parts (out-FieldDecl d)) (fields_parts ds) h) in
        let own = embeds_own star q u (subst (FieldMeets G) e n.0) a in
        (subst (OfFields F (d ∷ ds)) (λ i. (ap (λ t. field_of F true t tag q.name) (sym (starred_image star u)) ∙ sym (field_image true (starred star u) tag q.name)) i ∷ fields_to fs) (fields_embedded (to u) e g.0 k.0), ((field_made true (starred star u) tag q.name (λ y. own), k.1.0), (field_reached true (starred star u) tag q.name (starred_reached star u g.1), k.1.1)))

    pub methods_kept : {xs : List InterfaceElem} {ms : List Method} → OfMethods E xs ms → Each (λ x. ElementMeets G (out-InterfaceElem x)) xs → Met (elems_parts xs) → OfMethods F xs (methods_to ms) × MadeMethods ms
    methods_kept methods_none n h = (methods_none, (tt, tt))
    methods_kept (methods_method {x = x} {xs = xs} {n = name} {g = g} {h = k} {ms = ms} e a y) n h =
        let p = meets_parts G (at_signature g) (subst (λ l. Met (elem_parts l)) e (each_left (Meets G) (elem_parts (out-InterfaceElem x)) (elems_parts xs) h)).0 in
        let f = signature_kept a (each_left (Meets G) (parameter_parts (out-Sig g).parameters) (optional_result_parts (out-Sig g).result) p) (each_right (Meets G) (parameter_parts (out-Sig g).parameters) (optional_result_parts (out-Sig g).result) p) in
        let q = methods_kept y n.1 (each_right (Meets G) (elem_parts (out-InterfaceElem x)) (elems_parts xs) h) in
        (subst (OfMethods F (x ∷ xs)) (sym (ap (λ z. z ∷ methods_to ms) (method_image name k))) (methods_method e f.0 q.0), ((method_made name k, q.1.0), (method_reached name k f.1, q.1.1)))
    methods_kept (methods_embedded {x = x} {xs = xs} {q = name} u {ns = ns} {ms = ms} e a d y) n h =
        let f = type_name_kept name u a in
        let o = own_interface u ns (embeds_interface name u (subst (ElementMeets G) e n.0) a) d in
        let q = methods_kept y n.1 (each_right (Meets G) (elem_parts (out-InterfaceElem x)) (elems_parts xs) h) in
        (subst (OfMethods F (x ∷ xs)) (sym (map_methods ns ms)) (methods_embedded (to u) e f.0 o.0 q.0), (each_both (λ m. IsClientSel (method_sel m)) ns ms o.1.0 q.1.0, each_both (λ m. R (method_type m)) ns ms o.1.1 q.1.1))
