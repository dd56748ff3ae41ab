-- Type forms in two environments of a client: on the new side a form stands for the image of what it stood for, which the client reaches.
use Rattle.std.proofs.Common.{◌≡◌, inl, inr, ℕ, zero, suc, Bool, true, false, List, [], ◌∷◌, ◌++◌, length, map, replicate, refl, sym, ap, ◌∙◌, subst, Option, Some, None, if◌then◌else◌}
use Rattle.go_base.specs.Lists.{Each, Has as HasItem}
use Rattle.go_base.proofs.Members.{each_has}
use Rattle.std.specs.Prelude.{◌≤◌, pos}
use Rattle.go_model.specs.constants.Constants.{is_representable}
use Rattle.go_model.specs.declared.constants.value.Basic.TheVariants as basic
use Rattle.go_model.specs.declared.constants.value.Value.{Value}
use Rattle.go_model.specs.declared.constants.value.Value.TheVariants as value
use Rattle.go_model.specs.declared.types.names.Sel.{Sel}
use Rattle.go_model.specs.declared.types.package.ConstTerm.{ConstTerm}
use Rattle.go_model.specs.declared.types.package.Entity.{Entity}
use Rattle.go_model.specs.declared.types.package.Entity.TheVariants as entity
use Rattle.go_model.specs.declared.types.term.Direction.TheVariants as direction
use Rattle.go_model.specs.declared.types.term.Field.{Field, roll-Field, fold-roll-Field, out-roll-Field}
use Rattle.go_model.specs.declared.types.term.Method.{Method, roll-Method, fold-roll-Method, out-roll-Method}
use Rattle.go_model.specs.declared.types.package.Defined.{Defined}
use Rattle.go_model.specs.declared.constants.value.Basic.{Basic}
use Rattle.go_model.specs.types.Imports.{is_imported}
use Rattle.go_model.specs.types.MethodSets.{method_sel, sel_order}
use Rattle.go_model.specs.types.Underlying.{entry, under, under_entry, under_layer}
use Rattle.std.specs.List.Sorted.{IsStrictlySortedBy}
use Rattle.go_model.specs.declared.types.term.Signature.{Signature, roll-Signature, fold-roll-Signature, out-roll-Signature}
use Rattle.go_model.specs.declared.types.term.Term.{Term, Term-F, out-Term, roll-Term, out-roll-Term}
use Rattle.go_model.specs.declared.types.names.TypeName.{TypeName}
use Rattle.go_model.specs.types.Bounds.{IsWithinBounds}
use Rattle.go_model.specs.types.Selectors.{base_of}
use Rattle.go_model.specs.types.Terms.{Layer, slice_of}
use Rattle.go_rules.specs.Asks.{ElementMeets, EmbedsField, EmbedsInterface, FieldMeets, IsOwnLayer, Meets, TypeMeets}
use Rattle.go_rules.specs.Environments.{Env, is_exported, selector_of}
use Rattle.go_rules.specs.Expressions.{Denotes, DenotesImported, Has, IsTypeName, NamesType, OfFields, OfForm, OfMethods, OfParameters, methods_embedded, methods_method, methods_none, OfResult, OfSignature, OfType, field_of, fields_embedded, fields_named, fields_none, for_names, of_array, of_channel, of_function, of_interface, of_map, of_name, of_paren, of_pointer, of_receive_channel, of_send_channel, of_slice, of_struct, of_type, parameters_more, parameters_none, parameters_variadic, result_parameters, result_type, seen_operand, signature as made_signature, signature_alone, signature_result, starred, tag_of}
use Rattle.go_rules.specs.Nodes.{Node, ResultLayer, TypeLayer, expression, field_parts, fields_parts, elem_parts, elems_parts, optional_result_parts, parameter_parts, parts, result_parts, signature as at_signature, stands_here, stands_in, type, type_parts}
use Rattle.go_rules.specs.Operands.{constant_of, denoted, function_of, plain, type_name, variable}
use Rattle.go_rules.specs.declared.operand.Mode.TheVariants as mode
use Rattle.go_rules.proofs.OneName.{none_some, one_name, one_some}
use Rattle.go_rules.specs.Universe.{predeclared_operand}
use Rattle.go_rules.specs.declared.operand.Operand.{Operand}
use Rattle.go_rules.specs.declared.predeclared.Predeclared.{Predeclared}
use Rattle.go_rules.specs.declared.seen.Seen.{Seen}
use Rattle.go_rules.specs.declared.seen.Seen.TheVariants as seen
use Rattle.go_rules.proofs.LocalParts.{each_both, each_left, each_right}
use Rattle.go_rules.proofs.LocalTypes.{each_made}
use Rattle.go_syntax.specs.declared.expression.Expr.{Expr}
use Rattle.go_syntax.specs.declared.name.Name.{Name}
use Rattle.go_syntax.specs.declared.name.QualifiedName.{QualifiedName}
use Rattle.go_syntax.specs.declared.types.FieldDecl.{FieldDecl, out-FieldDecl}
use Rattle.go_syntax.specs.declared.types.FuncResult.{FuncResult}
use Rattle.go_syntax.specs.declared.types.InterfaceElem.{InterfaceElem, out-InterfaceElem}
use Rattle.go_syntax.specs.declared.types.ParameterDecl.{ParameterDecl, out-ParameterDecl}
use Rattle.go_syntax.specs.declared.types.Signature.{out-Signature as out-Sig}
use Rattle.go_syntax.specs.declared.types.«Type».{«Type» as Typ, «Type-F» as Typ-F}
use Rattle.go_type_images.specs.Images.{Naming, image, image_field_step, image_method_step, image_of_field, image_of_layer, image_of_method, image_of_signature, image_step, same_sels}
use Rattle.go_type_images.specs.Parts.{field_type, function_type, method_type, parts as part_types}
use Rattle.go_type_images.specs.declared.pair.TypePair.{TypePair}
use Rattle.go_type_images.specs.EntryImages.{entry_to, entity_to, const_to}
use Rattle.go_client_types.specs.Keeping.{EntityReached, IsKeptEntity, Keeps, SeenReached, seen_to, stays, varies}
use Rattle.go_client_types.specs.Reached.{IsClientSel, IsMade, IsMadeField, IsReached, reach_made}
use Rattle.go_type_images.proofs.ImageLevels.{image_roll, out_image}
use Rattle.go_type_images.proofs.ImageParts.{method_sels}
use Rattle.go_type_images.proofs.Sizes.{same_height, same_nodes}

-- what is asked in a tree is asked in its parts
pub meets_parts : (G : Env) (a : Node) → Meets G a → Each (Meets G) (parts a)
meets_parts G a m = each_made (parts a) (λ b k. record { types = λ t s. m.types t (stands_in k s); signatures = λ g s. m.signatures g (stands_in k s) })

no_constant : (c : ConstTerm) (v : Value) (t : Term) → constant_of c v ≡ type_name t → ⊥
no_constant c v t e = let m : mode.Constant ≡ mode.TypeName = ap (λ (o : Operand). o.mode) e in absurd (cc)

no_variable : (u t : Term) → variable u ≡ type_name t → ⊥
no_variable u t e = let m : mode.Variable ≡ mode.TypeName = ap (λ (o : Operand). o.mode) e in absurd (cc)

no_plain : (u t : Term) → plain u ≡ type_name t → ⊥
no_plain u t e = let m : mode.Plain ≡ mode.TypeName = ap (λ (o : Operand). o.mode) e in absurd (cc)

no_embedding : {A : Type 0} → false ≡ true → A
no_embedding e = absurd (cc)

no_interface : (n : TypeName) (ns : List Method) → ◌≡◌ {A = Layer} (Term-F.Named n) (Term-F.Interface ns) → ⊥
no_interface n ns e = absurd (cc)

no_plain_interface : (b : Basic) (ns : List Method) → ◌≡◌ {A = Layer} (Term-F.Plain b) (Term-F.Interface ns) → ⊥
no_plain_interface b ns e = absurd (cc)

one_interface : {ms ns : List Method} → ◌≡◌ {A = Layer} (Term-F.Interface ms) (Term-F.Interface ns) → ms ≡ ns
one_interface e = cc

module _ (E F G : Env) (r : Naming) (pairs : List TypePair) (std : TypeName → Bool) (is_open : Sel → Bool) (K : Keeps E F r pairs std is_open)
    (universe : (p : Predeclared) (t : Term) → predeclared_operand E.iota p ≡ Some (type_name t) → (image r same_sels t ≡ t) × IsReached pairs std is_open t)
    (embeds : (star : Bool) (q : QualifiedName) (u : Term) → EmbedsField G star q → IsTypeName E q u → IsOwnLayer (out-Term (base_of (starred star u))))
    (embeds_too : (q : QualifiedName) (u : Term) → EmbedsInterface G q → IsTypeName E q u → IsOwnLayer (out-Term u))
    (lengths : (e : Expr) (c : ConstTerm) (v : Value) → Has E e (constant_of c v) → Meets G (expression e) → Has F e (constant_of (const_to r c) v)) where
  abbrev to : Term → Term
  to = image r same_sels

  abbrev R : Term → Type 0
  R = IsReached pairs std is_open

  -- ---- names

  of_entity : (x : Entity) (t : Term) → denoted x ≡ type_name t → EntityReached pairs std is_open x → (denoted (entity_to r x) ≡ type_name (to t)) × R t
  of_entity (entity.TypeOf u) t e h = let s : u ≡ t = one_name e in (ap (λ z. type_name (to z)) s, subst R s h)
  of_entity (entity.Const c v) t e h = absurd (no_constant c v t e)
  of_entity (entity.Var u) t e h = absurd (no_variable u t e)
  of_entity (entity.Function g) t e h = absurd (no_plain (function_of g) t e)

  of_meaning : (m : Seen) (t : Term) → seen_operand E.iota m ≡ Some (type_name t) → SeenReached pairs std is_open m → (seen_operand F.iota (seen_to r m) ≡ Some (type_name (to t))) × R t
  of_meaning (seen.Local u) t e h = absurd (no_variable u t (one_some e))
  of_meaning (seen.LocalConst c v) t e h = absurd (no_constant c v t (one_some e))
  of_meaning (seen.Object x) t e h = let k = of_entity x t (one_some e) h in (ap Some k.0, k.1)
  of_meaning (seen.Import path) t e h = absurd (none_some e)
  of_meaning (seen.Universe p) t e h = let u = universe p t e in (ap (λ i. predeclared_operand i p) K.iota ∙ e ∙ ap (λ z. Some (type_name z)) (sym u.0), u.1)

  of_denotes : {n : Name} {t : Term} → Denotes E n (type_name t) → Denotes F n (type_name (to t)) × R t
  of_denotes {n = n} {t = t} d =
      let m = K.meanings n.text d.meaning d.means in let k = of_meaning d.meaning t d.denotes m.1 in
      (record { names = d.names; meaning = seen_to r d.meaning; means = m.0; denotes = k.0 }, k.1)

  of_kept : (x y : Entity) (t : Term) → IsKeptEntity r x y → denoted x ≡ type_name t → EntityReached pairs std is_open x → (denoted y ≡ type_name (to t)) × R t
  of_kept x y t stays e h = of_entity x t e h
  of_kept (entity.Function g) y t varies e h = absurd (no_plain (function_of g) t e)

  of_import : {q n : Name} {t : Term} → DenotesImported E q n (type_name t) → DenotesImported F q n (type_name (to t)) × R t
  of_import {q = q} {n = n} {t = t} d =
      let m = K.meanings q.text (seen.Import d.path) d.imported in
      let o = K.objects q.text d.path n.text d.object d.imported d.exported d.declared in
      let k = of_kept d.object o.0 t o.2 d.denotes o.3 in
      (record { names = d.names; path = d.path; object = o.0; imported = m.0; exported = d.exported; declared = o.1; denotes = k.0 }, k.1)

  by_name : (q : Option Name) (n : Name) (t : Term) → NamesType E q n t → NamesType F q n (to t) × R t
  by_name None n t d = of_denotes d
  by_name (Some q) n t d = of_import d

  pub type_name_kept : (q : QualifiedName) (t : Term) → IsTypeName E q t → IsTypeName F q (to t) × R t
  type_name_kept q t d = by_name q.qualifier q.name t d

  -- ---- types that are made

  pub made : (l : Layer) → IsMade l → ((u : Term) → HasItem (part_types l) u → R u) → R (roll-Term l)
  made l m h = reach_made (subst IsMade (sym (out-roll-Term l)) m) (λ u k. h u (subst (λ x. HasItem (part_types x) u) (out-roll-Term l) k))

  one : (t : Term) → R t → (u : Term) → HasItem (t ∷ []) u → R u
  one t h u (inl e) = subst R e h
  one t h u (inr k) = absurd k

  two : (s t : Term) → R s → R t → (u : Term) → HasItem (s ∷ t ∷ []) u → R u
  two s t h k u (inl e) = subst R e h
  two s t h k u (inr j) = one t k u j

  many : (ts : List Term) → Each R ts → (u : Term) → HasItem ts u → R u
  many ts h u k = each_has R ts u h k

  rolled : (f : TypeLayer) (l : Layer) → OfForm F f (roll-Term (image_of_layer r same_sels l)) → OfForm F f (to (roll-Term l))
  rolled f l h = subst (OfForm F f) (sym (image_roll r same_sels l)) h

  bounded : (t : Term) → IsWithinBounds t → IsWithinBounds (to t)
  bounded t b = record { small = subst (λ n. n ≤ 100000) (sym (same_nodes r same_sels t)) b.small; low = subst (λ n. n ≤ 256) (sym (same_height r same_sels t)) b.low }

  -- ---- signatures

  image_of_made : (ts us : List Term) (variadic : Bool) → image_of_signature r same_sels (made_signature ts variadic us) ≡ made_signature (map to ts) variadic (map to us)
  image_of_made ts us variadic = fold-roll-Signature Term Field Method Signature (image_step r) (image_field_step same_sels) (image_method_step same_sels) roll-Signature (record { params = ts; variadic = variadic; results = us })

  map_append : (xs ys : List Term) → map to (xs ++ ys) ≡ map to xs ++ map to ys
  map_append [] ys = refl
  map_append (x ∷ xs) ys = ap (λ zs. to x ∷ zs) (map_append xs ys)

  map_replicate : (n : ℕ) (t : Term) → map to (replicate n t) ≡ replicate n (to t)
  map_replicate zero t = refl
  map_replicate (suc n) t = ap (λ zs. to t ∷ zs) (map_replicate n t)

  map_names : (ns : List Name) (t : Term) → map to (for_names ns t) ≡ for_names ns (to t)
  map_names [] t = refl
  map_names (n ∷ ns) t = map_replicate (length (n ∷ ns)) t

  each_replicate : (n : ℕ) (t : Term) → R t → Each R (replicate n t)
  each_replicate zero t h = tt
  each_replicate (suc n) t h = (h, each_replicate n t h)

  each_names : (ns : List Name) (t : Term) → R t → Each R (for_names ns t)
  each_names [] t h = (h, tt)
  each_names (n ∷ ns) t h = each_replicate (length (n ∷ ns)) t h

  slice_image : (t : Term) → to (slice_of t) ≡ slice_of (to t)
  slice_image t = image_roll r same_sels (Term-F.Slice t)

  signature_reached : (ts us : List Term) (variadic : Bool) → Each R ts → Each R us → R (function_of (made_signature ts variadic us))
  signature_reached ts us variadic h k = made (Term-F.Func (made_signature ts variadic us)) tt (λ u j. many (ts ++ us) (each_both R ts us h k) u (subst (λ (x : _). HasItem (x.params ++ x.results) u) (out-roll-Signature (record { params = ts; variadic = variadic; results = us })) j))

  -- ---- fields

  client_sel : (n : Name) → IsClientSel (selector_of E n.text)
  client_sel n = by (is_exported n.text) refl
    where
      by : (b : Bool) → is_exported n.text ≡ b → IsClientSel (selector_of E n.text)
      by true e = inl (ap (λ b. if b then [] else E.path) e)
      by false e = inr (ap (λ b. if b then [] else E.path) e ∙ K.client)

  field_made : (embedded : Bool) (u : Term) (tag : Option (List ℕ)) (n : Name) → (embedded ≡ true → IsOwnLayer (out-Term (base_of u))) → IsMadeField (field_of E embedded u tag n)
  field_made embedded u tag n h = record {
    label = subst (λ (x : _). IsClientSel x.sel) (sym (out-roll-Field (record { sel = selector_of E n.text; embedded = embedded; term = u; tag = tag_of tag }))) (client_sel n);
    embeds = subst (λ (x : _). x.embedded ≡ true → IsOwnLayer (out-Term (base_of x.term))) (sym (out-roll-Field (record { sel = selector_of E n.text; embedded = embedded; term = u; tag = tag_of tag }))) h;
  }

  field_reached : (embedded : Bool) (u : Term) (tag : Option (List ℕ)) (n : Name) → R u → R (field_type (field_of E embedded u tag n))
  field_reached embedded u tag n h = subst (λ (x : _). R x.term) (sym (out-roll-Field (record { sel = selector_of E n.text; embedded = embedded; term = u; tag = tag_of tag }))) h

  field_image : (embedded : Bool) (u : Term) (tag : Option (List ℕ)) (n : Name) → image_of_field r same_sels (field_of E embedded u tag n) ≡ field_of F embedded (to u) tag n
  field_image embedded u tag n =
      fold-roll-Field Term Field Method Signature (image_step r) (image_field_step same_sels) (image_method_step same_sels) roll-Signature (record { sel = selector_of E n.text; embedded = embedded; term = u; tag = tag_of tag })
      ∙ ap (λ path. roll-Field (record { sel = record { name = n.text; «package» = if is_exported n.text then [] else path }; embedded = embedded; term = to u; tag = tag_of tag })) (sym K.path)

  abbrev fields_to : List Field → List Field
  fields_to fs = map (image_of_field r same_sels) fs

  named_image : (u : Term) (tag : Option (List ℕ)) (ns : List Name) (fs : List Field) → fields_to (map (field_of E false u tag) ns ++ fs) ≡ map (field_of F false (to u) tag) ns ++ fields_to fs
  named_image u tag [] fs = refl
  named_image u tag (n ∷ ns) fs = λ i. field_image false u tag n i ∷ named_image u tag ns fs i

  -- fields that a client makes, of types that it reaches
  abbrev MadeFields : List Field → Type 0
  MadeFields fs = Each IsMadeField fs × Each (λ f. R (field_type f)) fs

  named_made : (u : Term) (tag : Option (List ℕ)) (ns : List Name) (fs : List Field) → R u → MadeFields fs → MadeFields (map (field_of E false u tag) ns ++ fs)
  named_made u tag [] fs h k = k
  named_made u tag (n ∷ ns) fs h k = let j = named_made u tag ns fs h k in ((field_made false u tag n no_embedding, j.0), (field_reached false u tag n h, j.1))

  starred_image : (star : Bool) (u : Term) → to (starred star u) ≡ starred star (to u)
  starred_image false u = refl
  starred_image true u = image_roll r same_sels (Term-F.Pointer u)

  starred_reached : (star : Bool) (u : Term) → R u → R (starred star u)
  starred_reached false u h = h
  starred_reached true u h = made (Term-F.Pointer u) tt (one u h)

  field_types : (fs : List Field) (u : Term) → Each (λ f. R (field_type f)) fs → HasItem (map field_type fs) u → R u
  field_types [] u h k = absurd k
  field_types (f ∷ fs) u h (inl e) = subst R e h.0
  field_types (f ∷ fs) u h (inr k) = field_types fs u h.1 k

  -- ---- methods

  abbrev methods_to : List Method → List Method
  methods_to ms = map (image_of_method r same_sels) ms

  abbrev MadeMethods : List Method → Type 0
  MadeMethods ms = Each (λ m. IsClientSel (method_sel m)) ms × Each (λ m. R (method_type m)) ms

  method_types : (ms : List Method) (u : Term) → Each (λ m. R (method_type m)) ms → HasItem (map method_type ms) u → R u
  method_types [] u h k = absurd k
  method_types (m ∷ ms) u h (inl e) = subst R e h.0
  method_types (m ∷ ms) u h (inr k) = method_types ms u h.1 k

  all_types : (ms : List Method) → ((u : Term) → HasItem (map method_type ms) u → R u) → Each (λ m. R (method_type m)) ms
  all_types [] h = tt
  all_types (m ∷ ms) h = (h (method_type m) (inl refl), all_types ms (λ u k. h u (inr k)))

  in_mapped : (ms : List Method) (m : Method) → HasItem ms m → HasItem (methods_to ms) (image_of_method r same_sels m)
  in_mapped [] m k = absurd k
  in_mapped (n ∷ ms) m (inl e) = inl (ap (image_of_method r same_sels) e)
  in_mapped (n ∷ ms) m (inr k) = inr (in_mapped ms m k)

  of_mapped : (ms : List Method) (m : Method) → HasItem (methods_to ms) m → (n : Method) × HasItem ms n × (image_of_method r same_sels n ≡ m)
  of_mapped [] m k = absurd k
  of_mapped (n ∷ ms) m (inl e) = (n, inl refl, e)
  of_mapped (n ∷ ms) m (inr k) = let f = of_mapped ms m k in (f.0, inr f.1, f.2)

  mapped_in : (ms ns : List Method) → ((m : Method) → HasItem ms m → HasItem ns m) → (m : Method) → HasItem (methods_to ms) m → HasItem (methods_to ns) m
  mapped_in ms ns h m k = let f = of_mapped ms m k in subst (HasItem (methods_to ns)) f.2 (in_mapped ns f.0 (h f.0 f.1))

  map_methods : (ms ns : List Method) → methods_to (ms ++ ns) ≡ methods_to ms ++ methods_to ns
  map_methods [] ns = refl
  map_methods (m ∷ ms) ns = ap (λ xs. image_of_method r same_sels m ∷ xs) (map_methods ms ns)

  method_image : (n : Name) (h : Signature) → image_of_method r same_sels (roll-Method (record { sel = selector_of E n.text; signature = h })) ≡ roll-Method (record { sel = selector_of F n.text; signature = image_of_signature r same_sels h })
  method_image n h =
      fold-roll-Method Term Field Method Signature (image_step r) (image_field_step same_sels) (image_method_step same_sels) roll-Signature (record { sel = selector_of E n.text; signature = h })
      ∙ ap (λ path. roll-Method (record { sel = record { name = n.text; «package» = if is_exported n.text then [] else path }; signature = image_of_signature r same_sels h })) (sym K.path)

  method_made : (n : Name) (h : Signature) → IsClientSel (method_sel (roll-Method (record { sel = selector_of E n.text; signature = h })))
  method_made n h = subst (λ (x : _). IsClientSel x.sel) (sym (out-roll-Method (record { sel = selector_of E n.text; signature = h }))) (client_sel n)

  method_reached : (n : Name) (h : Signature) → R (function_of h) → R (method_type (roll-Method (record { sel = selector_of E n.text; signature = h })))
  method_reached n h k = subst (λ (x : _). R (function_type x.signature)) (sym (out-roll-Method (record { sel = selector_of E n.text; signature = h }))) k

  abbrev level_to : Layer → Layer
  level_to = image_of_layer r same_sels

  is_interface : {l : Layer} {ns : List Method} → IsMade l → ((u : Term) → HasItem (part_types l) u → R u) → l ≡ Term-F.Interface ns → MadeMethods ns
  is_interface {ns = ns} m h e = (subst IsMade e m, all_types ns (λ u k. h u (subst (λ x. HasItem (part_types x) u) (sym e) k)))

  interface_entry : (n : TypeName) (o : Option Defined) (ns : List Method) → is_imported n ≡ false → entry E.table n ≡ o → under_entry n o ≡ Term-F.Interface ns → (under_entry n (entry_to r o) ≡ Term-F.Interface (methods_to ns)) × MadeMethods ns
  interface_entry n None ns h e f = absurd (no_interface n ns f)
  interface_entry n (Some d) ns h e f = let o = K.own_entries n d h e in (out_image r same_sels d.underlying ∙ ap level_to f, is_interface o.made o.reached f)

  interface_of : (l : Layer) (ns : List Method) → IsOwnLayer l → under_layer E.table l ≡ Term-F.Interface ns → (under_layer F.table (level_to l) ≡ Term-F.Interface (methods_to ns)) × MadeMethods ns
  interface_of (Term-F.Named n) ns h e =
      let f = interface_entry n (entry E.table n) ns h refl e in
      (ap (λ m. under_layer F.table (Term-F.Named m)) (K.types.own n h) ∙ ap (under_entry n) (K.entries n h) ∙ f.0, f.1)
  interface_of (Term-F.Plain b) ns h e = absurd (no_plain_interface b ns e)
  interface_of (Term-F.Interface ms) ns h e = let s : ms ≡ ns = one_interface e in (ap (λ xs. Term-F.Interface (methods_to xs)) s, subst MadeMethods (sym h ∙ s) (tt, tt))
  interface_of (Term-F.Pointer t) ns h e = absurd h
  interface_of (Term-F.Slice t) ns h e = absurd h
  interface_of (Term-F.Array n t) ns h e = absurd h
  interface_of (Term-F.Map k t) ns h e = absurd h
  interface_of (Term-F.Chan d t) ns h e = absurd h
  interface_of (Term-F.Func g) ns h e = absurd h
  interface_of (Term-F.Struct fs) ns h e = absurd h

  own_interface : (u : Term) (ns : List Method) → IsOwnLayer (out-Term u) → under E.table u ≡ Term-F.Interface ns → (under F.table (to u) ≡ Term-F.Interface (methods_to ns)) × MadeMethods ns
  own_interface u ns h e = let f = interface_of (out-Term u) ns h e in (ap (under_layer F.table) (out_image r same_sels u) ∙ f.0, f.1)

  abbrev Met : List Node → Type 0
  Met bs = Each (Meets G) bs

  mutual
    pub type_kept : {t : Typ} {u : Term} → OfType E t u → Meets G (type t) → OfType F t (to u) × R u
    type_kept (of_type {t = t} {u = u} a s) m = let f = form_kept a (m.types t stands_here) (meets_parts G (type t) m) in (of_type f.0 (bounded u s), f.1)

    form_kept : {l : TypeLayer} {u : Term} → OfForm E l u → TypeMeets G l → Met (type_parts l) → OfForm F l (to u) × R u
    form_kept (of_name {q = q} {u = u} a) n h = let f = type_name_kept q u a in (of_name f.0, f.1)
    form_kept (of_paren a) n h = let f = type_kept a h.0 in (of_paren f.0, f.1)
    form_kept (of_pointer {t = t} {u = u} a) n h = let f = type_kept a h.0 in (rolled (Typ-F.Pointer t) (Term-F.Pointer u) (of_pointer f.0), made (Term-F.Pointer u) tt (one u f.1))
    form_kept (of_slice {t = t} {u = u} a) n h = let f = type_kept a h.0 in (rolled (Typ-F.«Type::Slice» t) (Term-F.Slice u) (of_slice f.0), made (Term-F.Slice u) tt (one u f.1))
    form_kept (of_array {e = e} {t = t} {u = u} {c = c} {n = k} x s a) n h =
        let g = lengths e c _ x h.0 in let f = type_kept a h.1.0 in
        (rolled (Typ-F.Array e t) (Term-F.Array k u) (of_array g (subst (λ b. is_representable (value.Int (pos k)) basic.Int b ≡ true) (sym K.bits) s) f.0), made (Term-F.Array k u) tt (one u f.1))
    form_kept (of_map {k = key} {t = t} {u = u} {v = v} a b) n h = let f = type_kept a h.0 in let g = type_kept b h.1.0 in (rolled (Typ-F.Map key t) (Term-F.Map u v) (of_map f.0 g.0), made (Term-F.Map u v) tt (two u v f.1 g.1))
    form_kept (of_channel {t = t} {u = u} a) n h = let f = type_kept a h.0 in (rolled (Typ-F.Chan t) (Term-F.Chan direction.Both u) (of_channel f.0), made (Term-F.Chan direction.Both u) tt (one u f.1))
    form_kept (of_send_channel {t = t} {u = u} a) n h = let f = type_kept a h.0 in (rolled (Typ-F.SendChan t) (Term-F.Chan direction.SendOnly u) (of_send_channel f.0), made (Term-F.Chan direction.SendOnly u) tt (one u f.1))
    form_kept (of_receive_channel {t = t} {u = u} a) n h = let f = type_kept a h.0 in (rolled (Typ-F.ReceiveChan t) (Term-F.Chan direction.ReceiveOnly u) (of_receive_channel f.0), made (Term-F.Chan direction.ReceiveOnly u) tt (one u f.1))
    form_kept (of_function {g = g} {h = k} a) n h =
        let p = meets_parts G (at_signature g) h.0 in
        let f = signature_kept a (each_left (Meets G) (parameter_parts (out-Sig g).parameters) (optional_result_parts (out-Sig g).result) p) (each_right (Meets G) (parameter_parts (out-Sig g).parameters) (optional_result_parts (out-Sig g).result) p) in
        (rolled (Typ-F.Func g) (Term-F.Func k) (of_function f.0), f.1)
    form_kept (of_struct {ds = ds} {fs = fs} x) n h = let f = fields_kept x n.1 h in (rolled (Typ-F.Struct ds) (Term-F.Struct fs) (of_struct f.0), made (Term-F.Struct fs) f.1.0 (λ u k. field_types fs u f.1.1 k))
    form_kept (of_interface {xs = xs} ms all x s i j) n h =
        let f = methods_kept x n.1 h in (
          rolled (Typ-F.Interface xs) (Term-F.Interface ms) (of_interface (methods_to ms) (methods_to all) f.0 (subst (IsStrictlySortedBy sel_order) (sym (method_sels r ms)) s) (mapped_in ms all i) (mapped_in all ms j)),
          made (Term-F.Interface ms) (each_made ms (λ m k. each_has (λ m. IsClientSel (method_sel m)) all m f.1.0 (i m k))) (λ u k. method_types ms u (each_made ms (λ m l. each_has (λ m. R (method_type m)) all m f.1.1 (i m l))) k),
        )

    pub signature_kept : {ds : List ParameterDecl} {o : Option FuncResult} {g : Signature} → OfSignature E ds o g → Met (parameter_parts ds) → Met (optional_result_parts o) → OfSignature F ds o (image_of_signature r same_sels g) × R (function_of g)
    signature_kept (signature_alone {ds = ds} {ts = ts} {variadic = v} a) h k = let f = parameters_kept a h in (subst (OfSignature F ds None) (sym (image_of_made ts [] v)) (signature_alone f.0), signature_reached ts [] v f.1 tt)
    signature_kept (signature_result {ds = ds} {r = o} {ts = ts} {us = us} {variadic = v} a b) h k = let f = parameters_kept a h in let g = result_kept b k in (subst (OfSignature F ds (Some o)) (sym (image_of_made ts us v)) (signature_result f.0 g.0), signature_reached ts us v f.1 g.1)

    parameters_kept : {ds : List ParameterDecl} {ts : List Term} {v : Bool} → OfParameters E ds ts v → Met (parameter_parts ds) → OfParameters F ds (map to ts) v × Each R ts
    parameters_kept parameters_none h = (parameters_none, tt)
    parameters_kept (parameters_more {d = d} {ds = ds} {u = u} {us = us} {variadic = v} f a x) h =
        let g = type_kept a h.0 in let k = parameters_kept x h.1 in
        (subst (λ ts. OfParameters F (d ∷ ds) ts v) (sym (map_append (for_names (out-ParameterDecl d).names u) us ∙ ap (λ ts. ts ++ map to us) (map_names (out-ParameterDecl d).names u))) (parameters_more f g.0 k.0), each_both R (for_names (out-ParameterDecl d).names u) us (each_names (out-ParameterDecl d).names u g.1) k.1)
    parameters_kept (parameters_variadic {d = d} {u = u} f l a) h = let g = type_kept a h.0 in (subst (λ t. OfParameters F (d ∷ []) (t ∷ []) true) (sym (slice_image u)) (parameters_variadic f l g.0), (made (Term-F.Slice u) tt (one u g.1), tt))

    result_kept : {l : ResultLayer} {ts : List Term} → OfResult E l ts → Met (result_parts l) → OfResult F l (map to ts) × Each R ts
    result_kept (result_parameters x) h = let f = parameters_kept x h in (result_parameters f.0, f.1)
    result_kept (result_type a) h = let f = type_kept a h.0 in (result_type f.0, (f.1, tt))

    fields_kept : {ds : List FieldDecl} {fs : List Field} → OfFields E ds fs → Each (λ d. FieldMeets G (out-FieldDecl d)) ds → Met (fields_parts ds) → OfFields F ds (fields_to fs) × MadeFields fs
    fields_kept fields_none n h = (fields_none, (tt, tt))
    fields_kept (fields_named {d = d} {ds = ds} {ns = ns} {tag = tag} {u = u} {fs = fs} e a x) n h =
        let g = type_kept a (subst (λ l. Met (field_parts l)) e (each_left (Meets G) (field_parts (out-FieldDecl d)) (fields_parts ds) h)).0 in
        let k = fields_kept x n.1 (each_right (Meets G) (field_parts (out-FieldDecl d)) (fields_parts ds) h) in
        (subst (OfFields F (d ∷ ds)) (sym (named_image u tag ns fs)) (fields_named e g.0 k.0), named_made u tag ns fs g.1 k.1)
    fields_kept (fields_embedded {d = d} {ds = ds} {star = star} {q = q} {tag = tag} u {fs = fs} e a x) n h =
        let g = type_name_kept q u a in
        let k = fields_kept x n.1 (each_right (Meets G) (field_parts (out-FieldDecl d)) (fields_parts ds) h) in
        let own = embeds star q u (subst (FieldMeets G) e n.0) a in
        (subst (OfFields F (d ∷ ds)) (λ i. (ap (λ t. field_of F true t tag q.name) (sym (starred_image star u)) ∙ sym (field_image true (starred star u) tag q.name)) i ∷ fields_to fs) (fields_embedded (to u) e g.0 k.0), ((field_made true (starred star u) tag q.name (λ y. own), k.1.0), (field_reached true (starred star u) tag q.name (starred_reached star u g.1), k.1.1)))

    methods_kept : {xs : List InterfaceElem} {ms : List Method} → OfMethods E xs ms → Each (λ x. ElementMeets G (out-InterfaceElem x)) xs → Met (elems_parts xs) → OfMethods F xs (methods_to ms) × MadeMethods ms
    methods_kept methods_none n h = (methods_none, (tt, tt))
    methods_kept (methods_method {x = x} {xs = xs} {n = name} {g = g} {h = k} {ms = ms} e a y) n h =
        let p = meets_parts G (at_signature g) (subst (λ l. Met (elem_parts l)) e (each_left (Meets G) (elem_parts (out-InterfaceElem x)) (elems_parts xs) h)).0 in
        let f = signature_kept a (each_left (Meets G) (parameter_parts (out-Sig g).parameters) (optional_result_parts (out-Sig g).result) p) (each_right (Meets G) (parameter_parts (out-Sig g).parameters) (optional_result_parts (out-Sig g).result) p) in
        let q = methods_kept y n.1 (each_right (Meets G) (elem_parts (out-InterfaceElem x)) (elems_parts xs) h) in
        (subst (OfMethods F (x ∷ xs)) (sym (ap (λ z. z ∷ methods_to ms) (method_image name k))) (methods_method e f.0 q.0), ((method_made name k, q.1.0), (method_reached name k f.1, q.1.1)))
    methods_kept (methods_embedded {x = x} {xs = xs} {q = name} u {ns = ns} {ms = ms} e a d y) n h =
        let f = type_name_kept name u a in
        let o = own_interface u ns (embeds_too name u (subst (ElementMeets G) e n.0) a) d in
        let q = methods_kept y n.1 (each_right (Meets G) (elem_parts (out-InterfaceElem x)) (elems_parts xs) h) in
        (subst (OfMethods F (x ∷ xs)) (sym (map_methods ns ms)) (methods_embedded (to u) e f.0 o.0 q.0), (each_both (λ m. IsClientSel (method_sel m)) ns ms o.1.0 q.1.0, each_both (λ m. R (method_type m)) ns ms o.1.1 q.1.1))
