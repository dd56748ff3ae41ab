-- Packages have finitely many features.
use Rattle.std.proofs.Common.{◌≡◌, ◌≢◌, ◌⊎◌, ℕ, Bool, true, false, List, [], ◌∷◌, ◌++◌, map, refl, sym, ap, ◌∙◌, subst, inl, inr}
use Rattle.std.specs.Prelude.{codes, None}
use Rattle.go_base.specs.Lists.{Each, Has}
use Rattle.go_existence.specs.Existence.{AreFinite}
use Rattle.go_existence.proofs.FiniteSets.{finite_image, finite_in, finite_less, finite_list, finite_one, finite_or, finite_over, has_left, has_map, has_right}
use Rattle.go_model.specs.declared.constants.value.Value.{Value}
use Rattle.go_model.specs.declared.types.names.Sel.{Sel}
use Rattle.go_model.specs.declared.types.package.ConstTerm.{ConstTerm}
use Rattle.go_model.specs.declared.types.package.Entity.{Entity}
use Rattle.go_model.specs.declared.types.package.Entity.TheVariants as entity
use Rattle.go_model.specs.declared.types.package.Object.{Object}
use Rattle.go_model.specs.declared.types.package.Package.{Package}
use Rattle.go_model.specs.declared.types.term.Field.{Field, out-Field}
use Rattle.go_model.specs.declared.types.term.Method.{Method, out-Method}
use Rattle.go_model.specs.declared.types.term.Signature.{Signature}
use Rattle.go_model.specs.declared.types.term.Term.{Term, Term-F, fold-roll-Term, roll-Term}
use Rattle.go_model.specs.types.MethodSets.{InSet}
use Rattle.go_model.specs.types.Tables.{Table}
use Rattle.go_model.specs.types.Terms.{Layer, pointer_to}
use Rattle.go_model.specs.types.TypeSelectors.{Sels, field_sels, method_sels, parameter_sels, sel_step, selectors}
use Rattle.go_model.specs.types.Underlying.{fields_of, methods_of, under}
use Rattle.go_model.specs.worlds.Worlds.{Packages, table_of}
use Rattle.go_selectors.proofs.UniqueFind.{signature_once}
use Rattle.api_features.proofs.ValueTexts.{value_once}
use Rattle.api_features.specs.ConstantTexts.{IsValueText}
use Rattle.api_features.specs.Features.{IsFeature, IsMethodRest, IsRest, IsTypeRest, constant_value, constant_kind, variable, function, alias, defined, defined_term, method, method_of_type, method_of_pointer, struct_type, struct_field, struct_embedded, interface_method, interface_unexported, interface_exported, interface_empty, plain_type, type_start}
use Rattle.api_features.specs.TypeTexts.{commas, constant_type, signature_text, type_text}
use Rattle.api_lines.specs.declared.line.Line.{Line}
use Rattle.api_line_outcomes.proofs.NamedSelectors.{IsNamed, all_selectors, named_sel}

module _ (packages : List Package) (path name : List ℕ) where
  -- ---- the lines of a type by what is underneath

  abbrev field_rest : Field → List ℕ
  field_rest f = type_start packages path name ++ codes " struct, " ++ (out-Field f).sel.name ++ codes " " ++ type_text packages path (out-Field f).term

  abbrev embedded_rest : Field → List ℕ
  embedded_rest f = type_start packages path name ++ codes " struct, embedded " ++ type_text packages path (out-Field f).term

  abbrev method_rest : Method → List ℕ
  method_rest m = type_start packages path name ++ codes " interface, " ++ (out-Method m).sel.name ++ signature_text packages path (out-Method m).signature

  abbrev single_rests : Layer → List (List ℕ)
  single_rests l =
      (type_start packages path name ++ codes " struct") ∷ (type_start packages path name ++ codes " interface, unexported methods")
      ∷ (type_start packages path name ++ codes " interface { " ++ commas (map (λ k. (out-Method k).sel.name) (methods_of l)) ++ codes " }")
      ∷ (type_start packages path name ++ codes " interface {}") ∷ (type_start packages path name ++ codes " " ++ type_text packages path (roll-Term l)) ∷ []

  abbrev other_rests : Layer → List (List ℕ)
  other_rests l = map field_rest (fields_of l) ++ (map embedded_rest (fields_of l) ++ map method_rest (methods_of l))

  abbrev type_rests : Layer → List (List ℕ)
  type_rests l = single_rests l ++ other_rests l

  of_single : (l : Layer) (r : List ℕ) → Has (single_rests l) r → Has (type_rests l) r
  of_single l r h = has_left (single_rests l) (other_rests l) r h

  of_others : (l : Layer) (r : List ℕ) → Has (other_rests l) r → Has (type_rests l) r
  of_others l r h = has_right (single_rests l) (other_rests l) r h

  listed : (l : Layer) (r : List ℕ) → IsTypeRest packages path name l r → Has (type_rests l) r
  listed l r (struct_type {fs = fs}) = of_single (Term-F.Struct fs) r (inl refl)
  listed l r (struct_field {fs = fs} f h x e) = of_others (Term-F.Struct fs) r (has_left (map field_rest fs) (map embedded_rest fs ++ []) (field_rest f) (has_map field_rest fs f h))
  listed l r (struct_embedded {fs = fs} f h x e) = of_others (Term-F.Struct fs) r (has_right (map field_rest fs) (map embedded_rest fs ++ []) (embedded_rest f) (has_left (map embedded_rest fs) [] (embedded_rest f) (has_map embedded_rest fs f h)))
  listed l r (interface_method {ms = ms} m h x) = of_others (Term-F.Interface ms) r (has_map method_rest ms m h)
  listed l r (interface_unexported {ms = ms} m h x) = of_single (Term-F.Interface ms) r (inr (inl refl))
  listed l r (interface_exported {m = m} {ms = ms} h) = of_single (Term-F.Interface (m ∷ ms)) r (inr (inr (inl refl)))
  listed l r interface_empty = of_single (Term-F.Interface []) r (inr (inr (inr (inl refl))))
  listed all r (plain_type {l = l} e) = of_single l r (inr (inr (inr (inr (inl refl)))))

  type_finite : (l : Layer) → AreFinite (IsTypeRest packages path name l)
  type_finite l = finite_in (IsTypeRest packages path name l) (type_rests l) (listed l)

  -- ---- those of methods

  abbrev MethodIn : Term → Sel × Signature → Type 0
  MethodIn t p = InSet (table_of packages) t p.0 p.1

  methods_finite : (t : Term) → Each (IsNamed packages) (selectors t) → AreFinite (MethodIn t)
  methods_finite t h =
      finite_less (MethodIn t) (λ (p : Sel × Signature). (s : Sel) × Has (all_selectors packages) s × ((g : Signature) × InSet (table_of packages) t s g × (p ≡ (s, g))))
      (λ p i. (p.0, named_sel packages t p.0 p.1 h i, (p.1, i, refl)))
      (finite_over (Has (all_selectors packages)) (λ s (p : Sel × Signature). (g : Signature) × InSet (table_of packages) t s g × (p ≡ (s, g))) (finite_list (all_selectors packages))
      (λ s k. finite_one (λ (p : Sel × Signature). (g : Signature) × InSet (table_of packages) t s g × (p ≡ (s, g)))
      (λ p q a b. a.2 ∙ ap (λ (g : Signature). (s, g)) (signature_once (table_of packages) s t a.0 b.0 a.1 b.1) ∙ sym b.2)))

  abbrev value_rest : Sel × Signature → List ℕ
  value_rest p = codes "method (" ++ name ++ codes ") " ++ p.0.name ++ signature_text packages path p.1

  abbrev pointer_rest : Sel × Signature → List ℕ
  pointer_rest p = codes "method (*" ++ name ++ codes ") " ++ p.0.name ++ signature_text packages path p.1

  abbrev MadeOf : (Sel × Signature → List ℕ) → Term → List ℕ → Type 0
  MadeOf made t r = (p : Sel × Signature) × MethodIn t p × (made p ≡ r)

  either_method : (t : Term) (r : List ℕ) → IsMethodRest packages path name (table_of packages) t r → MadeOf value_rest t r ⊎ MadeOf pointer_rest (pointer_to t) r
  either_method t r (method_of_type {s = s} {g = g} x i) = inl ((s, g), i, refl)
  either_method t r (method_of_pointer {s = s} {g = g} x i n) = inr ((s, g), i, refl)

  method_finite : (t : Term) → Each (IsNamed packages) (selectors t) → Each (IsNamed packages) (selectors (pointer_to t)) → AreFinite (IsMethodRest packages path name (table_of packages) t)
  method_finite t h k =
      finite_less (IsMethodRest packages path name (table_of packages) t) (λ r. MadeOf value_rest t r ⊎ MadeOf pointer_rest (pointer_to t) r) (either_method t)
      (finite_or (MadeOf value_rest t) (MadeOf pointer_rest (pointer_to t)) (finite_image value_rest (MethodIn t) (methods_finite t h)) (finite_image pointer_rest (MethodIn (pointer_to t)) (methods_finite (pointer_to t) k)))

  no_selectors : selectors (defined_term path name) ≡ []
  no_selectors = fold-roll-Term Sels Sels Sels Sels sel_step field_sels method_sels parameter_sels (Term-F.Named (record { path = path; name = name }))

  pointer_selectors : selectors (pointer_to (defined_term path name)) ≡ []
  pointer_selectors = fold-roll-Term Sels Sels Sels Sels sel_step field_sels method_sels parameter_sels (Term-F.Pointer (defined_term path name)) ∙ no_selectors

  own_methods_finite : AreFinite (IsMethodRest packages path name (table_of packages) (defined_term path name))
  own_methods_finite = method_finite (defined_term path name) (subst (Each (IsNamed packages)) (sym no_selectors) tt) (subst (Each (IsNamed packages)) (sym pointer_selectors) tt)

  -- ---- those of what a name denotes

  IsValueRest : Value → List ℕ → Type 0
  IsValueRest v r = (text : List ℕ) × IsValueText v text × (codes "const " ++ name ++ codes " = " ++ text ≡ r)

  value_finite : (v : Value) → AreFinite (IsValueRest v)
  unfolding IsValueRest
  value_finite v = finite_image (λ text. codes "const " ++ name ++ codes " = " ++ text) (IsValueText v) (finite_one (IsValueText v) (value_once v))

  IsTypeLine : Term → List ℕ → Type 0
  IsTypeLine t r = (type_start packages path name ++ codes " = " ++ type_text packages path t ≡ r) ⊎ IsTypeRest packages path name (under (table_of packages) t) r ⊎ IsMethodRest packages path name (table_of packages) (defined_term path name) r

  type_line : (t : Term) (r : List ℕ) → IsRest packages path name (entity.TypeOf t) r → IsTypeLine t r
  unfolding IsTypeLine
  type_line t r (alias e) = inl refl
  type_line t r (defined e h) = inr (inl h)
  type_line t r (method e f h) = inr (inr (subst (λ (w : Term). IsMethodRest packages path name (table_of packages) w r) e h))

  type_lines_finite : (t : Term) → AreFinite (IsTypeLine t)
  unfolding IsTypeLine
  type_lines_finite t =
      finite_or (λ r. type_start packages path name ++ codes " = " ++ type_text packages path t ≡ r) (λ r. IsTypeRest packages path name (under (table_of packages) t) r ⊎ IsMethodRest packages path name (table_of packages) (defined_term path name) r)
      (finite_in (λ r. type_start packages path name ++ codes " = " ++ type_text packages path t ≡ r) ((type_start packages path name ++ codes " = " ++ type_text packages path t) ∷ []) (λ r e. inl e))
      (finite_or (IsTypeRest packages path name (under (table_of packages) t)) (IsMethodRest packages path name (table_of packages) (defined_term path name)) (type_finite (under (table_of packages) t)) own_methods_finite)

  const_line : (t : ConstTerm) (v : Value) (r : List ℕ) → IsRest packages path name (entity.Const t v) r → IsValueRest v r ⊎ (codes "const " ++ name ++ codes " " ++ constant_type packages path t ≡ r)
  unfolding IsValueRest
  const_line t v r (constant_value {text = text} h) = inl (text, h, refl)
  const_line t v r constant_kind = inr refl

  variable_line : (t : Term) (r : List ℕ) → IsRest packages path name (entity.Var t) r → Has ((codes "var " ++ name ++ codes " " ++ type_text packages path t) ∷ []) r
  variable_line t r variable = inl refl

  function_line : (g : Signature) (r : List ℕ) → IsRest packages path name (entity.Function g) r → Has ((codes "func " ++ name ++ signature_text packages path g) ∷ []) r
  function_line g r function = inl refl

  pub rest_finite : (e : Entity) → AreFinite (IsRest packages path name e)
  rest_finite (entity.Const t v) =
      let kind : List ℕ = codes "const " ++ name ++ codes " " ++ constant_type packages path t in
      finite_less (IsRest packages path name (entity.Const t v)) (λ r. IsValueRest v r ⊎ (kind ≡ r)) (const_line t v)
      (finite_or (IsValueRest v) (λ r. kind ≡ r) (value_finite v) (finite_in (λ r. kind ≡ r) (kind ∷ []) (λ r e. inl e)))
  rest_finite (entity.Var t) = finite_in (IsRest packages path name (entity.Var t)) ((codes "var " ++ name ++ codes " " ++ type_text packages path t) ∷ []) (variable_line t)
  rest_finite (entity.Function g) = finite_in (IsRest packages path name (entity.Function g)) ((codes "func " ++ name ++ signature_text packages path g) ∷ []) (function_line g)
  rest_finite (entity.TypeOf t) = finite_less (IsRest packages path name (entity.TypeOf t)) (IsTypeLine t) (type_line t) (type_lines_finite t)

-- ---- all

abbrev line : List ℕ → List ℕ → Line
line path rest = record { path = path; context = None; rest = rest }

module _ (w : Packages) where
  abbrev OfObject : Package → Object → Line → Type 0
  OfObject p o l = (rest : List ℕ) × IsRest w.packages p.path o.name o.entity rest × (line p.path rest ≡ l)

  abbrev OfPackage : Package → Line → Type 0
  OfPackage p l = (o : Object) × Has p.objects o × OfObject p o l

  abbrev OfSome : Line → Type 0
  OfSome l = (p : Package) × Has w.packages p × OfPackage p l

  of_some : (l : Line) → IsFeature w l → OfSome l
  of_some l f = (f.of, f.here, (f.object, f.there, (l.rest, f.rest, λ i. record { path = f.path i; context = sym f.context i; rest = l.rest })))

  pub features_finite : AreFinite (IsFeature w)
  features_finite =
      finite_less (IsFeature w) OfSome of_some
      (finite_over (Has w.packages) OfPackage (finite_list w.packages) (λ p h.
      finite_over (Has p.objects) (OfObject p) (finite_list p.objects) (λ o k.
      finite_image (line p.path) (IsRest w.packages p.path o.name o.entity) (rest_finite w.packages p.path o.name o.entity))))
