-- A type whose names stay is its own image.
use Rattle.std.proofs.Common.{◌≡◌, inl, inr, List, [], ◌∷◌, ◌++◌, map, refl, sym, ap, ◌∙◌}
use Rattle.go_base.specs.Lists.{Has}
use Rattle.go_model.specs.declared.types.names.TypeName.{TypeName}
use Rattle.go_model.specs.declared.types.term.Field.{Field, out-Field, roll-Field, roll-out-Field}
use Rattle.go_model.specs.declared.types.term.Method.{Method, out-Method, roll-Method, roll-out-Method}
use Rattle.go_model.specs.declared.types.term.Signature.{Signature, out-Signature, roll-Signature, roll-out-Signature}
use Rattle.go_model.specs.declared.types.term.Term.{Term, Term-F, out-Term, out-roll-Term}
use Rattle.go_model.specs.types.Terms.{Layer}
use Rattle.go_type_images.specs.Images.{Naming, image, image_of_field, image_of_layer, image_of_method, image_of_signature, same_sels}
use Rattle.go_type_images.specs.Parts.{field_type, function_type, method_type, parts}
use Rattle.go_type_images.proofs.ByParts.{by_parts}
use Rattle.go_type_images.proofs.ImageLevels.{image_roll, is_image, out_image_field, out_image_method, out_image_signature}
use Rattle.go_selectors.proofs.Lists.{has-left, has-right}

func_func : {g h : Signature} → ◌≡◌ {A = Layer} (Term-F.Func g) (Term-F.Func h) → g ≡ h
func_func e = cc

module _ (r : Naming) where
  abbrev to : Term → Term
  to = image r same_sels

  abbrev Stays : Term → Type 0
  Stays t = to t ≡ t

  all_same : (ts : List Term) → ((u : Term) → Has ts u → Stays u) → map to ts ≡ ts
  all_same [] h = refl
  all_same (t ∷ ts) h = λ i. h t (inl refl) i ∷ all_same ts (λ u k. h u (inr k)) i

  signature_same : (g : Signature) → ((u : Term) → Has ((out-Signature g).params ++ (out-Signature g).results) u → Stays u) → image_of_signature r same_sels g ≡ g
  signature_same g h =
      let ps = all_same (out-Signature g).params (λ u k. h u (has-left (out-Signature g).params (out-Signature g).results u k)) in
      let rs = all_same (out-Signature g).results (λ u k. h u (has-right (out-Signature g).params (out-Signature g).results u k)) in
      sym (roll-out-Signature (image_of_signature r same_sels g)) ∙ ap roll-Signature (out_image_signature r same_sels g) ∙ (λ i. roll-Signature (record { params = ps i; variadic = (out-Signature g).variadic; results = rs i })) ∙ roll-out-Signature g

  field_same : (f : Field) → Stays (field_type f) → image_of_field r same_sels f ≡ f
  field_same f h = sym (roll-out-Field (image_of_field r same_sels f)) ∙ ap roll-Field (out_image_field r same_sels f) ∙ (λ i. roll-Field (record { sel = (out-Field f).sel; embedded = (out-Field f).embedded; term = h i; tag = (out-Field f).tag })) ∙ roll-out-Field f

  function_same : (g : Signature) → Stays (function_type g) → image_of_signature r same_sels g ≡ g
  function_same g h = func_func (sym (out-roll-Term (Term-F.Func (image_of_signature r same_sels g))) ∙ ap out-Term (sym (image_roll r same_sels (Term-F.Func g)) ∙ h) ∙ out-roll-Term (Term-F.Func g))

  method_same : (m : Method) → Stays (method_type m) → image_of_method r same_sels m ≡ m
  method_same m h = sym (roll-out-Method (image_of_method r same_sels m)) ∙ ap roll-Method (out_image_method r same_sels m) ∙ (λ i. roll-Method (record { sel = (out-Method m).sel; signature = function_same (out-Method m).signature h i })) ∙ roll-out-Method m

  fields_same : (fs : List Field) → ((u : Term) → Has (map field_type fs) u → Stays u) → map (image_of_field r same_sels) fs ≡ fs
  fields_same [] h = refl
  fields_same (f ∷ fs) h = λ i. field_same f (h (field_type f) (inl refl)) i ∷ fields_same fs (λ u k. h u (inr k)) i

  methods_same : (ms : List Method) → ((u : Term) → Has (map method_type ms) u → Stays u) → map (image_of_method r same_sels) ms ≡ ms
  methods_same [] h = refl
  methods_same (m ∷ ms) h = λ i. method_same m (h (method_type m) (inl refl)) i ∷ methods_same ms (λ u k. h u (inr k)) i

  pub layer_same : (l : Layer) → ((n : TypeName) → l ≡ Term-F.Named n → r n ≡ n) → ((u : Term) → Has (parts l) u → Stays u) → image_of_layer r same_sels l ≡ l
  layer_same (Term-F.Plain b) n h = refl
  layer_same (Term-F.Named m) n h = ap Term-F.Named (n m refl)
  layer_same (Term-F.Pointer e) n h = ap Term-F.Pointer (h e (inl refl))
  layer_same (Term-F.Slice e) n h = ap Term-F.Slice (h e (inl refl))
  layer_same (Term-F.Array k e) n h = ap (Term-F.Array k) (h e (inl refl))
  layer_same (Term-F.Map k e) n h = λ i. Term-F.Map (h k (inl refl) i) (h e (inr (inl refl)) i)
  layer_same (Term-F.Chan d e) n h = ap (Term-F.Chan d) (h e (inl refl))
  layer_same (Term-F.Func g) n h = ap Term-F.Func (signature_same g h)
  layer_same (Term-F.Struct fs) n h = ap Term-F.Struct (fields_same fs h)
  layer_same (Term-F.Interface ms) n h = ap Term-F.Interface (methods_same ms h)

  module _ (G : Term → Type 0) (inside : (t u : Term) → G t → Has (parts (out-Term t)) u → G u) (named : (t : Term) (n : TypeName) → G t → out-Term t ≡ Term-F.Named n → r n ≡ n) where
    -- types of a closed set whose names stay
    pub stays : (t : Term) → G t → to t ≡ t
    stays = by_parts (λ t. G t → Stays t) (λ t h g. sym (is_image r same_sels t t (sym (layer_same (out-Term t) (λ n e. named t n g e) (λ u k. h u k (inside t u g k))))))

  pub signature_stays : (g : Signature) → to (function_type g) ≡ function_type g → image_of_signature r same_sels g ≡ g
  signature_stays g h = function_same g h

  pub method_stays : (m : Method) → to (method_type m) ≡ method_type m → image_of_method r same_sels m ≡ m
  method_stays m h = method_same m h
