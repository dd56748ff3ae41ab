-- An image without tags is the image of the type without tags.
use Rattle.std.proofs.Common.{◌≡◌, inl, inr, ℕ, Bool, List, [], ◌∷◌, ◌++◌, map, refl, sym, ap, ◌∙◌}
use Rattle.go_base.specs.Lists.{Has}
use Rattle.go_model.specs.declared.types.names.Sel.{Sel}
use Rattle.go_model.specs.declared.types.term.Term.{Term, Term-F, out-Term, roll-Term, fold-roll-Term, out-roll-Term, roll-out-Term}
use Rattle.go_model.specs.declared.types.term.Field.{Field, Field-F, out-Field, roll-Field, fold_out-Field, out-roll-Field, roll-out-Field}
use Rattle.go_model.specs.declared.types.term.Method.{Method, Method-F, out-Method, roll-Method, fold_out-Method, out-roll-Method, roll-out-Method}
use Rattle.go_model.specs.declared.types.term.Signature.{Signature, Signature-F, out-Signature, roll-Signature, fold_out-Signature, out-roll-Signature, roll-out-Signature}
use Rattle.go_model.specs.types.Tags.{untagged, untagged_field, untagged_method, untagged_signature, untagged_step}
use Rattle.go_model.specs.types.Terms.{Layer}
use Rattle.go_type_images.specs.Images.{Naming, Selecting, image, image_of_field, image_of_layer, image_of_method, image_of_signature}
use Rattle.go_type_images.specs.Parts.{field_type, function_type, method_type, parts}
use Rattle.go_type_images.proofs.ByParts.{by_parts}
use Rattle.go_type_images.proofs.ImageLevels.{image_roll, out_image_field, out_image_method, out_image_signature}

has_left : (xs ys : List Term) (x : Term) → Has xs x → Has (xs ++ ys) x
has_left [] ys x h = absurd h
has_left (y ∷ xs) ys x (inl e) = inl e
has_left (y ∷ xs) ys x (inr h) = inr (has_left xs ys x h)

has_right : (xs ys : List Term) (x : Term) → Has ys x → Has (xs ++ ys) x
has_right [] ys x h = h
has_right (y ∷ xs) ys x h = inr (has_right xs ys x h)

-- ---- a level at a time

abbrev OpenField : Type 0
OpenField = Field-F Term Field Method Signature

abbrev OpenMethod : Type 0
OpenMethod = Method-F Term Field Method Signature

abbrev OpenSignature : Type 0
OpenSignature = Signature-F Term Field Method Signature

abbrev field_of : Sel → Bool → Term → List ℕ → OpenField
field_of s e t tag = record { sel = s; embedded = e; term = t; tag = tag }

abbrev method_of : Sel → Signature → OpenMethod
method_of s g = record { sel = s; signature = g }

abbrev signature_of : List Term → Bool → List Term → OpenSignature
signature_of ps v rs = record { params = ps; variadic = v; results = rs }

abbrev untagged_layer : Layer → Layer
untagged_layer (Term-F.Plain b) = Term-F.Plain b
untagged_layer (Term-F.Named n) = Term-F.Named n
untagged_layer (Term-F.Pointer e) = Term-F.Pointer (untagged e)
untagged_layer (Term-F.Slice e) = Term-F.Slice (untagged e)
untagged_layer (Term-F.Array n e) = Term-F.Array n (untagged e)
untagged_layer (Term-F.Map k e) = Term-F.Map (untagged k) (untagged e)
untagged_layer (Term-F.Chan d e) = Term-F.Chan d (untagged e)
untagged_layer (Term-F.Func g) = Term-F.Func (untagged_signature g)
untagged_layer (Term-F.Struct fs) = Term-F.Struct (map untagged_field fs)
untagged_layer (Term-F.Interface ms) = Term-F.Interface (map untagged_method ms)

untagged_roll : (l : Layer) → untagged (roll-Term l) ≡ roll-Term (untagged_layer l)
untagged_roll (Term-F.Plain b) = fold-roll-Term Term Field Method Signature roll-Term untagged_step roll-Method roll-Signature _
untagged_roll (Term-F.Named n) = fold-roll-Term Term Field Method Signature roll-Term untagged_step roll-Method roll-Signature _
untagged_roll (Term-F.Pointer e) = fold-roll-Term Term Field Method Signature roll-Term untagged_step roll-Method roll-Signature _
untagged_roll (Term-F.Slice e) = fold-roll-Term Term Field Method Signature roll-Term untagged_step roll-Method roll-Signature _
untagged_roll (Term-F.Array n e) = fold-roll-Term Term Field Method Signature roll-Term untagged_step roll-Method roll-Signature _
untagged_roll (Term-F.Map k e) = fold-roll-Term Term Field Method Signature roll-Term untagged_step roll-Method roll-Signature _
untagged_roll (Term-F.Chan d e) = fold-roll-Term Term Field Method Signature roll-Term untagged_step roll-Method roll-Signature _
untagged_roll (Term-F.Func g) = fold-roll-Term Term Field Method Signature roll-Term untagged_step roll-Method roll-Signature _
untagged_roll (Term-F.Struct fs) = fold-roll-Term Term Field Method Signature roll-Term untagged_step roll-Method roll-Signature _
untagged_roll (Term-F.Interface ms) = fold-roll-Term Term Field Method Signature roll-Term untagged_step roll-Method roll-Signature _

out_untagged_field : (f : Field) → out-Field (untagged_field f) ≡ field_of (out-Field f).sel (out-Field f).embedded (untagged (out-Field f).term) []
out_untagged_field f = ap out-Field (fold_out-Field Term Field Method Signature roll-Term untagged_step roll-Method roll-Signature f) ∙ out-roll-Field _

out_untagged_method : (m : Method) → out-Method (untagged_method m) ≡ method_of (out-Method m).sel (untagged_signature (out-Method m).signature)
out_untagged_method m = ap out-Method (fold_out-Method Term Field Method Signature roll-Term untagged_step roll-Method roll-Signature m) ∙ out-roll-Method _

out_untagged_signature : (g : Signature) → out-Signature (untagged_signature g) ≡ signature_of (map untagged (out-Signature g).params) (out-Signature g).variadic (map untagged (out-Signature g).results)
out_untagged_signature g = ap out-Signature (fold_out-Signature Term Field Method Signature roll-Term untagged_step roll-Method roll-Signature g) ∙ out-roll-Signature _

one_field : (f g : Field) → out-Field f ≡ out-Field g → f ≡ g
one_field f g e = sym (roll-out-Field f) ∙ ap roll-Field e ∙ roll-out-Field g

one_method : (m n : Method) → out-Method m ≡ out-Method n → m ≡ n
one_method m n e = sym (roll-out-Method m) ∙ ap roll-Method e ∙ roll-out-Method n

one_signature : (g h : Signature) → out-Signature g ≡ out-Signature h → g ≡ h
one_signature g h e = sym (roll-out-Signature g) ∙ ap roll-Signature e ∙ roll-out-Signature h

func_func : {g h : Signature} → ◌≡◌ {A = Layer} (Term-F.Func g) (Term-F.Func h) → g ≡ h
func_func e = cc

one_function : (g h : Signature) → function_type g ≡ function_type h → g ≡ h
one_function g h e = func_func (sym (out-roll-Term (Term-F.Func g)) ∙ ap out-Term e ∙ out-roll-Term (Term-F.Func h))

-- ---- both in either order

module _ (r : Naming) (s : Selecting) where
  abbrev to : Term → Term
  to = image r s

  abbrev IsSwapped : Term → Type 0
  IsSwapped t = untagged (to t) ≡ to (untagged t)

  terms : (ts : List Term) → ((u : Term) → Has ts u → IsSwapped u) → map untagged (map to ts) ≡ map to (map untagged ts)
  terms [] h = refl
  terms (t ∷ ts) h = λ i. h t (inl refl) i ∷ terms ts (λ u k. h u (inr k)) i

  signature_swapped : (g : Signature) → ((u : Term) → Has ((out-Signature g).params ++ (out-Signature g).results) u → IsSwapped u) → untagged_signature (image_of_signature r s g) ≡ image_of_signature r s (untagged_signature g)
  signature_swapped g h =
      one_signature (untagged_signature (image_of_signature r s g)) (image_of_signature r s (untagged_signature g))
      (out_untagged_signature (image_of_signature r s g)
      ∙ ap (λ (x : OpenSignature). signature_of (map untagged x.params) x.variadic (map untagged x.results)) (out_image_signature r s g)
      ∙ (λ i. signature_of (terms (out-Signature g).params (λ u k. h u (has_left (out-Signature g).params (out-Signature g).results u k)) i) (out-Signature g).variadic (terms (out-Signature g).results (λ u k. h u (has_right (out-Signature g).params (out-Signature g).results u k)) i))
      ∙ sym (ap (λ (x : OpenSignature). signature_of (map to x.params) x.variadic (map to x.results)) (out_untagged_signature g))
      ∙ sym (out_image_signature r s (untagged_signature g)))

  field_swapped : (f : Field) → IsSwapped (field_type f) → untagged_field (image_of_field r s f) ≡ image_of_field r s (untagged_field f)
  field_swapped f h =
      one_field (untagged_field (image_of_field r s f)) (image_of_field r s (untagged_field f))
      (out_untagged_field (image_of_field r s f)
      ∙ ap (λ (x : OpenField). field_of x.sel x.embedded (untagged x.term) []) (out_image_field r s f)
      ∙ ap (λ t. field_of (s (out-Field f).sel) (out-Field f).embedded t []) h
      ∙ sym (ap (λ (x : OpenField). field_of (s x.sel) x.embedded (to x.term) x.tag) (out_untagged_field f))
      ∙ sym (out_image_field r s (untagged_field f)))

  fields_swapped : (fs : List Field) → ((u : Term) → Has (map field_type fs) u → IsSwapped u) → map untagged_field (map (image_of_field r s) fs) ≡ map (image_of_field r s) (map untagged_field fs)
  fields_swapped [] h = refl
  fields_swapped (f ∷ fs) h = λ i. field_swapped f (h (field_type f) (inl refl)) i ∷ fields_swapped fs (λ u k. h u (inr k)) i

  function_swapped : (g : Signature) → IsSwapped (function_type g) → untagged_signature (image_of_signature r s g) ≡ image_of_signature r s (untagged_signature g)
  function_swapped g h =
      one_function (untagged_signature (image_of_signature r s g)) (image_of_signature r s (untagged_signature g))
      (sym (untagged_roll (Term-F.Func (image_of_signature r s g)))
      ∙ ap untagged (sym (image_roll r s (Term-F.Func g)))
      ∙ h
      ∙ ap to (untagged_roll (Term-F.Func g))
      ∙ image_roll r s (Term-F.Func (untagged_signature g)))

  method_swapped : (m : Method) → IsSwapped (method_type m) → untagged_method (image_of_method r s m) ≡ image_of_method r s (untagged_method m)
  method_swapped m h =
      one_method (untagged_method (image_of_method r s m)) (image_of_method r s (untagged_method m))
      (out_untagged_method (image_of_method r s m)
      ∙ ap (λ (x : OpenMethod). method_of x.sel (untagged_signature x.signature)) (out_image_method r s m)
      ∙ ap (method_of (s (out-Method m).sel)) (function_swapped (out-Method m).signature h)
      ∙ sym (ap (λ (x : OpenMethod). method_of (s x.sel) (image_of_signature r s x.signature)) (out_untagged_method m))
      ∙ sym (out_image_method r s (untagged_method m)))

  methods_swapped : (ms : List Method) → ((u : Term) → Has (map method_type ms) u → IsSwapped u) → map untagged_method (map (image_of_method r s) ms) ≡ map (image_of_method r s) (map untagged_method ms)
  methods_swapped [] h = refl
  methods_swapped (m ∷ ms) h = λ i. method_swapped m (h (method_type m) (inl refl)) i ∷ methods_swapped ms (λ u k. h u (inr k)) i

  level_swapped : (l : Layer) → ((u : Term) → Has (parts l) u → IsSwapped u) → untagged_layer (image_of_layer r s l) ≡ image_of_layer r s (untagged_layer l)
  level_swapped (Term-F.Plain b) h = refl
  level_swapped (Term-F.Named n) h = refl
  level_swapped (Term-F.Pointer e) h = ap Term-F.Pointer (h e (inl refl))
  level_swapped (Term-F.Slice e) h = ap Term-F.Slice (h e (inl refl))
  level_swapped (Term-F.Array n e) h = ap (Term-F.Array n) (h e (inl refl))
  level_swapped (Term-F.Map k e) h = λ i. Term-F.Map (h k (inl refl) i) (h e (inr (inl refl)) i)
  level_swapped (Term-F.Chan d e) h = ap (Term-F.Chan d) (h e (inl refl))
  level_swapped (Term-F.Func g) h = ap Term-F.Func (signature_swapped g h)
  level_swapped (Term-F.Struct fs) h = ap Term-F.Struct (fields_swapped fs h)
  level_swapped (Term-F.Interface ms) h = ap Term-F.Interface (methods_swapped ms h)

  rolled : (l : Layer) → ((u : Term) → Has (parts l) u → IsSwapped u) → IsSwapped (roll-Term l)
  rolled l h =
      ap untagged (image_roll r s l) ∙ untagged_roll (image_of_layer r s l) ∙ ap roll-Term (level_swapped l h)
      ∙ sym (image_roll r s (untagged_layer l)) ∙ ap to (sym (untagged_roll l))

  pub swapped : (t : Term) → untagged (to t) ≡ to (untagged t)
  swapped = by_parts IsSwapped (λ t h. ap (λ x. untagged (to x)) (sym (roll-out-Term t)) ∙ rolled (out-Term t) h ∙ ap (λ x. to (untagged x)) (roll-out-Term t))
