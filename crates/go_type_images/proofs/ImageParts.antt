-- The parts of an image are the images of the parts.
use Rattle.std.proofs.Common.{◌≡◌, List, [], ◌∷◌, ◌++◌, map, refl, sym, ap, ◌∙◌}
use Rattle.go_model.specs.declared.types.term.Term.{Term, Term-F}
use Rattle.go_model.specs.declared.types.term.Field.{Field}
use Rattle.go_model.specs.declared.types.term.Method.{Method, out-Method}
use Rattle.go_model.specs.declared.types.term.Signature.{out-Signature}
use Rattle.go_model.specs.types.MethodSets.{method_sel}
use Rattle.go_model.specs.types.Terms.{Layer}
use Rattle.go_type_images.specs.Images.{Naming, Selecting, image, image_of_field, image_of_layer, image_of_method, same_sels}
use Rattle.go_type_images.specs.Parts.{field_type, function_type, method_type, parts}
use Rattle.go_type_images.proofs.ImageLevels.{image_roll, out_image_field, out_image_method, out_image_signature}

pub both_items : {A : Type 0} (x y : A) (xs ys : List A) → x ≡ y → xs ≡ ys → ◌≡◌ {A = List A} (x ∷ xs) (y ∷ ys)
both_items x y xs ys e f = cc

pub map_append : {A B : Type 0} (f : A → B) (xs ys : List A) → map f (xs ++ ys) ≡ map f xs ++ map f ys
map_append f [] ys = refl
map_append f (x ∷ xs) ys = ap (λ zs. f x ∷ zs) (map_append f xs ys)

module _ (r : Naming) (s : Selecting) where
  abbrev to : Term → Term
  to = image r s

  field_types : (fs : List Field) → map field_type (map (image_of_field r s) fs) ≡ map to (map field_type fs)
  field_types [] = refl
  field_types (f ∷ fs) = both_items _ (to (field_type f)) _ _ (ap (λ x. x.term) (out_image_field r s f)) (field_types fs)

  method_types : (ms : List Method) → map method_type (map (image_of_method r s) ms) ≡ map to (map method_type ms)
  method_types [] = refl
  method_types (m ∷ ms) = both_items _ (to (method_type m)) _ _ (ap (λ x. function_type x.signature) (out_image_method r s m) ∙ sym (image_roll r s (Term-F.Func (out-Method m).signature))) (method_types ms)

  pub parts_image : (l : Layer) → parts (image_of_layer r s l) ≡ map to (parts l)
  parts_image (Term-F.Plain b) = refl
  parts_image (Term-F.Named n) = refl
  parts_image (Term-F.Pointer e) = refl
  parts_image (Term-F.Slice e) = refl
  parts_image (Term-F.Array n e) = refl
  parts_image (Term-F.Map k e) = refl
  parts_image (Term-F.Chan d e) = refl
  parts_image (Term-F.Func g) = ap (λ x. x.params ++ x.results) (out_image_signature r s g) ∙ sym (map_append to (out-Signature g).params (out-Signature g).results)
  parts_image (Term-F.Struct fs) = field_types fs
  parts_image (Term-F.Interface ms) = method_types ms

-- where selectors stay, so do those of the methods
pub method_sels : (r : Naming) (ms : List Method) → map method_sel (map (image_of_method r same_sels) ms) ≡ map method_sel ms
method_sels r [] = refl
method_sels r (m ∷ ms) = both_items _ (method_sel m) _ _ (ap (λ x. x.sel) (out_image_method r same_sels m)) (method_sels r ms)
