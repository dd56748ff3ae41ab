-- The image of a type, a level at a time.
use Rattle.std.proofs.Common.{◌≡◌, Bool, true, false, map, refl, sym, ap, ◌∙◌}
use Rattle.go_model.specs.declared.types.names.TypeName.{TypeName}
use Rattle.go_model.specs.declared.types.term.Term.{Term, Term-F, out-Term, roll-Term, fold-roll-Term, out-roll-Term, roll-out-Term}
use Rattle.go_model.specs.declared.types.term.Field.{Field, out-Field, fold_out-Field, out-roll-Field}
use Rattle.go_model.specs.declared.types.term.Method.{Method, out-Method, fold_out-Method, out-roll-Method}
use Rattle.go_model.specs.declared.types.term.Signature.{Signature, out-Signature, roll-Signature, fold_out-Signature, out-roll-Signature}
use Rattle.go_model.specs.types.Terms.{Layer}
use Rattle.go_type_images.specs.Images.{Naming, Selecting, image, image_step, image_field_step, image_method_step, image_of_field, image_of_layer, image_of_method, image_of_signature}

module _ (r : Naming) (s : Selecting) where
  pub image_roll : (l : Layer) → image r s (roll-Term l) ≡ roll-Term (image_of_layer r s l)
  image_roll (Term-F.Plain b) = fold-roll-Term Term Field Method Signature (image_step r) (image_field_step s) (image_method_step s) roll-Signature _
  image_roll (Term-F.Named n) = fold-roll-Term Term Field Method Signature (image_step r) (image_field_step s) (image_method_step s) roll-Signature _
  image_roll (Term-F.Pointer e) = fold-roll-Term Term Field Method Signature (image_step r) (image_field_step s) (image_method_step s) roll-Signature _
  image_roll (Term-F.Slice e) = fold-roll-Term Term Field Method Signature (image_step r) (image_field_step s) (image_method_step s) roll-Signature _
  image_roll (Term-F.Array n e) = fold-roll-Term Term Field Method Signature (image_step r) (image_field_step s) (image_method_step s) roll-Signature _
  image_roll (Term-F.Map k e) = fold-roll-Term Term Field Method Signature (image_step r) (image_field_step s) (image_method_step s) roll-Signature _
  image_roll (Term-F.Chan d e) = fold-roll-Term Term Field Method Signature (image_step r) (image_field_step s) (image_method_step s) roll-Signature _
  image_roll (Term-F.Func g) = fold-roll-Term Term Field Method Signature (image_step r) (image_field_step s) (image_method_step s) roll-Signature _
  image_roll (Term-F.Struct fs) = fold-roll-Term Term Field Method Signature (image_step r) (image_field_step s) (image_method_step s) roll-Signature _
  image_roll (Term-F.Interface ms) = fold-roll-Term Term Field Method Signature (image_step r) (image_field_step s) (image_method_step s) roll-Signature _

  pub out_image : (t : Term) → out-Term (image r s t) ≡ image_of_layer r s (out-Term t)
  out_image t = ap (λ x. out-Term (image r s x)) (sym (roll-out-Term t)) ∙ ap out-Term (image_roll (out-Term t)) ∙ out-roll-Term _

  pub out_image_field : (f : Field) → out-Field (image_of_field r s f) ≡ record { sel = s (out-Field f).sel; embedded = (out-Field f).embedded; term = image r s (out-Field f).term; tag = (out-Field f).tag }
  out_image_field f = ap out-Field (fold_out-Field Term Field Method Signature (image_step r) (image_field_step s) (image_method_step s) roll-Signature f) ∙ out-roll-Field _

  pub out_image_method : (m : Method) → out-Method (image_of_method r s m) ≡ record { sel = s (out-Method m).sel; signature = image_of_signature r s (out-Method m).signature }
  out_image_method m = ap out-Method (fold_out-Method Term Field Method Signature (image_step r) (image_field_step s) (image_method_step s) roll-Signature m) ∙ out-roll-Method _

  pub out_image_signature : (g : Signature) → out-Signature (image_of_signature r s g) ≡ record { params = map (image r s) (out-Signature g).params; variadic = (out-Signature g).variadic; results = map (image r s) (out-Signature g).results }
  out_image_signature g = ap out-Signature (fold_out-Signature Term Field Method Signature (image_step r) (image_field_step s) (image_method_step s) roll-Signature g) ∙ out-roll-Signature _

  -- an image is known by its level
  pub image_of : (t : Term) (l : Layer) → out-Term t ≡ l → image r s t ≡ roll-Term (image_of_layer r s l)
  image_of t l e = sym (roll-out-Term _) ∙ ap roll-Term (out_image t ∙ ap (image_of_layer r s) e)

  -- what has the image's level is the image
  pub is_image : (t u : Term) → out-Term u ≡ image_of_layer r s (out-Term t) → u ≡ image r s t
  is_image t u e = sym (roll-out-Term u) ∙ ap roll-Term (e ∙ sym (out_image t)) ∙ roll-out-Term _

-- ---- levels

abbrev pub is_name : Layer → Bool
is_name (Term-F.Named n) = true
is_name l = false

pub is_name_of : (l : Layer) → is_name l ≡ true → (n : TypeName) × (l ≡ Term-F.Named n)
is_name_of (Term-F.Named n) e = (n, refl)
is_name_of (Term-F.Plain b) e = absurd (cc)
is_name_of (Term-F.Pointer t) e = absurd (cc)
is_name_of (Term-F.Slice t) e = absurd (cc)
is_name_of (Term-F.Array n t) e = absurd (cc)
is_name_of (Term-F.Map k t) e = absurd (cc)
is_name_of (Term-F.Chan d t) e = absurd (cc)
is_name_of (Term-F.Func g) e = absurd (cc)
is_name_of (Term-F.Struct fs) e = absurd (cc)
is_name_of (Term-F.Interface ms) e = absurd (cc)

-- two types of one level are one
pub one_type : (s t : Term) (l : Layer) → out-Term s ≡ l → out-Term t ≡ l → s ≡ t
one_type s t l a b = sym (roll-out-Term s) ∙ ap roll-Term (a ∙ sym b) ∙ roll-out-Term t

pub name_image : (r : Naming) (s : Selecting) (l : Layer) → is_name (image_of_layer r s l) ≡ is_name l
name_image r s (Term-F.Plain b) = refl
name_image r s (Term-F.Named n) = refl
name_image r s (Term-F.Pointer e) = refl
name_image r s (Term-F.Slice e) = refl
name_image r s (Term-F.Array n e) = refl
name_image r s (Term-F.Map k e) = refl
name_image r s (Term-F.Chan d e) = refl
name_image r s (Term-F.Func g) = refl
name_image r s (Term-F.Struct fs) = refl
name_image r s (Term-F.Interface ms) = refl
