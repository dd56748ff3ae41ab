-- The fields and methods of an image, and what a selector finds in it, one level deep.
use Rattle.std.proofs.Common.{◌≡◌, Bool, true, false, List, [], ◌∷◌, ◌++◌, map, refl, sym, ap, ◌∙◌, Option, None}
use Rattle.std.specs.Prelude.{if◌then◌else◌}
use Rattle.go_base.specs.Gathered.{gather}
use Rattle.go_model.specs.declared.types.names.Sel.{Sel}
use Rattle.go_model.specs.declared.types.names.TypeName.{TypeName}
use Rattle.go_model.specs.declared.types.package.MethodOf.{MethodOf}
use Rattle.go_model.specs.declared.types.term.Field.{Field, out-Field}
use Rattle.go_model.specs.declared.types.term.Method.{Method, out-Method}
use Rattle.go_model.specs.declared.types.term.Term.{Term, Term-F, out-Term}
use Rattle.go_model.specs.types.Selectors.{Ending, declared_ending, ends, field, field_ending, method, method_ending, name_of}
use Rattle.go_model.specs.types.Tables.{Table}
use Rattle.go_model.specs.types.Terms.{Layer, same_sel}
use Rattle.go_model.specs.types.Underlying.{declared_methods, fields_of, methods_of, under}
use Rattle.go_type_images.specs.EntryImages.{method_to}
use Rattle.go_type_images.specs.Images.{Naming, image, image_of_field, image_of_layer, image_of_method, same_sels}
use Rattle.go_type_images.specs.SpotImages.{at_spot, ending_to}
use Rattle.go_type_images.proofs.ImageLevels.{out_image_field, out_image_method}
use Rattle.go_type_images.proofs.ImageParts.{map_append}

-- what mapped items give, and what items give, mapped
pub swapped : {A B : Type 0} (f : A → List B) (g : A → A) (h : B → B) (xs : List A) → ((x : A) → f (g x) ≡ map h (f x)) → gather f (map g xs) ≡ map h (gather f xs)
swapped f g h [] e = refl
swapped f g h (x ∷ xs) e = (λ i. e x i ++ swapped f g h xs e i) ∙ sym (map_append h (f x) (gather f xs))

pub if_mapped : {A B : Type 0} (h : A → B) (b : Bool) (x : A) → (if b then h x ∷ [] else []) ≡ map h (if b then x ∷ [] else [])
if_mapped h true x = refl
if_mapped h false x = refl

three : (h : Ending → Ending) (a b c p q s : List Ending) → a ≡ map h p → b ≡ map h q → c ≡ map h s → (a ++ b) ++ c ≡ map h ((p ++ q) ++ s)
three h a b c p q s d e f = (λ i. (d i ++ e i) ++ f i) ∙ ap (λ w. w ++ map h s) (sym (map_append h p q)) ∙ sym (map_append h (p ++ q) s)

module _ (r : Naming) (s : Sel) where
  pub fields_to : (l : Layer) → fields_of (image_of_layer r same_sels l) ≡ map (image_of_field r same_sels) (fields_of l)
  fields_to (Term-F.Struct fs) = refl
  fields_to (Term-F.Plain b) = refl
  fields_to (Term-F.Named n) = refl
  fields_to (Term-F.Pointer e) = refl
  fields_to (Term-F.Slice e) = refl
  fields_to (Term-F.Array n e) = refl
  fields_to (Term-F.Map k e) = refl
  fields_to (Term-F.Chan d e) = refl
  fields_to (Term-F.Func g) = refl
  fields_to (Term-F.Interface ms) = refl

  pub methods_to : (l : Layer) → methods_of (image_of_layer r same_sels l) ≡ map (image_of_method r same_sels) (methods_of l)
  methods_to (Term-F.Interface ms) = refl
  methods_to (Term-F.Plain b) = refl
  methods_to (Term-F.Named n) = refl
  methods_to (Term-F.Pointer e) = refl
  methods_to (Term-F.Slice e) = refl
  methods_to (Term-F.Array n e) = refl
  methods_to (Term-F.Map k e) = refl
  methods_to (Term-F.Chan d e) = refl
  methods_to (Term-F.Func g) = refl
  methods_to (Term-F.Struct fs) = refl

  pub one_field : (b : Bool) (f : Field) → field_ending s b (image_of_field r same_sels f) ≡ map (ending_to r) (field_ending s b f)
  one_field b f = ap (λ x. if same_sel x.sel s then (let e : Ending = record { through = b; target = field x.term } in e) ∷ [] else []) (out_image_field r same_sels f) ∙ if_mapped (ending_to r) (same_sel (out-Field f).sel s) (record { through = b; target = field (out-Field f).term })

  pub one_declared : (o : Option TypeName) (b : Bool) (m : MethodOf) → declared_ending o s b (method_to r m) ≡ map (ending_to r) (declared_ending o s b m)
  one_declared o b m = if_mapped (ending_to r) (same_sel m.sel s) (record { through = b; target = method o m.pointer m.signature })

  pub one_method : (b : Bool) (m : Method) → method_ending s b (image_of_method r same_sels m) ≡ map (ending_to r) (method_ending s b m)
  one_method b m = ap (λ x. if same_sel x.sel s then (let e : Ending = record { through = b; target = method None false x.signature } in e) ∷ [] else []) (out_image_method r same_sels m) ∙ if_mapped (ending_to r) (same_sel (out-Method m).sel s) (record { through = b; target = method None false (out-Method m).signature })

  -- where the level and the declared methods of an image are images, so are the ends
  pub here : (T U : Table) (b : Bool) (t : Term) → under U (image r same_sels t) ≡ image_of_layer r same_sels (under T t) → declared_methods U (out-Term (image r same_sels t)) ≡ map (method_to r) (declared_methods T (out-Term t)) → name_of (out-Term (image r same_sels t)) ≡ name_of (out-Term t)
      → ends U s 0 (at_spot b (image r same_sels t)) ≡ map (ending_to r) (ends T s 0 (at_spot b t))
  unfolding ends
  here T U b t u d n =
      three (ending_to r)
      (gather (field_ending s b) (fields_of (under U (image r same_sels t)))) (gather (declared_ending (name_of (out-Term (image r same_sels t))) s b) (declared_methods U (out-Term (image r same_sels t)))) (gather (method_ending s b) (methods_of (under U (image r same_sels t))))
      (gather (field_ending s b) (fields_of (under T t))) (gather (declared_ending (name_of (out-Term t)) s b) (declared_methods T (out-Term t))) (gather (method_ending s b) (methods_of (under T t)))
      (ap (λ l. gather (field_ending s b) (fields_of l)) u ∙ ap (gather (field_ending s b)) (fields_to (under T t)) ∙ swapped (field_ending s b) (image_of_field r same_sels) (ending_to r) (fields_of (under T t)) (one_field b))
      ((λ i. gather (declared_ending (n i) s b) (d i)) ∙ swapped (declared_ending (name_of (out-Term t)) s b) (method_to r) (ending_to r) (declared_methods T (out-Term t)) (one_declared (name_of (out-Term t)) b))
      (ap (λ l. gather (method_ending s b) (methods_of l)) u ∙ ap (gather (method_ending s b)) (methods_to (under T t)) ∙ swapped (method_ending s b) (image_of_method r same_sels) (ending_to r) (methods_of (under T t)) (one_method b))
