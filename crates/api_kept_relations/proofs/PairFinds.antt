-- What types have to be underneath for fields to be found, and what is found from types that aren't defined.
use Rattle.std.proofs.Common.{◌≡◌, ◌⊎◌, inl, inr, ℕ, zero, suc, Bool, true, false, List, [], ◌∷◌, ◌++◌, map, refl, sym, ap, ◌∙◌, subst, Option, Some, None, arith}
use Rattle.go_base.specs.Gathered.{gather}
use Rattle.go_base.specs.Lists.{Has}
use Rattle.go_base.proofs.Members.{gather_of, has_split}
use Rattle.go_model.specs.declared.types.names.Sel.{Sel}
use Rattle.go_model.specs.declared.types.names.TypeName.{TypeName}
use Rattle.go_model.specs.declared.types.term.Field.{Field, out-Field}
use Rattle.go_model.specs.declared.types.term.Method.{Method, out-Method}
use Rattle.go_model.specs.declared.types.term.Signature.{Signature}
use Rattle.go_model.specs.declared.types.term.Term.{Term, Term-F, out-Term}
use Rattle.go_model.specs.types.MethodSets.{method_sel}
use Rattle.go_model.specs.types.Selectors.{Ending, IsOnly, Spot, Target, declared_ending, ends, field, field_ending, method, method_ending, name_of, step, steps}
use Rattle.go_model.specs.types.Tables.{Table}
use Rattle.go_model.specs.types.Terms.{Layer, same_sel}
use Rattle.go_model.specs.types.Underlying.{declared_methods, fields_of, methods_of, under, under_layer}
use Rattle.go_selectors.proofs.Noting.{sel_is}
use Rattle.go_type_images.specs.EntryImages.{method_to}
use Rattle.go_type_images.specs.Images.{Naming, image, image_of_layer, same_sels}
use Rattle.go_type_images.specs.Levels.{struct_layer}
use Rattle.go_type_images.specs.SpotImages.{at_spot, ending_to}
use Rattle.go_type_images.proofs.ImageLevels.{is_name, out_image}
use Rattle.go_type_images.proofs.LevelEnds.{here}
use Rattle.go_client_types.specs.Endings.{end_at}
use Rattle.go_shared_types.proofs.Items.{either, only_if}
use Rattle.go_shared_types.proofs.Regions.{first_of}

field_method : (o : Option TypeName) (a : Bool) (g : Signature) (t : Term) → ◌≡◌ {A = Target} (method o a g) (field t) → ⊥
field_method o a g t e = absurd (cc)

one_method : {a b : Bool} {o m : Option TypeName} {g h : Signature} → ◌≡◌ {A = Target} (method o a g) (method m b h) → (o ≡ m) × (a ≡ b) × (g ≡ h)
one_method e = (cc, cc, cc)

pub struct_of_field : (l : Layer) (f : Field) → Has (fields_of l) f → struct_layer l ≡ true
struct_of_field (Term-F.Struct fs) f k = refl
struct_of_field l f k = absurd k

module _ (T : Table) (s : Sel) where
  top_struct : (at : Spot) (q : Bool) (v : Term) → Has (ends T s 0 at) (end_at q (field v)) → struct_layer (under T at.term) ≡ true
  unfolding ends
  top_struct at q v k =
      let e = end_at q (field v) in
      let fs = gather (field_ending s at.through) (fields_of (under T at.term)) in
      let ds = gather (declared_ending (name_of (out-Term at.term)) s at.through) (declared_methods T (out-Term at.term)) in
      let ms = gather (method_ending s at.through) (methods_of (under T at.term)) in
      either (has_split (fs ++ ds) ms e k)
      (λ h. either (has_split fs ds e h)
      (λ i. let f = gather_of (field_ending s at.through) (fields_of (under T at.term)) e i in struct_of_field (under T at.term) f.0 f.1)
      (λ i. let m = gather_of (declared_ending (name_of (out-Term at.term)) s at.through) (declared_methods T (out-Term at.term)) e i in absurd (field_method (name_of (out-Term at.term)) (m.0).pointer (m.0).signature v (ap (λ (x : Ending). x.target) (only_if (same_sel (m.0).sel s) (end_at at.through (method (name_of (out-Term at.term)) (m.0).pointer (m.0).signature)) e m.2).1))))
      (λ i. let m = gather_of (method_ending s at.through) (methods_of (under T at.term)) e i in absurd (field_method None false (out-Method m.0).signature v (ap (λ (x : Ending). x.target) (only_if (same_sel (out-Method m.0).sel s) (end_at at.through (method None false (out-Method m.0).signature)) e m.2).1)))

  deep_struct : (at : Spot) (k : ℕ) (e : Ending) → Has (ends T s (suc k) at) e → struct_layer (under T at.term) ≡ true
  unfolding ends
  deep_struct at k e i =
      let x = gather_of (ends T s k) (steps T at) e i in
      let f = gather_of (step at.through) (fields_of (under T at.term)) x.0 x.1 in
      struct_of_field (under T at.term) f.0 f.1

  -- where a field is found there is a struct underneath
  pub found_struct : (at : Spot) (d : ℕ) (q : Bool) (v : Term) → IsOnly T s at d (end_at q (field v)) → struct_layer (under T at.term) ≡ true
  found_struct at zero q v o = top_struct at q v (first_of (ends T s 0 at) (end_at q (field v)) o.only)
  found_struct at (suc d) q v o = deep_struct at d (end_at q (field v)) (first_of (ends T s (suc d) at) (end_at q (field v)) o.only)

-- ---- types that aren't defined

pub plain_under : (T : Table) (l : Layer) → is_name l ≡ false → under_layer T l ≡ l
plain_under T (Term-F.Named n) e = absurd (cc)
plain_under T l e = refl

no_declared : (T : Table) (l : Layer) → is_name l ≡ false → declared_methods T l ≡ []
no_declared T (Term-F.Named n) e = absurd (cc)
no_declared T l e = refl

no_name : (l : Layer) → is_name l ≡ false → name_of l ≡ None
no_name (Term-F.Named n) e = absurd (cc)
no_name l e = refl

plain_image : (r : Naming) (l : Layer) → is_name l ≡ false → is_name (image_of_layer r same_sels l) ≡ false
plain_image r (Term-F.Named n) e = absurd (cc)
plain_image r (Term-F.Plain b) e = refl
plain_image r (Term-F.Pointer u) e = refl
plain_image r (Term-F.Slice u) e = refl
plain_image r (Term-F.Array m u) e = refl
plain_image r (Term-F.Map m u) e = refl
plain_image r (Term-F.Chan d u) e = refl
plain_image r (Term-F.Func g) e = refl
plain_image r (Term-F.Struct fs) e = refl
plain_image r (Term-F.Interface ms) e = refl

module _ (T U : Table) (r : Naming) (t : Term) (n : is_name (out-Term t) ≡ false) (s : Sel) (b : Bool) where
  out_is : out-Term (image r same_sels t) ≡ image_of_layer r same_sels (out-Term t)
  out_is = out_image r same_sels t

  image_plain : is_name (out-Term (image r same_sels t)) ≡ false
  image_plain = ap is_name out_is ∙ plain_image r (out-Term t) n

  -- at depth 0 the image has the images of what the type has
  top_ends : ends U s 0 (at_spot b (image r same_sels t)) ≡ map (ending_to r) (ends T s 0 (at_spot b t))
  top_ends = here r s T U b t
      (plain_under U (out-Term (image r same_sels t)) image_plain ∙ out_is ∙ sym (ap (image_of_layer r same_sels) (plain_under T (out-Term t) n)))
      (no_declared U (out-Term (image r same_sels t)) image_plain ∙ sym (ap (map (method_to r)) (no_declared T (out-Term t) n)))
      (no_name (out-Term (image r same_sels t)) image_plain ∙ sym (no_name (out-Term t) n))

  -- a method of an interface that isn't defined
  pub record IsItsMethod (q a : Bool) (o : Option TypeName) (g : Signature) : Type 0 where
    pub it : Method
    pub stands : Has (methods_of (out-Term t)) it
    pub signed : (out-Method it).signature ≡ g
    pub owner : None ≡ o
    pub only : IsOnly U s (at_spot b (image r same_sels t)) 0 (ending_to r (end_at q (method o a g)))

  struct_is : struct_layer (under T t) ≡ true → struct_layer (out-Term t) ≡ true
  struct_is e = sym (ap struct_layer (plain_under T (out-Term t) n)) ∙ e

  no_field : struct_layer (out-Term t) ≡ false → (f : Field) → Has (fields_of (under T t)) f → ⊥
  no_field w f k = let e : true ≡ false = sym (struct_is (struct_of_field (under T t) f k)) ∙ w in absurd (cc)

  top_method : struct_layer (out-Term t) ≡ false → (q a : Bool) (o : Option TypeName) (g : Signature) → IsOnly T s (at_spot b t) 0 (end_at q (method o a g)) → IsItsMethod q a o g
  unfolding ends
  top_method w q a o g x =
      let e = end_at q (method o a g) in
      let fs = gather (field_ending s b) (fields_of (under T t)) in
      let ds = gather (declared_ending (name_of (out-Term t)) s b) (declared_methods T (out-Term t)) in
      let ms = gather (method_ending s b) (methods_of (under T t)) in
      let k : Has ((fs ++ ds) ++ ms) e = subst (λ ys. Has ys e) (sym x.only) (inl refl) in
      either (has_split (fs ++ ds) ms e k)
      (λ h. either (has_split fs ds e h)
      (λ i. let f = gather_of (field_ending s b) (fields_of (under T t)) e i in absurd (no_field w f.0 f.1))
      (λ i. let m = gather_of (declared_ending (name_of (out-Term t)) s b) (declared_methods T (out-Term t)) e i in absurd (subst (λ xs. Has xs m.0) (no_declared T (out-Term t) n) m.1)))
      (λ i. let m = gather_of (method_ending s b) (methods_of (under T t)) e i in
      let f = one_method (ap (λ (y : Ending). y.target) (only_if (same_sel (out-Method m.0).sel s) (end_at b (method None false (out-Method m.0).signature)) e m.2).1) in
      record {
        it = m.0;
        stands = subst (λ l. Has (methods_of l) m.0) (plain_under T (out-Term t) n) m.1;
        signed = f.2;
        owner = f.0;
        only = record { none = λ c l. absurd (omega (arith, l)); only = top_ends ∙ ap (map (ending_to r)) x.only };
      })

  -- a method that is found from a type that is neither defined nor a struct is an interface's, and its image is found from the image
  pub plain_method : struct_layer (out-Term t) ≡ false → (d : ℕ) (q a : Bool) (o : Option TypeName) (g : Signature) → IsOnly T s (at_spot b t) d (end_at q (method o a g)) → IsItsMethod q a o g
  plain_method w zero q a o g x = top_method w q a o g x
  plain_method w (suc d) q a o g x =
      let e : true ≡ false = sym (struct_is (deep_struct T s (at_spot b t) d (end_at q (method o a g)) (first_of (ends T s (suc d) (at_spot b t)) (end_at q (method o a g)) x.only))) ∙ w in
      absurd (cc)
