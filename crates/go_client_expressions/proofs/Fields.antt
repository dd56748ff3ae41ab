-- The fields that a literal of a struct type gives values, on both sides.
use Rattle.std.proofs.Common.{◌≡◌, inl, inr, Bool, true, false, ◌&&◌, List, [], ◌∷◌, ◌++◌, map, refl, sym, ap, ◌∙◌, subst, Option, Some, None, if◌then◌else◌}
use Rattle.std.specs.Str.{bytes_eq}
use Rattle.std.proofs.lemmas.Slice.Eq.{bytes_eq-Decides}
use Rattle.go_base.specs.Gathered.{gather}
use Rattle.go_base.specs.Lists.{Has as HasItem}
use Rattle.go_selectors.proofs.Lists.{has-left, has-right}
use Rattle.go_model.specs.declared.types.names.Sel.{Sel}
use Rattle.go_model.specs.declared.types.names.TypeName.{TypeName}
use Rattle.go_model.specs.declared.types.package.Defined.{Defined}
use Rattle.go_model.specs.declared.types.term.Field.{Field, out-Field}
use Rattle.go_model.specs.declared.types.term.Term.{Term, Term-F, out-Term}
use Rattle.go_model.specs.types.Imports.{imported_interface, imported_struct, is_imported, is_imported_open, is_imported_struct}
use Rattle.go_model.specs.types.Members.{field_sel}
use Rattle.go_model.specs.types.Selectors.{declared_ending, ends, field, field_ending, method_ending, name_of}
use Rattle.go_model.specs.types.Tables.{Table}
use Rattle.go_model.specs.types.Terms.{Layer, client_path, same_sel}
use Rattle.go_model.specs.types.Underlying.{declared_methods, entry, fields_of, methods_of, under, under_entry, under_layer}
use Rattle.go_rules.specs.Environments.{Env}
use Rattle.go_rules.specs.Expressions.{IsReachable}
use Rattle.go_type_images.specs.Images.{Naming, image, image_of_field, image_of_layer, same_sels}
use Rattle.go_type_images.specs.Levels.{interface_layer, is_structured, struct_layer}
use Rattle.go_type_images.specs.Parts.{field_type, parts}
use Rattle.go_type_images.specs.SpotImages.{at_spot}
use Rattle.go_type_images.specs.declared.pair.TypePair.{TypePair}
use Rattle.go_type_images.proofs.ImageLevels.{is_name, is_name_of, out_image_field}
use Rattle.go_client_types.specs.Endings.{end_at}
use Rattle.go_client_types.specs.Keeping.{Keeps}
use Rattle.go_client_types.specs.Reached.{IsClientSel, IsGiven, IsReached, reach_given}
use Rattle.go_client_types.proofs.Conversions as C
use Rattle.go_client_types.proofs.Conversions.{none_of, true_false}
use Rattle.go_client_types.proofs.Views as V
use Rattle.go_client_types.proofs.Views.{view_given, view_interface, view_own, view_struct}

-- ---- levels

struct_form : (l : Layer) → struct_layer l ≡ true → (fs : List Field) × (l ≡ Term-F.Struct fs)
struct_form (Term-F.Struct fs) e = (fs, refl)
struct_form (Term-F.Plain b) e = absurd (cc)
struct_form (Term-F.Named n) e = absurd (cc)
struct_form (Term-F.Pointer t) e = absurd (cc)
struct_form (Term-F.Slice t) e = absurd (cc)
struct_form (Term-F.Array n t) e = absurd (cc)
struct_form (Term-F.Map k t) e = absurd (cc)
struct_form (Term-F.Chan d t) e = absurd (cc)
struct_form (Term-F.Func g) e = absurd (cc)
struct_form (Term-F.Interface ms) e = absurd (cc)

one_struct : {fs gs : List Field} → ◌≡◌ {A = Layer} (Term-F.Struct fs) (Term-F.Struct gs) → fs ≡ gs
one_struct e = cc

named_struct : (n : TypeName) (fs : List Field) → ◌≡◌ {A = Layer} (Term-F.Named n) (Term-F.Struct fs) → ⊥
named_struct n fs e = absurd (cc)

unnamed_struct : (T : Table) (l : Layer) (fs : List Field) → is_name l ≡ false → under_layer T l ≡ Term-F.Struct fs → l ≡ Term-F.Struct fs
unnamed_struct T (Term-F.Struct gs) fs e f = f
unnamed_struct T (Term-F.Named n) fs e f = absurd (cc)
unnamed_struct T (Term-F.Plain b) fs e f = absurd (cc)
unnamed_struct T (Term-F.Pointer t) fs e f = absurd (cc)
unnamed_struct T (Term-F.Slice t) fs e f = absurd (cc)
unnamed_struct T (Term-F.Array n t) fs e f = absurd (cc)
unnamed_struct T (Term-F.Map k t) fs e f = absurd (cc)
unnamed_struct T (Term-F.Chan d t) fs e f = absurd (cc)
unnamed_struct T (Term-F.Func g) fs e f = absurd (cc)
unnamed_struct T (Term-F.Interface ms) fs e f = absurd (cc)

no_interface_struct : (l : Layer) (fs : List Field) → imported_interface l (Term-F.Struct fs) ≡ false
no_interface_struct (Term-F.Struct gs) fs = refl
no_interface_struct (Term-F.Named n) fs = refl
no_interface_struct (Term-F.Plain b) fs = refl
no_interface_struct (Term-F.Pointer t) fs = refl
no_interface_struct (Term-F.Slice t) fs = refl
no_interface_struct (Term-F.Array n t) fs = refl
no_interface_struct (Term-F.Map k t) fs = refl
no_interface_struct (Term-F.Chan d t) fs = refl
no_interface_struct (Term-F.Func g) fs = refl
no_interface_struct (Term-F.Interface ms) fs = refl

-- ---- lists

in_images : {A B : Type 0} (f : A → B) (xs : List A) (x : A) → HasItem xs x → HasItem (map f xs) (f x)
in_images f [] x h = absurd h
in_images f (y ∷ xs) x (inl e) = inl (ap f e)
in_images f (y ∷ xs) x (inr h) = inr (in_images f xs x h)

gathered : {A B : Type 0} (f : A → List B) (xs : List A) (x : A) (y : B) → HasItem xs x → HasItem (f x) y → HasItem (gather f xs) y
gathered f [] x y h k = absurd h
gathered f (z ∷ xs) x y (inl e) k = has-left (f z) (gather f xs) y (subst (λ w. HasItem (f w) y) (sym e) k)
gathered f (z ∷ xs) x y (inr h) k = has-right (f z) (gather f xs) y (gathered f xs x y h k)

same_self : (s : Sel) → same_sel s s ≡ true
same_self s = ap (λ b. b && bytes_eq s.«package» s.«package») ((bytes_eq-Decides s.name s.name).1 refl) ∙ (bytes_eq-Decides s.«package» s.«package»).1 refl

own_ending : (f : Field) (b c : Bool) → c ≡ true → HasItem (if c then end_at b (field (out-Field f).term) ∷ [] else []) (end_at b (field (out-Field f).term))
own_ending f b true e = inl refl
own_ending f b false e = absurd (cc)

-- a field of the struct underneath ends a path of its selector
field_ends : (T : Table) (t : Term) (f : Field) (b : Bool) → HasItem (fields_of (under T t)) f → HasItem (ends T (field_sel f) 0 (at_spot b t)) (end_at b (field (field_type f)))
unfolding ends
field_ends T t f b k =
    let fs = gather (field_ending (field_sel f) b) (fields_of (under T t)) in
    let ds = gather (declared_ending (name_of (out-Term t)) (field_sel f) b) (declared_methods T (out-Term t)) in
    let ms = gather (method_ending (field_sel f) b) (methods_of (under T t)) in
    has-left (fs ++ ds) ms (end_at b (field (field_type f)))
    (has-left fs ds (end_at b (field (field_type f)))
    (gathered (field_ending (field_sel f) b) (fields_of (under T t)) f (end_at b (field (field_type f))) k (own_ending f b (same_sel (field_sel f) (field_sel f)) (same_self (field_sel f)))))

pub and_false : (a b : Bool) → b ≡ false → (a && b) ≡ false
and_false true b e = e
and_false false b e = refl

module _ (E F : Env) (r : Naming) (pairs : List TypePair) (std : TypeName → Bool) (is_open : Sel → Bool) (K : Keeps E F r pairs std is_open) where
  abbrev to : Term → Term
  to = image r same_sels

  abbrev R : Term → Type 0
  R = IsReached pairs std is_open

  abbrev View : Term → Type 0
  View = V.View E F r pairs std is_open K

  abbrev image_field : Field → Field
  image_field = image_of_field r same_sels

  -- ---- a struct stays a struct

  struct_image : (l : Layer) → struct_layer l ≡ true → struct_layer (image_of_layer r same_sels l) ≡ true
  struct_image l e = let f = struct_form l e in ap (λ k. struct_layer (image_of_layer r same_sels k)) f.1

  not_structured : (l : Layer) (fs : List Field) → l ≡ Term-F.Struct fs → is_structured l ≡ false → ⊥
  not_structured l fs e n = true_false (ap is_structured e) n

  not_interface : (l : Layer) (fs : List Field) → l ≡ Term-F.Struct fs → interface_layer l ≡ true → ⊥
  not_interface l fs e i = true_false i (ap interface_layer e)

  struct_by : (t : Term) (fs : List Field) → under E.table t ≡ Term-F.Struct fs → View t → struct_layer (under F.table (to t)) ≡ true
  struct_by t fs e (view_own f o k) = ap struct_layer f ∙ struct_image (under E.table t) (ap struct_layer e)
  struct_by t fs e (view_given g s f k) = absurd (not_structured (under E.table t) fs e s)
  struct_by t fs e (view_struct g s f) = f
  struct_by t fs e (view_interface g s f) = absurd (not_interface (under E.table t) fs e s)

  pub struct_kept : (t : Term) (fs : List Field) → R t → under E.table t ≡ Term-F.Struct fs → (gs : List Field) × (under F.table (to t) ≡ Term-F.Struct gs)
  struct_kept t fs h e = struct_form (under F.table (to t)) (struct_by t fs e (V.view E F r pairs std is_open K t h))

  -- ---- fields that a client names

  -- each field with a label of a client has a new one of its label, with the image of its type, which the client reaches
  abbrev pub FieldsKept : List Field → List Field → Type 0
  FieldsKept fs gs = (f : Field) → HasItem fs f → IsClientSel (field_sel f) → (g : Field) × HasItem gs g × (field_sel g ≡ field_sel f) × (field_type g ≡ to (field_type f)) × R (field_type f)

  not_strange : (t : Term) (f : Field) → IsGiven pairs std is_open t → HasItem (fields_of (under E.table t)) f → (field_sel f).«package» ≡ client_path → ⊥
  not_strange t f g k e = subst (λ xs. HasItem xs (end_at false (field (field_type f)))) (K.types.strange t (field_sel f) 0 false g e) (field_ends E.table t f false k)

  given_field : (t : Term) (f : Field) → IsGiven pairs std is_open t → HasItem (fields_of (under E.table t)) f → IsClientSel (field_sel f)
      → (g : Field) × HasItem (fields_of (under F.table (to t))) g × (field_sel g ≡ field_sel f) × (field_type g ≡ to (field_type f)) × R (field_type f)
  given_field t f g k (inl e) = let x = K.types.fields t f g k e in (x.0, x.1, x.2, x.3, reach_given x.4)
  given_field t f g k (inr e) = absurd (not_strange t f g k e)

  image_sel : (f : Field) → field_sel (image_field f) ≡ field_sel f
  image_sel f = ap (λ x. x.sel) (out_image_field r same_sels f)

  pub image_type : (f : Field) → field_type (image_field f) ≡ to (field_type f)
  image_type f = ap (λ x. x.term) (out_image_field r same_sels f)

  fields_by : (t : Term) (fs gs : List Field) → under E.table t ≡ Term-F.Struct fs → under F.table (to t) ≡ Term-F.Struct gs → View t → FieldsKept fs gs
  fields_by t fs gs e d (view_own w o j) f k c =
      let s : map image_field fs ≡ gs = one_struct (ap (image_of_layer r same_sels) (sym e) ∙ sym w ∙ d) in
      (image_field f, subst (λ xs. HasItem xs (image_field f)) s (in_images image_field fs f k), image_sel f, image_type f, j (field_type f) (subst (λ l. HasItem (parts l) (field_type f)) (sym e) (in_images field_type fs f k)))
  fields_by t fs gs e d (view_given g s w j) f k c = absurd (not_structured (under E.table t) fs e s)
  fields_by t fs gs e d (view_struct g s w) f k c =
      let x = given_field t f g (subst (λ l. HasItem (fields_of l) f) (sym e) k) c in
      (x.0, subst (λ l. HasItem (fields_of l) x.0) d x.1, x.2, x.3, x.4)
  fields_by t fs gs e d (view_interface g s w) f k c = absurd (not_interface (under E.table t) fs e s)

  pub fields_kept : (t : Term) (fs gs : List Field) → R t → under E.table t ≡ Term-F.Struct fs → under F.table (to t) ≡ Term-F.Struct gs → FieldsKept fs gs
  fields_kept t fs gs h e d = fields_by t fs gs e d (V.view E F r pairs std is_open K t h)

  -- ---- structs of which a client may write all fields

  pub closed_struct : (t : Term) (fs : List Field) → is_imported_struct E.table t ≡ false → under E.table t ≡ Term-F.Struct fs → is_imported_open E.table t ≡ false
  closed_struct t fs i e = none_of (is_imported_struct E.table t) _ i (ap (imported_interface (out-Term t)) e ∙ no_interface_struct (out-Term t) fs)

  pub struct_image_kept : (t : Term) (fs : List Field) → R t → is_imported_struct E.table t ≡ false → under E.table t ≡ Term-F.Struct fs → under F.table (to t) ≡ Term-F.Struct (map image_field fs)
  struct_image_kept t fs h i e = C.image_beneath E F r pairs std is_open K t h (closed_struct t fs i e) ∙ ap (image_of_layer r same_sels) e

  entry_fields : (n : TypeName) (o : Option Defined) (fs : List Field) → is_imported n ≡ false → entry E.table n ≡ o → under_entry n o ≡ Term-F.Struct fs → (u : Term) → HasItem (map field_type fs) u → R u
  entry_fields n None fs i e f u k = absurd (named_struct n fs f)
  entry_fields n (Some d) fs i e f u k = (K.own_entries n d i e).reached u (subst (λ l. HasItem (parts l) u) (sym f) k)

  named_fields : (t : Term) (n : TypeName) (fs : List Field) (b : Bool) → is_imported n ≡ b → out-Term t ≡ Term-F.Named n → is_imported_struct E.table t ≡ false → under E.table t ≡ Term-F.Struct fs → (u : Term) → HasItem (map field_type fs) u → R u
  named_fields t n fs true i d s e u k = let p : is_imported_struct E.table t ≡ is_imported n = λ j. imported_struct (d j) (e j) in absurd (true_false i (sym p ∙ s))
  named_fields t n fs false i d s e u k = entry_fields n (entry E.table n) fs i refl (sym (ap (under_layer E.table) d) ∙ e) u k

  fields_at : (t : Term) (fs : List Field) (b : Bool) → is_name (out-Term t) ≡ b → R t → is_imported_struct E.table t ≡ false → under E.table t ≡ Term-F.Struct fs → (u : Term) → HasItem (map field_type fs) u → R u
  fields_at t fs false m h s e u k = C.part_reached E F r pairs std is_open K t u h (subst (λ l. HasItem (parts l) u) (sym (unnamed_struct E.table (out-Term t) fs m e)) k)
  fields_at t fs true m h s e u k = let n = is_name_of (out-Term t) m in named_fields t n.0 fs (is_imported n.0) refl n.1 s e u k

  -- the types of all of its fields are reached
  pub all_fields : (t : Term) (fs : List Field) → R t → is_imported_struct E.table t ≡ false → under E.table t ≡ Term-F.Struct fs → (u : Term) → HasItem (map field_type fs) u → R u
  all_fields t fs h s e = fields_at t fs (is_name (out-Term t)) refl h s e

  pub reachable_kept : (f : Field) → IsReachable E f → IsReachable F (image_field f)
  reachable_kept f (inl e) = inl (ap (λ (s : Sel). s.«package») (image_sel f) ∙ e)
  reachable_kept f (inr e) = inr (ap (λ (s : Sel). s.«package») (image_sel f) ∙ e ∙ sym K.path)
