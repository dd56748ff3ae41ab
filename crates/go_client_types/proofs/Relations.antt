-- Relations of the types that a client reaches, on both sides: which compare, which hold nil, and where a value without a type may be used.
use Rattle.std.proofs.Common.{◌≡◌, inl, inr, ℕ, Bool, true, false, List, [], ◌∷◌, map, refl, sym, ap, ◌∙◌, subst}
use Rattle.go_base.specs.Lists.{Has as HasItem}
use Rattle.go_model.specs.constants.Constants.{is_representable}
use Rattle.go_model.specs.declared.constants.value.Basic.{Basic}
use Rattle.go_model.specs.declared.constants.value.Basic.TheVariants as basic
use Rattle.go_model.specs.declared.constants.value.Untyped.{Untyped}
use Rattle.go_model.specs.declared.constants.value.Value.{Value}
use Rattle.go_model.specs.declared.types.names.Sel.{Sel}
use Rattle.go_model.specs.declared.types.names.TypeName.{TypeName}
use Rattle.go_model.specs.declared.types.term.Field.{Field}
use Rattle.go_model.specs.declared.types.term.Method.{Method}
use Rattle.go_model.specs.declared.types.term.Signature.{Signature}
use Rattle.go_model.specs.declared.types.term.Term.{Term, Term-F, out-Term}
use Rattle.go_model.specs.types.Comparison.{Comparable, LeadsToIncomparable, at_func, at_map, at_slice, in_array, in_struct}
use Rattle.go_model.specs.types.Imports.{is_imported}
use Rattle.go_model.specs.types.Terms.{Layer}
use Rattle.go_model.specs.types.Underlying.{entry, methods_of, under}
use Rattle.go_rules.specs.Environments.{Entered, EnteredLayer, Env}
use Rattle.go_rules.specs.Operands.{IsTyped}
use Rattle.go_rules.specs.Usability.{Compares, DefaultHolds, LeadsTo, UsableAs, holds_nil, leads_array, leads_here, leads_struct, use_constant, use_constant_as_any, use_nil, use_truth, use_truth_as_any, use_value}
use Rattle.go_rules.specs.declared.operand.Operand.{Operand}
use Rattle.go_type_images.specs.EntryImages.{defined_to, entry_to}
use Rattle.go_type_images.specs.Images.{Naming, image, image_of_field, image_of_layer, same_sels}
use Rattle.go_type_images.specs.Levels.{interface_layer, struct_layer}
use Rattle.go_type_images.specs.Parts.{field_type, parts}
use Rattle.go_type_images.specs.declared.pair.TypePair.{TypePair}
use Rattle.go_type_images.proofs.ImageLevels.{out_image, out_image_field}
use Rattle.go_client_types.specs.Following.{After, after_bare, after_constant, after_tuple, after_value}
use Rattle.go_client_types.specs.Keeping.{Keeps}
use Rattle.go_client_types.specs.Preserving.{HasEntry}
use Rattle.go_client_types.specs.Reached.{IsMade, IsReached, reach_given, reach_made, reach_own}
use Rattle.go_client_types.proofs.Views as V
use Rattle.go_client_types.proofs.Views.{view_given, view_interface, view_own, view_struct}

-- ---- levels whose image is known

module _ (r : Naming) where
  abbrev to : Term → Term
  to = image r same_sels

  abbrev layer : Layer → Layer
  layer = image_of_layer r same_sels

  slice_image : (l : Layer) (e : Term) → layer l ≡ Term-F.Slice e → (u : Term) × (l ≡ Term-F.Slice u)
  slice_image (Term-F.Slice u) e f = (u, refl)
  slice_image (Term-F.Plain b) e f = absurd (cc)
  slice_image (Term-F.Named n) e f = absurd (cc)
  slice_image (Term-F.Pointer u) e f = absurd (cc)
  slice_image (Term-F.Array n u) e f = absurd (cc)
  slice_image (Term-F.Map k u) e f = absurd (cc)
  slice_image (Term-F.Chan d u) e f = absurd (cc)
  slice_image (Term-F.Func g) e f = absurd (cc)
  slice_image (Term-F.Struct fs) e f = absurd (cc)
  slice_image (Term-F.Interface ms) e f = absurd (cc)

  map_image : (l : Layer) (k e : Term) → layer l ≡ Term-F.Map k e → (j : Term) × (u : Term) × (l ≡ Term-F.Map j u)
  map_image (Term-F.Map j u) k e f = (j, u, refl)
  map_image (Term-F.Plain b) k e f = absurd (cc)
  map_image (Term-F.Named n) k e f = absurd (cc)
  map_image (Term-F.Pointer u) k e f = absurd (cc)
  map_image (Term-F.Slice u) k e f = absurd (cc)
  map_image (Term-F.Array n u) k e f = absurd (cc)
  map_image (Term-F.Chan d u) k e f = absurd (cc)
  map_image (Term-F.Func g) k e f = absurd (cc)
  map_image (Term-F.Struct fs) k e f = absurd (cc)
  map_image (Term-F.Interface ms) k e f = absurd (cc)

  function_image : (l : Layer) (h : Signature) → layer l ≡ Term-F.Func h → (g : Signature) × (l ≡ Term-F.Func g)
  function_image (Term-F.Func g) h f = (g, refl)
  function_image (Term-F.Plain b) h f = absurd (cc)
  function_image (Term-F.Named n) h f = absurd (cc)
  function_image (Term-F.Pointer u) h f = absurd (cc)
  function_image (Term-F.Slice u) h f = absurd (cc)
  function_image (Term-F.Array n u) h f = absurd (cc)
  function_image (Term-F.Map k u) h f = absurd (cc)
  function_image (Term-F.Chan d u) h f = absurd (cc)
  function_image (Term-F.Struct fs) h f = absurd (cc)
  function_image (Term-F.Interface ms) h f = absurd (cc)

  array_image : (l : Layer) (n : ℕ) (e : Term) → layer l ≡ Term-F.Array n e → (m : ℕ) × (u : Term) × (l ≡ Term-F.Array m u) × (e ≡ to u)
  array_image (Term-F.Array m u) n e f = (m, u, refl, cc)
  array_image (Term-F.Plain b) n e f = absurd (cc)
  array_image (Term-F.Named m) n e f = absurd (cc)
  array_image (Term-F.Pointer u) n e f = absurd (cc)
  array_image (Term-F.Slice u) n e f = absurd (cc)
  array_image (Term-F.Map k u) n e f = absurd (cc)
  array_image (Term-F.Chan d u) n e f = absurd (cc)
  array_image (Term-F.Func g) n e f = absurd (cc)
  array_image (Term-F.Struct fs) n e f = absurd (cc)
  array_image (Term-F.Interface ms) n e f = absurd (cc)

  struct_image : (l : Layer) (gs : List Field) → layer l ≡ Term-F.Struct gs → (fs : List Field) × (l ≡ Term-F.Struct fs) × (gs ≡ map (image_of_field r same_sels) fs)
  struct_image (Term-F.Struct fs) gs f = (fs, refl, cc)
  struct_image (Term-F.Plain b) gs f = absurd (cc)
  struct_image (Term-F.Named m) gs f = absurd (cc)
  struct_image (Term-F.Pointer u) gs f = absurd (cc)
  struct_image (Term-F.Slice u) gs f = absurd (cc)
  struct_image (Term-F.Array n u) gs f = absurd (cc)
  struct_image (Term-F.Map k u) gs f = absurd (cc)
  struct_image (Term-F.Chan d u) gs f = absurd (cc)
  struct_image (Term-F.Func g) gs f = absurd (cc)
  struct_image (Term-F.Interface ms) gs f = absurd (cc)

  field_image : (fs : List Field) (g : Field) → HasItem (map (image_of_field r same_sels) fs) g → (f : Field) × HasItem fs f × (field_type g ≡ to (field_type f))
  field_image [] g k = absurd k
  field_image (f ∷ fs) g (inl e) = (f, inl refl, ap field_type (sym e) ∙ ap (λ x. x.term) (out_image_field r same_sels f))
  field_image (f ∷ fs) g (inr k) = let h = field_image fs g k in (h.0, inr h.1, h.2)

  nil_image : (l : Layer) → holds_nil (layer l) ≡ holds_nil l
  nil_image (Term-F.Plain b) = refl
  nil_image (Term-F.Named n) = refl
  nil_image (Term-F.Pointer e) = refl
  nil_image (Term-F.Slice e) = refl
  nil_image (Term-F.Array n e) = refl
  nil_image (Term-F.Map k e) = refl
  nil_image (Term-F.Chan d e) = refl
  nil_image (Term-F.Func g) = refl
  nil_image (Term-F.Struct fs) = refl
  nil_image (Term-F.Interface ms) = refl

in_fields : (fs : List Field) (f : Field) → HasItem fs f → HasItem (map field_type fs) (field_type f)
in_fields [] f k = absurd k
in_fields (g ∷ fs) f (inl e) = inl (ap field_type e)
in_fields (g ∷ fs) f (inr k) = inr (in_fields fs f k)

no_nil : (l : Layer) → struct_layer l ≡ true → holds_nil l ≡ false
no_nil (Term-F.Struct fs) e = refl
no_nil (Term-F.Plain b) e = refl
no_nil (Term-F.Named n) e = refl
no_nil (Term-F.Array n t) e = refl
no_nil (Term-F.Pointer t) e = absurd (cc)
no_nil (Term-F.Slice t) e = absurd (cc)
no_nil (Term-F.Map k t) e = absurd (cc)
no_nil (Term-F.Chan d t) e = absurd (cc)
no_nil (Term-F.Func g) e = absurd (cc)
no_nil (Term-F.Interface ms) e = absurd (cc)

interface_nil : (l : Layer) → interface_layer l ≡ true → holds_nil l ≡ true
interface_nil (Term-F.Interface ms) e = refl
interface_nil (Term-F.Plain b) e = absurd (cc)
interface_nil (Term-F.Named n) e = absurd (cc)
interface_nil (Term-F.Pointer t) e = absurd (cc)
interface_nil (Term-F.Slice t) e = absurd (cc)
interface_nil (Term-F.Array n t) e = absurd (cc)
interface_nil (Term-F.Map k t) e = absurd (cc)
interface_nil (Term-F.Chan d t) e = absurd (cc)
interface_nil (Term-F.Func g) e = absurd (cc)
interface_nil (Term-F.Struct fs) e = absurd (cc)

empty_interface : (l : Layer) → interface_layer l ≡ true → ((n : Method) → HasItem (methods_of l) n → ⊥) → l ≡ Term-F.Interface []
empty_interface (Term-F.Interface []) e h = refl
empty_interface (Term-F.Interface (m ∷ ms)) e h = absurd (h m (inl refl))
empty_interface (Term-F.Plain b) e h = absurd (cc)
empty_interface (Term-F.Named n) e h = absurd (cc)
empty_interface (Term-F.Pointer t) e h = absurd (cc)
empty_interface (Term-F.Slice t) e h = absurd (cc)
empty_interface (Term-F.Array n t) e h = absurd (cc)
empty_interface (Term-F.Map k t) e h = absurd (cc)
empty_interface (Term-F.Chan d t) e h = absurd (cc)
empty_interface (Term-F.Func g) e h = absurd (cc)
empty_interface (Term-F.Struct fs) e h = absurd (cc)

both : (b : Bool) → b ≡ true → b ≡ false → ⊥
both b e f = let g : true ≡ false = sym e ∙ f in absurd (cc)

interface_struct : (ms : List Method) → struct_layer (Term-F.Interface ms) ≡ true → ⊥
interface_struct ms e = absurd (cc)

module _ (E F : Env) (r : Naming) (pairs : List TypePair) (std : TypeName → Bool) (is_open : Sel → Bool) (K : Keeps E F r pairs std is_open) where
  abbrev R : Term → Type 0
  R = IsReached pairs std is_open

  abbrev View : Term → Type 0
  View = V.View E F r pairs std is_open K

  view : (t : Term) → R t → View t
  view = V.view E F r pairs std is_open K

  -- ---- what compares

  incomparable : (t : Term) → R t → Comparable E.table t → (u : Term) → u ≡ to r t → LeadsToIncomparable F.table u → View t → ⊥
  incomparable t h c u e d (view_given g s f k) = K.types.compares t g c (subst (LeadsToIncomparable F.table) e d)
  incomparable t h c u e d (view_struct g s f) = K.types.compares t g c (subst (LeadsToIncomparable F.table) e d)
  incomparable t h c u e d (view_interface g s f) = K.types.compares t g c (subst (LeadsToIncomparable F.table) e d)
  incomparable t h c u e (at_slice {e = x} l) (view_own f o k) =
      let i = slice_image r (under E.table t) x (sym f ∙ ap (under F.table) (sym e) ∙ l) in c (at_slice i.1)
  incomparable t h c u e (at_map {k = j} {e = x} l) (view_own f o k) =
      let i = map_image r (under E.table t) j x (sym f ∙ ap (under F.table) (sym e) ∙ l) in c (at_map i.2)
  incomparable t h c u e (at_func {g = g} l) (view_own f o k) =
      let i = function_image r (under E.table t) g (sym f ∙ ap (under F.table) (sym e) ∙ l) in c (at_func i.1)
  incomparable t h c u e (in_array {e = x} {n = n} l d) (view_own f o k) =
      let i = array_image r (under E.table t) n x (sym f ∙ ap (under F.table) (sym e) ∙ l) in
      let p = k i.1 (subst (λ y. HasItem (parts y) i.1) (sym i.2) (inl refl)) in
      incomparable i.1 p (λ z. c (in_array i.2 z)) x i.3 d (view i.1 p)
  incomparable t h c u e (in_struct {fs = gs} g l q d) (view_own f o k) =
      let i = struct_image r (under E.table t) gs (sym f ∙ ap (under F.table) (sym e) ∙ l) in
      let j = field_image r i.0 g (subst (λ xs. HasItem xs g) i.2 q) in
      let p = k (field_type j.0) (subst (λ y. HasItem (parts y) (field_type j.0)) (sym i.1) (in_fields i.0 j.0 j.1)) in
      incomparable (field_type j.0) p (λ z. c (in_struct j.0 i.1 j.1 z)) (field_type g) j.2 d (view (field_type j.0) p)

  -- a comparable type stays so
  pub comparable : (t : Term) → R t → Comparable E.table t → Comparable F.table (to r t)
  comparable t h c d = incomparable t h c (to r t) refl d (view t h)

  -- ---- what has its entry

  given_entry : (l : Layer) → HasEntry F.table l → EnteredLayer F l
  given_entry (Term-F.Named n) h = h
  given_entry (Term-F.Plain b) h = tt
  given_entry (Term-F.Pointer t) h = tt
  given_entry (Term-F.Slice t) h = tt
  given_entry (Term-F.Array n t) h = tt
  given_entry (Term-F.Map k t) h = tt
  given_entry (Term-F.Chan d t) h = tt
  given_entry (Term-F.Func g) h = tt
  given_entry (Term-F.Struct fs) h = tt
  given_entry (Term-F.Interface ms) h = tt

  made_entry : (l : Layer) → IsMade l → EnteredLayer F (layer r l)
  made_entry (Term-F.Named n) h = absurd h
  made_entry (Term-F.Plain b) h = tt
  made_entry (Term-F.Pointer t) h = tt
  made_entry (Term-F.Slice t) h = tt
  made_entry (Term-F.Array n t) h = tt
  made_entry (Term-F.Map k t) h = tt
  made_entry (Term-F.Chan d t) h = tt
  made_entry (Term-F.Func g) h = tt
  made_entry (Term-F.Struct fs) h = tt
  made_entry (Term-F.Interface ms) h = tt

  own_entry : (n : TypeName) → is_imported n ≡ false → EnteredLayer E (Term-F.Named n) → EnteredLayer F (layer r (Term-F.Named n))
  own_entry n h x = (defined_to r x.0, ap (entry F.table) (K.types.own n h) ∙ K.entries n h ∙ ap (entry_to r) x.1)

  pub entered : (t : Term) → R t → Entered E t → Entered F (to r t)
  entered t (reach_given g) x = given_entry (out-Term (to r t)) (K.types.has_entry t g).1
  entered t (reach_own {n = n} e h) x = subst (EnteredLayer F) (sym (out_image r same_sels t ∙ ap (layer r) e)) (own_entry n h (subst (EnteredLayer E) e x))
  entered t (reach_made m h) x = subst (EnteredLayer F) (sym (out_image r same_sels t)) (made_entry (out-Term t) m)

  -- ---- what compares, with each type to which a path leads

  leads : (t : Term) → R t → ((z : Term) → LeadsTo E.table t z → Entered E z) → (v : Term) → v ≡ to r t → (u : Term) → LeadsTo F.table v u → View t → Entered F u
  leads t h c v e u leads_here w = subst (Entered F) (sym e) (entered t h (c t leads_here))
  leads t h c v e u (leads_array l d) (view_given g s f k) = given_entry (out-Term u) (K.types.leads t u g (subst (λ x. LeadsTo F.table x u) e (leads_array l d)))
  leads t h c v e u (leads_array l d) (view_struct g s f) = given_entry (out-Term u) (K.types.leads t u g (subst (λ x. LeadsTo F.table x u) e (leads_array l d)))
  leads t h c v e u (leads_array l d) (view_interface g s f) = given_entry (out-Term u) (K.types.leads t u g (subst (λ x. LeadsTo F.table x u) e (leads_array l d)))
  leads t h c v e u (leads_array {e = x} {n = n} l d) (view_own f o k) =
      let i = array_image r (under E.table t) n x (sym f ∙ ap (under F.table) (sym e) ∙ l) in
      let p = k i.1 (subst (λ y. HasItem (parts y) i.1) (sym i.2) (inl refl)) in
      leads i.1 p (λ z w. c z (leads_array i.2 w)) x i.3 u d (view i.1 p)
  leads t h c v e u (leads_struct g l q d) (view_given a s f k) = given_entry (out-Term u) (K.types.leads t u a (subst (λ x. LeadsTo F.table x u) e (leads_struct g l q d)))
  leads t h c v e u (leads_struct g l q d) (view_struct a s f) = given_entry (out-Term u) (K.types.leads t u a (subst (λ x. LeadsTo F.table x u) e (leads_struct g l q d)))
  leads t h c v e u (leads_struct g l q d) (view_interface a s f) = given_entry (out-Term u) (K.types.leads t u a (subst (λ x. LeadsTo F.table x u) e (leads_struct g l q d)))
  leads t h c v e u (leads_struct {fs = gs} g l q d) (view_own f o k) =
      let i = struct_image r (under E.table t) gs (sym f ∙ ap (under F.table) (sym e) ∙ l) in
      let j = field_image r i.0 g (subst (λ xs. HasItem xs g) i.2 q) in
      let p = k (field_type j.0) (subst (λ y. HasItem (parts y) (field_type j.0)) (sym i.1) (in_fields i.0 j.0 j.1)) in
      leads (field_type j.0) p (λ z w. c z (leads_struct j.0 i.1 j.1 w)) (field_type g) j.2 u d (view (field_type j.0) p)

  pub compares : (t : Term) → R t → Compares E t → Compares F (to r t)
  compares t h c = record { comparable = comparable t h c.comparable; entered = λ u d. leads t h c.entered (to r t) refl u d (view t h) }

  -- ---- values without a type

  nil_by : (t : Term) → holds_nil (under E.table t) ≡ true → View t → holds_nil (under F.table (to r t)) ≡ true
  nil_by t e (view_own f o k) = ap holds_nil f ∙ nil_image r (under E.table t) ∙ e
  nil_by t e (view_given g s f k) = ap holds_nil f ∙ nil_image r (under E.table t) ∙ e
  nil_by t e (view_struct g s f) = absurd (both (holds_nil (under E.table t)) e (no_nil (under E.table t) s))
  nil_by t e (view_interface g s f) = interface_nil (under F.table (to r t)) f

  any_by : (t : Term) → under E.table t ≡ Term-F.Interface [] → View t → under F.table (to r t) ≡ Term-F.Interface []
  any_by t e (view_own f o k) = f ∙ ap (layer r) e
  any_by t e (view_given g s f k) = f ∙ ap (layer r) e
  any_by t e (view_struct g s f) = absurd (interface_struct [] (sym (ap struct_layer e) ∙ s))
  any_by t e (view_interface g s f) = empty_interface (under F.table (to r t)) f (λ n k. (K.types.unsealed t [] g e tt n k).1)

  plain_by : (t : Term) (b : Basic) → R t → under E.table t ≡ Term-F.Plain b → under F.table (to r t) ≡ Term-F.Plain b
  plain_by t b h e = (V.form_kept E F r pairs std is_open K t (Term-F.Plain b) h refl e).0

  default_by : (k : Untyped) (v : Value) → DefaultHolds E k v → DefaultHolds F k v
  default_by k v d = (d.0, d.1, subst (λ b. is_representable v d.0 b ≡ true) (sym K.bits) d.2)

  -- a value without a type may be used as one of the image
  pub usable : {o p : Operand} {t : Term} → After r pairs std is_open o p → R t → ((u : Term) → IsTyped o u → ⊥) → UsableAs E o t → UsableAs F p (to r t)
  usable (after_value b h) k n (use_value i a) = absurd (n _ i)
  usable (after_constant h) k n (use_value i a) = absurd (n _ i)
  usable {t = t} (after_constant h) k n (use_constant {v = v} {b = b} e d) = use_constant (plain_by t b k e) (subst (λ x. is_representable v b x ≡ true) (sym K.bits) d)
  usable {t = t} (after_constant h) k n (use_constant_as_any {k = j} {v = v} e d) = use_constant_as_any (any_by t e (view t k)) (default_by j v d)
  usable (after_tuple h) k n (use_value i a) = absurd (n _ i)
  usable (after_bare h) k n (use_value i a) = absurd (n _ i)
  usable (after_bare h) k n (use_constant e d) = absurd h
  usable (after_bare h) k n (use_constant_as_any e d) = absurd h
  usable {t = t} (after_bare h) k n (use_truth e) = use_truth (plain_by t basic.Bool k e)
  usable {t = t} (after_bare h) k n (use_truth_as_any e) = use_truth_as_any (any_by t e (view t k))
  usable {t = t} (after_bare h) k n (use_nil e) = use_nil (nil_by t e (view t k))
