-- What selectors find in the types that a client reaches, on both sides, with all that was searched.
use Rattle.std.proofs.Common.{◌≡◌, ◌⊎◌, inl, inr, ℕ, zero, suc, Bool, true, false, List, [], ◌∷◌, map, refl, sym, ap, ◌∙◌, subst, Option}
use Rattle.std.specs.Prelude.{if◌then◌else◌}
use Rattle.go_base.specs.Lists.{Has as HasItem}
use Rattle.go_model.specs.declared.types.names.Sel.{Sel}
use Rattle.go_model.specs.declared.types.names.TypeName.{TypeName}
use Rattle.go_model.specs.declared.types.term.Signature.{Signature}
use Rattle.go_model.specs.declared.types.term.Term.{Term, Term-F, out-Term}
use Rattle.go_model.specs.types.MethodSets.{Reaches}
use Rattle.go_model.specs.types.Selectors.{Ending, IsOnly, Spot, Target, ends, is_defined_layer, is_defined_pointer, method, start, start_layer, start_named, start_pointer, steps}
use Rattle.go_model.specs.types.Terms.{IsBlank, Layer, client_path}
use Rattle.go_model.specs.types.Underlying.{entry, under}
use Rattle.go_rules.specs.Asks.{IsOwnLayer}
use Rattle.go_rules.specs.Environments.{Begins, BeginsLayer, Env, Found, HasMethod, Told, ToldLayer, ToldTo, is_among}
use Rattle.go_selectors.specs.Ways.{OnWay, further, here}
use Rattle.go_type_images.specs.EntryImages.{defined_to, entry_to}
use Rattle.go_type_images.specs.Images.{Naming, image, image_of_layer, image_of_signature, same_sels}
use Rattle.go_type_images.specs.Levels.{interface_layer, struct_layer}
use Rattle.go_type_images.specs.Parts.{function_type, parts}
use Rattle.go_type_images.specs.SpotImages.{at_spot, ending_to, spot_to}
use Rattle.go_type_images.specs.declared.pair.TypePair.{TypePair}
use Rattle.go_type_images.proofs.ImageLevels.{out_image}
use Rattle.go_client_types.specs.Endings.{IsKeptEnding, TargetReached, end_at, kept_method}
use Rattle.go_client_types.specs.Keeping.{Keeps}
use Rattle.go_client_types.specs.Preserving.{HasEntry, IsForeign}
use Rattle.go_client_types.specs.Reached.{IsClientSel, IsGiven, IsMade, IsReached, reach_given, reach_made, reach_own}
use Rattle.go_client_types.proofs.Conversions.{part_reached}
use Rattle.go_client_types.proofs.FoundEnds as W
use Rattle.go_client_types.proofs.FoundEnds.{first_of, own_kept}
use Rattle.go_client_types.proofs.Own.{all_steps, next_own, own_ends, own_under}
use Rattle.go_client_types.proofs.Relations.{entered}
use Rattle.go_client_types.proofs.Views as V
use Rattle.go_client_types.proofs.Views.{view_given, view_interface, view_own, view_struct}

pub in_map : {A B : Type 0} (f : A → B) (xs : List A) (y : B) → HasItem (map f xs) y → (x : A) × HasItem xs x × (f x ≡ y)
in_map f [] y h = absurd h
in_map f (x ∷ xs) y (inl e) = (x, inl refl, e)
in_map f (x ∷ xs) y (inr h) = let g = in_map f xs y h in (g.0, inr g.1, g.2)

-- ---- where searches begin

module _ (r : Naming) where
  abbrev of_type : Term → Term
  of_type = image r same_sels

  abbrev of_level : Layer → Layer
  of_level = image_of_layer r same_sels

  pointer_image : (t base : Term) (u : Layer) → start_pointer (of_type t) (of_type base) (of_level u) ≡ spot_to r (start_pointer t base u)
  pointer_image t base (Term-F.Plain b) = refl
  pointer_image t base (Term-F.Named n) = refl
  pointer_image t base (Term-F.Pointer v) = refl
  pointer_image t base (Term-F.Slice v) = refl
  pointer_image t base (Term-F.Array n v) = refl
  pointer_image t base (Term-F.Map k v) = refl
  pointer_image t base (Term-F.Chan d v) = refl
  pointer_image t base (Term-F.Func g) = refl
  pointer_image t base (Term-F.Struct fs) = refl
  pointer_image t base (Term-F.Interface ms) = refl

  named_image : (t : Term) (u : Layer) → start_named (of_type t) (of_level u) ≡ spot_to r (start_named t u)
  named_image t (Term-F.Plain b) = refl
  named_image t (Term-F.Named n) = refl
  named_image t (Term-F.Pointer v) = refl
  named_image t (Term-F.Slice v) = refl
  named_image t (Term-F.Array n v) = refl
  named_image t (Term-F.Map k v) = refl
  named_image t (Term-F.Chan d v) = refl
  named_image t (Term-F.Func g) = refl
  named_image t (Term-F.Struct fs) = refl
  named_image t (Term-F.Interface ms) = refl

  defined_image : (l u : Layer) → is_defined_layer (of_level l) (of_level u) ≡ is_defined_layer l u
  defined_image (Term-F.Plain b) u = refl
  defined_image (Term-F.Named n) (Term-F.Plain b) = refl
  defined_image (Term-F.Named n) (Term-F.Named m) = refl
  defined_image (Term-F.Named n) (Term-F.Pointer v) = refl
  defined_image (Term-F.Named n) (Term-F.Slice v) = refl
  defined_image (Term-F.Named n) (Term-F.Array m v) = refl
  defined_image (Term-F.Named n) (Term-F.Map k v) = refl
  defined_image (Term-F.Named n) (Term-F.Chan d v) = refl
  defined_image (Term-F.Named n) (Term-F.Func g) = refl
  defined_image (Term-F.Named n) (Term-F.Struct fs) = refl
  defined_image (Term-F.Named n) (Term-F.Interface ms) = refl
  defined_image (Term-F.Pointer v) u = refl
  defined_image (Term-F.Slice v) u = refl
  defined_image (Term-F.Array n v) u = refl
  defined_image (Term-F.Map k v) u = refl
  defined_image (Term-F.Chan d v) u = refl
  defined_image (Term-F.Func g) u = refl
  defined_image (Term-F.Struct fs) u = refl
  defined_image (Term-F.Interface ms) u = refl

pointer_struct : (t base : Term) (u : Layer) → struct_layer u ≡ true → start_pointer t base u ≡ at_spot true base
pointer_struct t base (Term-F.Plain b) e = absurd (cc)
pointer_struct t base (Term-F.Named n) e = absurd (cc)
pointer_struct t base (Term-F.Pointer v) e = absurd (cc)
pointer_struct t base (Term-F.Slice v) e = absurd (cc)
pointer_struct t base (Term-F.Array n v) e = absurd (cc)
pointer_struct t base (Term-F.Map k v) e = absurd (cc)
pointer_struct t base (Term-F.Chan d v) e = absurd (cc)
pointer_struct t base (Term-F.Func g) e = absurd (cc)
pointer_struct t base (Term-F.Struct fs) e = refl
pointer_struct t base (Term-F.Interface ms) e = absurd (cc)

named_struct : (t : Term) (u : Layer) → struct_layer u ≡ true → start_named t u ≡ at_spot false t
named_struct t (Term-F.Plain b) e = absurd (cc)
named_struct t (Term-F.Named n) e = absurd (cc)
named_struct t (Term-F.Pointer v) e = absurd (cc)
named_struct t (Term-F.Slice v) e = absurd (cc)
named_struct t (Term-F.Array n v) e = absurd (cc)
named_struct t (Term-F.Map k v) e = absurd (cc)
named_struct t (Term-F.Chan d v) e = absurd (cc)
named_struct t (Term-F.Func g) e = absurd (cc)
named_struct t (Term-F.Struct fs) e = refl
named_struct t (Term-F.Interface ms) e = absurd (cc)

level_struct : (l u : Layer) → struct_layer u ≡ true → is_defined_layer l u ≡ false
level_struct (Term-F.Plain b) u e = refl
level_struct (Term-F.Named n) (Term-F.Plain b) e = absurd (cc)
level_struct (Term-F.Named n) (Term-F.Named m) e = absurd (cc)
level_struct (Term-F.Named n) (Term-F.Pointer v) e = absurd (cc)
level_struct (Term-F.Named n) (Term-F.Slice v) e = absurd (cc)
level_struct (Term-F.Named n) (Term-F.Array m v) e = absurd (cc)
level_struct (Term-F.Named n) (Term-F.Map k v) e = absurd (cc)
level_struct (Term-F.Named n) (Term-F.Chan d v) e = absurd (cc)
level_struct (Term-F.Named n) (Term-F.Func g) e = absurd (cc)
level_struct (Term-F.Named n) (Term-F.Struct fs) e = refl
level_struct (Term-F.Named n) (Term-F.Interface ms) e = absurd (cc)
level_struct (Term-F.Pointer v) u e = refl
level_struct (Term-F.Slice v) u e = refl
level_struct (Term-F.Array n v) u e = refl
level_struct (Term-F.Map k v) u e = refl
level_struct (Term-F.Chan d v) u e = refl
level_struct (Term-F.Func g) u e = refl
level_struct (Term-F.Struct fs) u e = refl
level_struct (Term-F.Interface ms) u e = refl

pointer_interface : (t base : Term) (u : Layer) → interface_layer u ≡ true → start_pointer t base u ≡ at_spot false t
pointer_interface t base (Term-F.Plain b) e = absurd (cc)
pointer_interface t base (Term-F.Named n) e = absurd (cc)
pointer_interface t base (Term-F.Pointer v) e = absurd (cc)
pointer_interface t base (Term-F.Slice v) e = absurd (cc)
pointer_interface t base (Term-F.Array n v) e = absurd (cc)
pointer_interface t base (Term-F.Map k v) e = absurd (cc)
pointer_interface t base (Term-F.Chan d v) e = absurd (cc)
pointer_interface t base (Term-F.Func g) e = absurd (cc)
pointer_interface t base (Term-F.Struct fs) e = absurd (cc)
pointer_interface t base (Term-F.Interface ms) e = refl

named_interface : (t : Term) (u : Layer) → interface_layer u ≡ true → start_named t u ≡ at_spot false t
named_interface t (Term-F.Plain b) e = absurd (cc)
named_interface t (Term-F.Named n) e = absurd (cc)
named_interface t (Term-F.Pointer v) e = absurd (cc)
named_interface t (Term-F.Slice v) e = absurd (cc)
named_interface t (Term-F.Array n v) e = absurd (cc)
named_interface t (Term-F.Map k v) e = absurd (cc)
named_interface t (Term-F.Chan d v) e = absurd (cc)
named_interface t (Term-F.Func g) e = absurd (cc)
named_interface t (Term-F.Struct fs) e = absurd (cc)
named_interface t (Term-F.Interface ms) e = refl

level_interface : (l u : Layer) → interface_layer u ≡ true → is_defined_layer l u ≡ false
level_interface (Term-F.Plain b) u e = refl
level_interface (Term-F.Named n) (Term-F.Plain b) e = absurd (cc)
level_interface (Term-F.Named n) (Term-F.Named m) e = absurd (cc)
level_interface (Term-F.Named n) (Term-F.Pointer v) e = absurd (cc)
level_interface (Term-F.Named n) (Term-F.Slice v) e = absurd (cc)
level_interface (Term-F.Named n) (Term-F.Array m v) e = absurd (cc)
level_interface (Term-F.Named n) (Term-F.Map k v) e = absurd (cc)
level_interface (Term-F.Named n) (Term-F.Chan d v) e = absurd (cc)
level_interface (Term-F.Named n) (Term-F.Func g) e = absurd (cc)
level_interface (Term-F.Named n) (Term-F.Struct fs) e = absurd (cc)
level_interface (Term-F.Named n) (Term-F.Interface ms) e = refl
level_interface (Term-F.Pointer v) u e = refl
level_interface (Term-F.Slice v) u e = refl
level_interface (Term-F.Array n v) u e = refl
level_interface (Term-F.Map k v) u e = refl
level_interface (Term-F.Chan d v) u e = refl
level_interface (Term-F.Func g) u e = refl
level_interface (Term-F.Struct fs) u e = refl
level_interface (Term-F.Interface ms) u e = refl

pointer_term : (P : Term → Type 0) (t base : Term) (u : Layer) → P t → P base → P (start_pointer t base u).term
pointer_term P t base (Term-F.Plain b) p q = q
pointer_term P t base (Term-F.Named n) p q = q
pointer_term P t base (Term-F.Pointer v) p q = p
pointer_term P t base (Term-F.Slice v) p q = q
pointer_term P t base (Term-F.Array n v) p q = q
pointer_term P t base (Term-F.Map k v) p q = q
pointer_term P t base (Term-F.Chan d v) p q = q
pointer_term P t base (Term-F.Func g) p q = q
pointer_term P t base (Term-F.Struct fs) p q = q
pointer_term P t base (Term-F.Interface ms) p q = p

named_term : (P : Term → Type 0) (t : Term) (u : Layer) → P t → ((base : Term) → u ≡ Term-F.Pointer base → P base) → P (start_named t u).term
named_term P t (Term-F.Plain b) p q = p
named_term P t (Term-F.Named n) p q = p
named_term P t (Term-F.Pointer v) p q = q v refl
named_term P t (Term-F.Slice v) p q = p
named_term P t (Term-F.Array n v) p q = p
named_term P t (Term-F.Map k v) p q = p
named_term P t (Term-F.Chan d v) p q = p
named_term P t (Term-F.Func g) p q = p
named_term P t (Term-F.Struct fs) p q = p
named_term P t (Term-F.Interface ms) p q = p

-- a search begins at a type of the sort, where the bases of a pointer and of one underneath are of it
pub start_term : (P : Term → Type 0) (T : _) (t : Term) (l : Layer) → P t → ((u : Term) → l ≡ Term-F.Pointer u → P u) → ((u : Term) → under T t ≡ Term-F.Pointer u → P u) → P (start_layer T t l).term
start_term P T t (Term-F.Plain b) p q h = p
start_term P T t (Term-F.Named n) p q h = named_term P t (under T t) p h
start_term P T t (Term-F.Pointer v) p q h = pointer_term P t v (under T v) p (q v refl)
start_term P T t (Term-F.Slice v) p q h = p
start_term P T t (Term-F.Array n v) p q h = p
start_term P T t (Term-F.Map k v) p q h = p
start_term P T t (Term-F.Chan d v) p q h = p
start_term P T t (Term-F.Func g) p q h = p
start_term P T t (Term-F.Struct fs) p q h = p
start_term P T t (Term-F.Interface ms) p q h = p

-- ---- what all that was searched tells

told_on : (F : Env) (s : Sel) (k : ℕ) (at : Spot) → ((x : Spot) → OnWay F.table at x → Told F s x.term) → ToldTo F s k at
told_on F s zero at h = h at here
told_on F s (suc k) at h = (h at here, λ next j. told_on F s k next (λ x w. h x (further j w)))

pub through_flag : (q : Bool) (P : Bool → Type 0) → P (if q then true else false) → P q
through_flag true P h = h
through_flag false P h = h

pub flag_through : (q : Bool) (P : Bool → Type 0) → P q → P (if q then true else false)
flag_through true P h = h
flag_through false P h = h

reaches_all : (c k : Bool) → Reaches c (if k then true else true)
reaches_all c true = inr refl
reaches_all c false = inr refl

-- a method that is kept
kept_call : {r : Naming} {q a : Bool} {o : Option TypeName} {g : Signature} {e : Ending} → IsKeptEnding r (end_at q (method o a g)) e → (k : Bool) × (m : Option TypeName) × (c : Bool) × (end_at k (method m c (image_of_signature r same_sels g)) ≡ e) × (Reaches a q → Reaches c k)
kept_call (kept_method {k = k} {c = c} {m = m} h) = (k, m, c, refl, h)

module _ (E F : Env) (r : Naming) (pairs : List TypePair) (std : TypeName → Bool) (is_open : Sel → Bool) (K : Keeps E F r pairs std is_open) where
  abbrev to : Term → Term
  to = image r same_sels

  abbrev layer : Layer → Layer
  layer = image_of_layer r same_sels

  abbrev R : Term → Type 0
  R = IsReached pairs std is_open

  abbrev Given : Term → Type 0
  Given = IsGiven pairs std is_open

  abbrev Reached : Target → Type 0
  Reached = TargetReached pairs std is_open

  abbrev View : Term → Type 0
  View = V.View E F r pairs std is_open K

  view : (t : Term) → R t → View t
  view = V.view E F r pairs std is_open K

  -- ---- where searches begin

  pointer_by : (t base : Term) → View base → start_pointer (to t) (to base) (under F.table (to base)) ≡ spot_to r (start_pointer t base (under E.table base))
  pointer_by t base (view_own f o k) = ap (start_pointer (to t) (to base)) f ∙ pointer_image r t base (under E.table base)
  pointer_by t base (view_given g s f k) = ap (start_pointer (to t) (to base)) f ∙ pointer_image r t base (under E.table base)
  pointer_by t base (view_struct g s f) = pointer_struct (to t) (to base) (under F.table (to base)) f ∙ ap (spot_to r) (sym (pointer_struct t base (under E.table base) s))
  pointer_by t base (view_interface g s f) = pointer_interface (to t) (to base) (under F.table (to base)) f ∙ ap (spot_to r) (sym (pointer_interface t base (under E.table base) s))

  named_by : (t : Term) → View t → start_named (to t) (under F.table (to t)) ≡ spot_to r (start_named t (under E.table t))
  named_by t (view_own f o k) = ap (start_named (to t)) f ∙ named_image r t (under E.table t)
  named_by t (view_given g s f k) = ap (start_named (to t)) f ∙ named_image r t (under E.table t)
  named_by t (view_struct g s f) = named_struct (to t) (under F.table (to t)) f ∙ ap (spot_to r) (sym (named_struct t (under E.table t) s))
  named_by t (view_interface g s f) = named_interface (to t) (under F.table (to t)) f ∙ ap (spot_to r) (sym (named_interface t (under E.table t) s))

  start_by : (t : Term) (l : Layer) → R t → ((u : Term) → HasItem (parts l) u → R u) → start_layer F.table (to t) (layer l) ≡ spot_to r (start_layer E.table t l)
  start_by t (Term-F.Plain b) h p = refl
  start_by t (Term-F.Named n) h p = named_by t (view t h)
  start_by t (Term-F.Pointer v) h p = pointer_by t v (view v (p v (inl refl)))
  start_by t (Term-F.Slice v) h p = refl
  start_by t (Term-F.Array n v) h p = refl
  start_by t (Term-F.Map k v) h p = refl
  start_by t (Term-F.Chan d v) h p = refl
  start_by t (Term-F.Func g) h p = refl
  start_by t (Term-F.Struct fs) h p = refl
  start_by t (Term-F.Interface ms) h p = refl

  parts_reached : (t : Term) → R t → (u : Term) → HasItem (parts (out-Term t)) u → R u
  parts_reached t h u k = part_reached E F r pairs std is_open K t u h k

  pub start_kept : (t : Term) → R t → start F.table (to t) ≡ spot_to r (start E.table t)
  start_kept t h = ap (start_layer F.table (to t)) (out_image r same_sels t) ∙ start_by t (out-Term t) h (parts_reached t h)

  pub start_reached : (t : Term) → R t → R (start E.table t).term
  start_reached t h = start_term R E.table t (out-Term t) h (λ u e. parts_reached t h u (subst (λ l. HasItem (parts l) u) (sym e) (inl refl))) (λ u e. (V.form_kept E F r pairs std is_open K t (Term-F.Pointer u) h refl e).1 u (inl refl))

  defined_by : (t : Term) → View t → is_defined_layer (out-Term (to t)) (under F.table (to t)) ≡ is_defined_layer (out-Term t) (under E.table t)
  defined_by t (view_own f o k) = (λ i. is_defined_layer (out_image r same_sels t i) (f i)) ∙ defined_image r (out-Term t) (under E.table t)
  defined_by t (view_given g s f k) = (λ i. is_defined_layer (out_image r same_sels t i) (f i)) ∙ defined_image r (out-Term t) (under E.table t)
  defined_by t (view_struct g s f) = level_struct (out-Term (to t)) (under F.table (to t)) f ∙ sym (level_struct (out-Term t) (under E.table t) s)
  defined_by t (view_interface g s f) = level_interface (out-Term (to t)) (under F.table (to t)) f ∙ sym (level_interface (out-Term t) (under E.table t) s)

  pub defined_kept : (t : Term) → R t → is_defined_pointer F.table (to t) ≡ is_defined_pointer E.table t
  defined_kept t h = defined_by t (view t h)

  begins_by : (t : Term) (l : Layer) → R t → ((u : Term) → HasItem (parts l) u → R u) → BeginsLayer E t l → BeginsLayer F (to t) (layer l)
  begins_by t (Term-F.Plain b) h p x = entered E F r pairs std is_open K t h x
  begins_by t (Term-F.Named n) h p x = entered E F r pairs std is_open K t h x
  begins_by t (Term-F.Pointer v) h p x = entered E F r pairs std is_open K v (p v (inl refl)) x
  begins_by t (Term-F.Slice v) h p x = entered E F r pairs std is_open K t h x
  begins_by t (Term-F.Array n v) h p x = entered E F r pairs std is_open K t h x
  begins_by t (Term-F.Map k v) h p x = entered E F r pairs std is_open K t h x
  begins_by t (Term-F.Chan d v) h p x = entered E F r pairs std is_open K t h x
  begins_by t (Term-F.Func g) h p x = entered E F r pairs std is_open K t h x
  begins_by t (Term-F.Struct fs) h p x = entered E F r pairs std is_open K t h x
  begins_by t (Term-F.Interface ms) h p x = entered E F r pairs std is_open K t h x

  pub begins_kept : (t : Term) → R t → Begins E t → Begins F (to t)
  begins_kept t h x = subst (BeginsLayer F (to t)) (sym (out_image r same_sels t)) (begins_by t (out-Term t) h (parts_reached t h) x)

  -- ---- all that was searched is told

  foreign_told : (s : Sel) (l : Layer) → HasEntry F.table l → IsForeign l → ToldLayer F s l
  foreign_told s (Term-F.Plain b) h x = tt
  foreign_told s (Term-F.Named n) h x = (h.0, h.1, ap (is_among s) (K.none_missing n x).1)
  foreign_told s (Term-F.Pointer v) h x = tt
  foreign_told s (Term-F.Slice v) h x = tt
  foreign_told s (Term-F.Array n v) h x = tt
  foreign_told s (Term-F.Map k v) h x = tt
  foreign_told s (Term-F.Chan d v) h x = tt
  foreign_told s (Term-F.Func g) h x = tt
  foreign_told s (Term-F.Struct fs) h x = tt
  foreign_told s (Term-F.Interface ms) h x = tt

  pub given_told : (s : Sel) (k : ℕ) (b : Bool) (t : Term) → Given t → ToldTo F s k (at_spot b (to t))
  given_told s k b t g = told_on F s k (at_spot b (to t)) (λ x w. let h = K.types.on_way t b x g w in foreign_told s (out-Term x.term) h.0 h.1)

  own_layer_told : (s : Sel) (l : Layer) → IsOwnLayer l → ToldLayer E s l → ToldLayer F s (layer l)
  own_layer_told s (Term-F.Plain b) h x = tt
  own_layer_told s (Term-F.Named n) h x = (defined_to r x.0, ap (entry F.table) (K.types.own n h) ∙ K.entries n h ∙ ap (entry_to r) x.1, ap (λ m. is_among s (F.missing m)) (K.types.own n h) ∙ ap (is_among s) (K.missing n h) ∙ x.2)
  own_layer_told s (Term-F.Pointer v) h x = absurd h
  own_layer_told s (Term-F.Slice v) h x = absurd h
  own_layer_told s (Term-F.Array n v) h x = absurd h
  own_layer_told s (Term-F.Map k v) h x = absurd h
  own_layer_told s (Term-F.Chan d v) h x = absurd h
  own_layer_told s (Term-F.Func g) h x = absurd h
  own_layer_told s (Term-F.Struct fs) h x = absurd h
  own_layer_told s (Term-F.Interface ms) h x = tt

  made_layer_told : (s : Sel) (l : Layer) → IsMade l → ToldLayer F s (layer l)
  made_layer_told s (Term-F.Plain b) h = tt
  made_layer_told s (Term-F.Named n) h = absurd h
  made_layer_told s (Term-F.Pointer v) h = tt
  made_layer_told s (Term-F.Slice v) h = tt
  made_layer_told s (Term-F.Array n v) h = tt
  made_layer_told s (Term-F.Map k v) h = tt
  made_layer_told s (Term-F.Chan d v) h = tt
  made_layer_told s (Term-F.Func g) h = tt
  made_layer_told s (Term-F.Struct fs) h = tt
  made_layer_told s (Term-F.Interface ms) h = tt

  own_spot : (s : Sel) (t : Term) → IsOwnLayer (out-Term t) → Told E s t → Told F s (to t)
  own_spot s t h x = subst (ToldLayer F s) (sym (out_image r same_sels t)) (own_layer_told s (out-Term t) h x)

  pub own_told : (s : Sel) (k : ℕ) (b : Bool) (t : Term) → IsOwnLayer (out-Term t) → ToldTo E s k (at_spot b t) → ToldTo F s k (at_spot b (to t))
  own_told s zero b t h x = own_spot s t h x
  own_told s (suc k) b t h x = (
    own_spot s t h x.0,
    λ next j.
        let i = in_map (spot_to r) (steps E.table (at_spot b t)) next (subst (λ xs. HasItem xs next) (all_steps E.table F.table r (own_kept E F r pairs std is_open K) s b t (own_under E.table F.table r (own_kept E F r pairs std is_open K) s t h)) j) in
        subst (ToldTo F s k) i.2 (own_told s k (i.0).through (i.0).term (next_own E.table F.table r (own_kept E F r pairs std is_open K) s b t i.0 h i.1) (x.1 i.0 i.1)),
  )

  pub made_told : (s : Sel) (k : ℕ) (b : Bool) (t : Term) → IsMade (out-Term t) → ToldTo E s k (at_spot b t) → ToldTo F s k (at_spot b (to t))
  made_told s zero b t m x = subst (ToldLayer F s) (sym (out_image r same_sels t)) (made_layer_told s (out-Term t) m)
  made_told s (suc k) b t m x = (
    subst (ToldLayer F s) (sym (out_image r same_sels t)) (made_layer_told s (out-Term t) m),
    λ next j.
        let i = in_map (spot_to r) (steps E.table (at_spot b t)) next (subst (λ xs. HasItem xs next) (all_steps E.table F.table r (own_kept E F r pairs std is_open K) s b t (W.made_level E F r pairs std is_open K t m)) j) in
        subst (ToldTo F s k) i.2 (own_told s k (i.0).through (i.0).term (W.made_next E F r pairs std is_open K b t i.0 m i.1) (x.1 i.0 i.1)),
  )

  -- ---- what is found, with all that was searched

  abbrev KeepsTold : Sel → Bool → Term → Bool → Target → Type 0
  KeepsTold s b t q g = (c : ℕ) × (e : Ending) × IsOnly F.table s (at_spot b (to t)) c e × IsKeptEnding r (end_at q g) e × Reached g × ToldTo F s c (at_spot b (to t))

  told_at : (t : Term) (s : Sel) (b q : Bool) (d : ℕ) (g : Target) → R t → (Given t → W.KeepsEnding E F r pairs std is_open K s b t q g) → IsOnly E.table s (at_spot b t) d (end_at q g) → ToldTo E s d (at_spot b t) → KeepsTold s b t q g
  told_at t s b q d g (reach_given h) f o x = let y = f h in (y.0, y.1, y.2, y.3, y.4, given_told s y.0 b t h)
  told_at t s b q d g (reach_own e h) f o x =
      let l : IsOwnLayer (out-Term t) = subst IsOwnLayer (sym e) h in
      let y = W.image_only E F r pairs std is_open K s b q t d g (λ k. own_ends E.table F.table r (own_kept E F r pairs std is_open K) s k b t l) o in
      (d, ending_to r (end_at q g), y, W.same_ending E F r pairs std is_open K q g, W.own_end E F r pairs std is_open K s d b t (end_at q g) l (first_of (ends E.table s d (at_spot b t)) (end_at q g) o.only), own_told s d b t l x)
  told_at t s b q d g (reach_made m h) f o x =
      let y = W.image_only E F r pairs std is_open K s b q t d g (λ k. W.made_ends E F r pairs std is_open K s k b t m) o in
      (d, ending_to r (end_at q g), y, W.same_ending E F r pairs std is_open K q g, W.made_end E F r pairs std is_open K s d b t (end_at q g) m h (first_of (ends E.table s d (at_spot b t)) (end_at q g) o.only), made_told s d b t m x)

  abbrev pub KeepsFound : Sel → Term → Bool → Target → Type 0
  KeepsFound s t q g = (e : Ending) × Found F s (to t) e × IsKeptEnding r (end_at q g) e × Reached g

  found_by : (t : Term) (s : Sel) (q : Bool) (g : Target) → R t → (Given (start E.table t).term → W.KeepsEnding E F r pairs std is_open K s (start E.table t).through (start E.table t).term q g) → Found E s t (end_at q g) → KeepsFound s t q g
  found_by t s q g h w f =
      let y = told_at (start E.table t).term s (start E.table t).through q f.depth g (start_reached t h) w f.only f.told in
      (y.1, record { depth = y.0; only = subst (λ x. IsOnly F.table s x y.0 y.1) (sym (start_kept t h)) y.2; begins = begins_kept t h f.begins; told = subst (ToldTo F s y.0) (sym (start_kept t h)) y.5 }, y.3, y.4)

  -- what a client's selector finds
  pub found_kept : (t : Term) (s : Sel) (q : Bool) (g : Target) → R t → IsClientSel s → (IsBlank s → ⊥) → Found E s t (end_at q g) → KeepsFound s t q g
  found_kept t s q g h c n f = found_by t s q g h (λ i. W.given_end E F r pairs std is_open K (start E.table t).term s (start E.table t).through q f.depth g i c n f.only) f

  -- a selector under which a client may have a method
  abbrev pub IsCalled : Sel → Type 0
  IsCalled s = (is_open s ≡ true) ⊎ (s.«package» ≡ client_path)

  given_method : (t : Term) (s : Sel) (b q a : Bool) (d : ℕ) (o : Option TypeName) (g : Signature) → Given t → IsCalled s → IsOnly E.table s (at_spot b t) d (end_at q (method o a g)) → W.KeepsEnding E F r pairs std is_open K s b t q (method o a g)
  given_method t s b q a d o g h (inl x) y = let f = K.types.found_method t s b q a d o g h x y in (f.0, end_at f.1 (method f.3 f.2 (image_of_signature r same_sels g)), f.4, kept_method f.5, reach_given f.6)
  given_method t s b q a d o g h (inr x) y = absurd (W.no_item _ (end_at q (method o a g)) (K.types.strange t s d b h x) y.only)

  reaches_by : (x q k a c : Bool) → (Reaches a q → Reaches c k) → Reaches a (if q then true else x) → Reaches c (if k then true else x)
  reaches_by true q k a c h y = reaches_all c k
  reaches_by false q k a c h y = flag_through k (Reaches c) (h (through_flag q (Reaches a) y))

  -- a method that can be called can be called
  pub method_kept : (x : Bool) (t : Term) (s : Sel) (g : Signature) → R t → IsCalled s → HasMethod E x t s g → HasMethod F x (to t) s (image_of_signature r same_sels g) × R (function_type g)
  method_kept x t s g h c m =
      let f = found_by t s m.through (method m.owner m.pointer g) h (λ i. given_method (start E.table t).term s (start E.table t).through m.through m.pointer (m.found).depth m.owner g i c (m.found).only) m.found in
      let y = kept_call f.2 in
      (record { through = y.0; owner = y.1; pointer = y.2; found = subst (Found F s (to t)) (sym y.3) f.1; counts = defined_kept t h ∙ m.counts; reaches = reaches_by x m.through y.0 m.pointer y.2 y.4 m.reaches }, f.3)
