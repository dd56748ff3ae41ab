-- What a client's selectors find in the types that it reaches, on both sides.
use Rattle.std.proofs.Common.{◌≡◌, ◌⊎◌, inl, inr, ℕ, zero, suc, Bool, true, false, List, [], ◌∷◌, ◌++◌, map, refl, sym, ap, ◌∙◌, subst, Option, Some, None}
use Rattle.go_base.specs.Gathered.{gather}
use Rattle.go_base.specs.Lists.{Has as HasItem}
use Rattle.go_base.proofs.Members.{each_has, gather_of, has_split}
use Rattle.go_model.specs.declared.types.names.Sel.{Sel}
use Rattle.go_model.specs.declared.types.names.TypeName.{TypeName}
use Rattle.go_model.specs.declared.types.package.Defined.{Defined}
use Rattle.go_model.specs.declared.types.package.MethodOf.{MethodOf}
use Rattle.go_model.specs.declared.types.term.Field.{Field, out-Field}
use Rattle.go_model.specs.declared.types.term.Method.{Method, out-Method}
use Rattle.go_model.specs.declared.types.term.Term.{Term, Term-F, out-Term}
use Rattle.go_model.specs.types.Imports.{is_imported}
use Rattle.go_model.specs.types.Selectors.{Ending, IsOnly, Spot, Target, base_of, declared_ending, ends, field, field_ending, method, method_ending, name_of, step, steps}
use Rattle.go_model.specs.types.Terms.{IsBlank, Layer, same_sel}
use Rattle.go_model.specs.types.Underlying.{declared_methods, entry, fields_of, methods_of, methods_of_entry, under, under_entry, under_layer}
use Rattle.go_rules.specs.Asks.{IsOwnLayer}
use Rattle.go_rules.specs.Environments.{Env}
use Rattle.go_type_images.specs.EntryImages.{method_to}
use Rattle.go_type_images.specs.Images.{Naming, image, image_of_layer, image_of_signature, same_sels}
use Rattle.go_type_images.specs.Parts.{field_type, function_type, method_type, parts}
use Rattle.go_type_images.specs.SpotImages.{at_spot, ending_to}
use Rattle.go_type_images.specs.declared.pair.TypePair.{TypePair}
use Rattle.go_type_images.proofs.ImageLevels.{out_image}
use Rattle.go_type_images.proofs.LevelEnds.{here}
use Rattle.go_client_types.specs.Endings.{IsKeptEnding, TargetReached, end_at, kept_field, kept_method}
use Rattle.go_client_types.specs.Keeping.{Keeps}
use Rattle.go_client_types.specs.OwnTypes.{OwnTypes}
use Rattle.go_client_types.specs.Reached.{IsClientSel, IsGiven, IsMade, IsMadeField, IsReached, reach_given, reach_made, reach_own}
use Rattle.go_client_types.proofs.Own.{all_steps, next_own, only_if, over, own_ends}
use Rattle.go_client_types.proofs.Views.{image_under, made_under}

made_embeds : (l : Layer) (f : Field) → IsMade l → HasItem (fields_of l) f → (out-Field f).embedded ≡ true → IsOwnLayer (out-Term (base_of (out-Field f).term))
made_embeds (Term-F.Struct fs) f m k e = (each_has IsMadeField fs f m k).embeds e
made_embeds l f m k e = absurd k

made_name : (r : Naming) (l : Layer) → IsMade l → name_of (image_of_layer r same_sels l) ≡ name_of l
made_name r (Term-F.Named n) h = absurd h
made_name r (Term-F.Plain b) h = refl
made_name r (Term-F.Pointer e) h = refl
made_name r (Term-F.Slice e) h = refl
made_name r (Term-F.Array n e) h = refl
made_name r (Term-F.Map k e) h = refl
made_name r (Term-F.Chan d e) h = refl
made_name r (Term-F.Func g) h = refl
made_name r (Term-F.Struct fs) h = refl
made_name r (Term-F.Interface ms) h = refl

made_declared : (T : _) (l : Layer) → IsMade l → declared_methods T l ≡ []
made_declared T (Term-F.Named n) h = absurd h
made_declared T (Term-F.Plain b) h = refl
made_declared T (Term-F.Pointer e) h = refl
made_declared T (Term-F.Slice e) h = refl
made_declared T (Term-F.Array n e) h = refl
made_declared T (Term-F.Map k e) h = refl
made_declared T (Term-F.Chan d e) h = refl
made_declared T (Term-F.Func g) h = refl
made_declared T (Term-F.Struct fs) h = refl
made_declared T (Term-F.Interface ms) h = refl

image_declared : (T : _) (r : Naming) (l : Layer) → IsMade l → declared_methods T (image_of_layer r same_sels l) ≡ []
image_declared T r (Term-F.Named n) h = absurd h
image_declared T r (Term-F.Plain b) h = refl
image_declared T r (Term-F.Pointer e) h = refl
image_declared T r (Term-F.Slice e) h = refl
image_declared T r (Term-F.Array n e) h = refl
image_declared T r (Term-F.Map k e) h = refl
image_declared T r (Term-F.Chan d e) h = refl
image_declared T r (Term-F.Func g) h = refl
image_declared T r (Term-F.Struct fs) h = refl
image_declared T r (Term-F.Interface ms) h = refl

field_in : (l : Layer) (f : Field) → HasItem (fields_of l) f → HasItem (parts l) (field_type f)
field_in (Term-F.Struct fs) f k = mapped fs k
  where
    mapped : (gs : List Field) → HasItem gs f → HasItem (map field_type gs) (field_type f)
    mapped [] i = absurd i
    mapped (g ∷ gs) (inl e) = inl (ap field_type e)
    mapped (g ∷ gs) (inr i) = inr (mapped gs i)
field_in l f k = absurd k

method_in : (l : Layer) (m : Method) → HasItem (methods_of l) m → HasItem (parts l) (method_type m)
method_in (Term-F.Interface ms) m k = mapped ms k
  where
    mapped : (ns : List Method) → HasItem ns m → HasItem (map method_type ns) (method_type m)
    mapped [] i = absurd i
    mapped (n ∷ ns) (inl e) = inl (ap method_type e)
    mapped (n ∷ ns) (inr i) = inr (mapped ns i)
method_in l m k = absurd k

pub either : {A B C : Type 0} → A ⊎ B → (A → C) → (B → C) → C
either (inl a) f g = f a
either (inr b) f g = g b

pub no_item : {A : Type 0} (xs : List A) (x : A) → xs ≡ [] → xs ≡ x ∷ [] → ⊥
no_item xs x e f = let g : [] ≡ x ∷ [] = sym e ∙ f in absurd (cc)

pub first_of : {A : Type 0} (xs : List A) (x : A) → xs ≡ x ∷ [] → HasItem xs x
first_of xs x e = subst (λ ys. HasItem ys x) (sym e) (inl refl)

module _ (E F : Env) (r : Naming) (pairs : List TypePair) (std : TypeName → Bool) (is_open : Sel → Bool) (K : Keeps E F r pairs std is_open) where
  abbrev to : Term → Term
  to = image r same_sels

  abbrev layer : Layer → Layer
  layer = image_of_layer r same_sels

  abbrev R : Term → Type 0
  R = IsReached pairs std is_open

  abbrev Reached : Target → Type 0
  Reached = TargetReached pairs std is_open

  pub own_kept : OwnTypes E.table F.table r
  own_kept = record {
    named = K.types.own;
    entries = K.entries;
    embeds = λ n d f h e k x. made_embeds (out-Term d.underlying) f (K.own_entries n d h e).made k x;
  }

  -- ---- from types that a client writes

  pub made_level : (t : Term) → IsMade (out-Term t) → under F.table (to t) ≡ layer (under E.table t)
  made_level t m = ap (under_layer F.table) (out_image r same_sels t) ∙ image_under F.table r (out-Term t) m ∙ sym (ap layer (made_under E.table (out-Term t) m))

  pub made_next : (b : Bool) (t : Term) (x : Spot) → IsMade (out-Term t) → HasItem (steps E.table (at_spot b t)) x → IsOwnLayer (out-Term x.term)
  made_next b t x m k =
      let g = gather_of (step b) (fields_of (under E.table t)) x k in
      let e = only_if E.table F.table r own_kept (record { name = []; «package» = [] }) (out-Field g.0).embedded _ x g.2 in
      subst (λ (y : Spot). IsOwnLayer (out-Term y.term)) e.1 (made_embeds (out-Term t) g.0 m (subst (λ l. HasItem (fields_of l) g.0) (made_under E.table (out-Term t) m) g.1) e.0)

  pub made_ends : (s : Sel) (k : ℕ) (b : Bool) (t : Term) → IsMade (out-Term t) → ends F.table s k (at_spot b (to t)) ≡ map (ending_to r) (ends E.table s k (at_spot b t))
  unfolding ends
  made_ends s zero b t m = here r s E.table F.table b t (made_level t m)
      (ap (declared_methods F.table) (out_image r same_sels t) ∙ image_declared F.table r (out-Term t) m ∙ sym (ap (map (method_to r)) (made_declared E.table (out-Term t) m)))
      (ap name_of (out_image r same_sels t) ∙ made_name r (out-Term t) m)
  made_ends s (suc k) b t m = ap (gather (ends F.table s k)) (all_steps E.table F.table r own_kept s b t (made_level t m)) ∙ over E.table F.table r own_kept s k (λ c u i. own_ends E.table F.table r own_kept s k c u i) (steps E.table (at_spot b t)) (λ x i. made_next b t x m i)

  -- ---- what they find is of types that the client reaches

  -- what is underneath a type, and its methods, are of such types
  record IsOfReached (t : Term) : Type 0 where
    pub level : (u : Term) → HasItem (parts (under E.table t)) u → R u
    pub declared : (m : MethodOf) → HasItem (declared_methods E.table (out-Term t)) m → R (function_type m.signature)

  entry_reached : (n : TypeName) (o : Option Defined) → is_imported n ≡ false → entry E.table n ≡ o → ((u : Term) → HasItem (parts (under_entry n o)) u → R u) × ((m : MethodOf) → HasItem (methods_of_entry o) m → R (function_type m.signature))
  entry_reached n None h e = (λ u k. absurd k, λ m k. absurd k)
  entry_reached n (Some d) h e = let o = K.own_entries n d h e in (o.reached, o.signatures)

  abbrev LayerReached : Layer → Type 0
  LayerReached l = ((u : Term) → HasItem (parts (under_layer E.table l)) u → R u) × ((m : MethodOf) → HasItem (declared_methods E.table l) m → R (function_type m.signature))

  own_layer : (l : Layer) → IsOwnLayer l → LayerReached l
  own_layer (Term-F.Named n) h = entry_reached n (entry E.table n) h refl
  own_layer (Term-F.Plain b) h = (λ u k. absurd k, λ m k. absurd k)
  own_layer (Term-F.Interface ms) h = (λ u k. absurd (subst (λ ns. HasItem (map method_type ns) u) h k), λ m k. absurd k)
  own_layer (Term-F.Pointer t) h = absurd h
  own_layer (Term-F.Slice t) h = absurd h
  own_layer (Term-F.Array n t) h = absurd h
  own_layer (Term-F.Map k t) h = absurd h
  own_layer (Term-F.Chan d t) h = absurd h
  own_layer (Term-F.Func g) h = absurd h
  own_layer (Term-F.Struct fs) h = absurd h

  own_reached : (t : Term) → IsOwnLayer (out-Term t) → IsOfReached t
  own_reached t h = let f = own_layer (out-Term t) h in record { level = f.0; declared = f.1 }

  made_reached : (t : Term) → IsMade (out-Term t) → ((u : Term) → HasItem (parts (out-Term t)) u → R u) → IsOfReached t
  made_reached t m h = record {
    level = λ u k. h u (subst (λ l. HasItem (parts l) u) (made_under E.table (out-Term t) m) k);
    declared = λ x k. absurd (subst (λ xs. HasItem xs x) (made_declared E.table (out-Term t) m) k);
  }

  level_end : (s : Sel) (b : Bool) (t : Term) (e : Ending) → IsOfReached t → HasItem (ends E.table s 0 (at_spot b t)) e → Reached e.target
  unfolding ends
  level_end s b t e h k =
      let fs = gather (field_ending s b) (fields_of (under E.table t)) in
      let ds = gather (declared_ending (name_of (out-Term t)) s b) (declared_methods E.table (out-Term t)) in
      let ms = gather (method_ending s b) (methods_of (under E.table t)) in
      either (has_split (fs ++ ds) ms e k)
      (λ j. either (has_split fs ds e j)
      (λ i. let g = gather_of (field_ending s b) (fields_of (under E.table t)) e i in subst (λ (x : Ending). Reached x.target) (only_if E.table F.table r own_kept s (same_sel (out-Field g.0).sel s) _ e g.2).1 (h.level (field_type g.0) (field_in (under E.table t) g.0 g.1)))
      (λ i. let g = gather_of (declared_ending (name_of (out-Term t)) s b) (declared_methods E.table (out-Term t)) e i in subst (λ (x : Ending). Reached x.target) (only_if E.table F.table r own_kept s (same_sel (g.0).sel s) _ e g.2).1 (h.declared g.0 g.1)))
      (λ i. let g = gather_of (method_ending s b) (methods_of (under E.table t)) e i in subst (λ (x : Ending). Reached x.target) (only_if E.table F.table r own_kept s (same_sel (out-Method g.0).sel s) _ e g.2).1 (h.level (method_type g.0) (method_in (under E.table t) g.0 g.1)))

  pub own_end : (s : Sel) (k : ℕ) (b : Bool) (t : Term) (e : Ending) → IsOwnLayer (out-Term t) → HasItem (ends E.table s k (at_spot b t)) e → Reached e.target
  unfolding ends
  own_end s zero b t e h i = level_end s b t e (own_reached t h) i
  own_end s (suc k) b t e h i = let g = gather_of (ends E.table s k) (steps E.table (at_spot b t)) e i in own_end s k (g.0).through (g.0).term e (next_own E.table F.table r own_kept s b t g.0 h g.1) g.2

  pub made_end : (s : Sel) (k : ℕ) (b : Bool) (t : Term) (e : Ending) → IsMade (out-Term t) → ((u : Term) → HasItem (parts (out-Term t)) u → R u) → HasItem (ends E.table s k (at_spot b t)) e → Reached e.target
  unfolding ends
  made_end s zero b t e m h i = level_end s b t e (made_reached t m h) i
  made_end s (suc k) b t e m h i = let g = gather_of (ends E.table s k) (steps E.table (at_spot b t)) e i in own_end s k (g.0).through (g.0).term e (made_next b t g.0 m g.1) g.2

  -- ---- from all types that it reaches

  abbrev pub KeepsEnding : Sel → Bool → Term → Bool → Target → Type 0
  KeepsEnding s b t q g = (c : ℕ) × (e : Ending) × IsOnly F.table s (at_spot b (to t)) c e × IsKeptEnding r (end_at q g) e × Reached g

  pub same_ending : (q : Bool) (g : Target) → IsKeptEnding r (end_at q g) (ending_to r (end_at q g))
  same_ending q (field t) = kept_field (λ e. e)
  same_ending q (method o a g) = kept_method (λ h. h)

  pub image_only : (s : Sel) (b q : Bool) (t : Term) (d : ℕ) (g : Target) → ((k : ℕ) → ends F.table s k (at_spot b (to t)) ≡ map (ending_to r) (ends E.table s k (at_spot b t))) → IsOnly E.table s (at_spot b t) d (end_at q g) → IsOnly F.table s (at_spot b (to t)) d (ending_to r (end_at q g))
  image_only s b q t d g h o = record { none = λ k l. h k ∙ ap (map (ending_to r)) (o.none k l); only = h d ∙ ap (map (ending_to r)) o.only }

  by_ends : (s : Sel) (b q : Bool) (t : Term) (d : ℕ) (g : Target) → ((k : ℕ) → ends F.table s k (at_spot b (to t)) ≡ map (ending_to r) (ends E.table s k (at_spot b t))) → Reached g → IsOnly E.table s (at_spot b t) d (end_at q g) → KeepsEnding s b t q g
  by_ends s b q t d g h w o = (d, ending_to r (end_at q g), image_only s b q t d g h o, same_ending q g, w)

  pub exported_end : (t : Term) (s : Sel) (b q : Bool) (d : ℕ) (g : Target) → IsGiven pairs std is_open t → s.«package» ≡ [] → (IsBlank s → ⊥) → IsOnly E.table s (at_spot b t) d (end_at q g) → KeepsEnding s b t q g
  exported_end t s b q d (field v) h x n o = let f = K.types.found_field t s b q d v h x n o in (f.0, end_at f.1 (field (to v)), f.2, kept_field f.3, reach_given f.4)
  exported_end t s b q d (method w a g) h x n o =
      let f = K.types.found_method t s b q a d w g h (K.types.exported_open s x) o in
      (f.0, end_at f.1 (method f.3 f.2 (image_of_signature r same_sels g)), f.4, kept_method f.5, reach_given f.6)

  pub given_end : (t : Term) (s : Sel) (b q : Bool) (d : ℕ) (g : Target) → IsGiven pairs std is_open t → IsClientSel s → (IsBlank s → ⊥) → IsOnly E.table s (at_spot b t) d (end_at q g) → KeepsEnding s b t q g
  given_end t s b q d g h (inl x) n o = exported_end t s b q d g h x n o
  given_end t s b q d g h (inr x) n o = absurd (no_item (ends E.table s d (at_spot b t)) (end_at q g) (K.types.strange t s d b h x) o.only)

  -- what a client's selector finds from a type that it reaches, it finds from the image
  pub found : (t : Term) (s : Sel) (b q : Bool) (d : ℕ) (g : Target) → R t → IsClientSel s → (IsBlank s → ⊥) → IsOnly E.table s (at_spot b t) d (end_at q g) → KeepsEnding s b t q g
  found t s b q d g (reach_given h) c n o = given_end t s b q d g h c n o
  found t s b q d g (reach_own e h) c n o =
      let l : IsOwnLayer (out-Term t) = subst IsOwnLayer (sym e) h in
      by_ends s b q t d g (λ k. own_ends E.table F.table r own_kept s k b t l) (own_end s d b t (end_at q g) l (first_of (ends E.table s d (at_spot b t)) (end_at q g) o.only)) o
  found t s b q d g (reach_made m h) c n o = by_ends s b q t d g (λ k. made_ends s k b t m) (made_end s d b t (end_at q g) m h (first_of (ends E.table s d (at_spot b t)) (end_at q g) o.only)) o
