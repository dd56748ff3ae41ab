-- What is underneath a type that a client reaches, on both sides.
use Rattle.std.proofs.Common.{◌≡◌, Bool, true, false, ◌||◌, List, refl, sym, ap, ◌∙◌, subst, Option, Some, None}
use Rattle.go_base.specs.Lists.{Has as HasItem}
use Rattle.go_model.specs.declared.types.names.Sel.{Sel}
use Rattle.go_model.specs.declared.types.names.TypeName.{TypeName}
use Rattle.go_model.specs.declared.types.package.Defined.{Defined}
use Rattle.go_model.specs.declared.types.term.Term.{Term, Term-F, out-Term}
use Rattle.go_model.specs.types.Imports.{is_imported}
use Rattle.go_model.specs.types.Terms.{Layer}
use Rattle.go_model.specs.types.Underlying.{entry, under, under_entry, under_layer}
use Rattle.go_rules.specs.Environments.{Env}
use Rattle.go_type_images.specs.Images.{Naming, image, image_of_layer, same_sels}
use Rattle.go_type_images.specs.Parts.{parts}
use Rattle.go_type_images.specs.Levels.{interface_layer, is_structured, struct_layer}
use Rattle.go_type_images.specs.declared.pair.TypePair.{TypePair}
use Rattle.go_client_types.specs.Preserving.{IsKeptLayer}
use Rattle.go_client_types.specs.Keeping.{Keeps}
use Rattle.go_type_images.specs.EntryImages.{entry_to}
use Rattle.go_client_types.specs.Reached.{IsGiven, IsMade, IsReached, reach_given, reach_made, reach_own}
use Rattle.go_type_images.proofs.ImageLevels.{out_image}

-- a level that a client makes, or the name of a type of its own that isn't had
abbrev pub IsOwnLevel : Layer → Type 0
IsOwnLevel (Term-F.Named n) = Unit {0}
IsOwnLevel l = IsMade l

made_level : (l : Layer) → IsMade l → IsOwnLevel l
made_level (Term-F.Named n) h = tt
made_level (Term-F.Plain b) h = h
made_level (Term-F.Pointer e) h = h
made_level (Term-F.Slice e) h = h
made_level (Term-F.Array n e) h = h
made_level (Term-F.Map k e) h = h
made_level (Term-F.Chan d e) h = h
made_level (Term-F.Func g) h = h
made_level (Term-F.Struct fs) h = h
made_level (Term-F.Interface ms) h = h

-- a level that isn't a name's is underneath itself
pub made_under : (T : _) (l : Layer) → IsMade l → under_layer T l ≡ l
made_under T (Term-F.Named n) h = absurd h
made_under T (Term-F.Plain b) h = refl
made_under T (Term-F.Pointer e) h = refl
made_under T (Term-F.Slice e) h = refl
made_under T (Term-F.Array n e) h = refl
made_under T (Term-F.Map k e) h = refl
made_under T (Term-F.Chan d e) h = refl
made_under T (Term-F.Func g) h = refl
made_under T (Term-F.Struct fs) h = refl
made_under T (Term-F.Interface ms) h = refl

pub image_under : (T : _) (r : Naming) (l : Layer) → IsMade l → under_layer T (image_of_layer r same_sels l) ≡ image_of_layer r same_sels l
image_under T r (Term-F.Named n) h = absurd h
image_under T r (Term-F.Plain b) h = refl
image_under T r (Term-F.Pointer e) h = refl
image_under T r (Term-F.Slice e) h = refl
image_under T r (Term-F.Array n e) h = refl
image_under T r (Term-F.Map k e) h = refl
image_under T r (Term-F.Chan d e) h = refl
image_under T r (Term-F.Func g) h = refl
image_under T r (Term-F.Struct fs) h = refl
image_under T r (Term-F.Interface ms) h = refl

module _ (E F : Env) (r : Naming) (pairs : List TypePair) (std : TypeName → Bool) (is_open : Sel → Bool) (K : Keeps E F r pairs std is_open) where
  abbrev to : Term → Term
  to = image r same_sels

  abbrev layer : Layer → Layer
  layer = image_of_layer r same_sels

  abbrev R : Term → Type 0
  R = IsReached pairs std is_open

  -- underneath it is the image of what it was, of reached parts, made by the client or neither a struct nor an interface; or it is a given struct, or a given interface
  pub data View (t : Term) : Type 0 where
    view_own : under F.table (to t) ≡ layer (under E.table t) → IsOwnLevel (under E.table t) → ((u : Term) → HasItem (parts (under E.table t)) u → R u) → View t
    view_given : IsGiven pairs std is_open t → is_structured (under E.table t) ≡ false → under F.table (to t) ≡ layer (under E.table t) → ((u : Term) → HasItem (parts (under E.table t)) u → R u) → View t
    view_struct : IsGiven pairs std is_open t → struct_layer (under E.table t) ≡ true → struct_layer (under F.table (to t)) ≡ true → View t
    view_interface : IsGiven pairs std is_open t → interface_layer (under E.table t) ≡ true → interface_layer (under F.table (to t)) ≡ true → View t

  given_view : (t : Term) → IsGiven pairs std is_open t → (l : Layer) → under E.table t ≡ l → IsKeptLayer r (IsGiven pairs std is_open) l (under F.table (to t)) → View t
  given_view t g (Term-F.Struct fs) e h = view_struct g (ap struct_layer e) h
  given_view t g (Term-F.Interface ms) e h = view_interface g (ap interface_layer e) h
  given_view t g (Term-F.Plain b) e h = view_given g (ap is_structured e) (h.0 ∙ ap layer (sym e)) (λ u k. reach_given (h.1 u (subst (λ l. HasItem (parts l) u) e k)))
  given_view t g (Term-F.Named n) e h = view_given g (ap is_structured e) (h.0 ∙ ap layer (sym e)) (λ u k. reach_given (h.1 u (subst (λ l. HasItem (parts l) u) e k)))
  given_view t g (Term-F.Pointer b) e h = view_given g (ap is_structured e) (h.0 ∙ ap layer (sym e)) (λ u k. reach_given (h.1 u (subst (λ l. HasItem (parts l) u) e k)))
  given_view t g (Term-F.Slice b) e h = view_given g (ap is_structured e) (h.0 ∙ ap layer (sym e)) (λ u k. reach_given (h.1 u (subst (λ l. HasItem (parts l) u) e k)))
  given_view t g (Term-F.Array n b) e h = view_given g (ap is_structured e) (h.0 ∙ ap layer (sym e)) (λ u k. reach_given (h.1 u (subst (λ l. HasItem (parts l) u) e k)))
  given_view t g (Term-F.Map m b) e h = view_given g (ap is_structured e) (h.0 ∙ ap layer (sym e)) (λ u k. reach_given (h.1 u (subst (λ l. HasItem (parts l) u) e k)))
  given_view t g (Term-F.Chan d b) e h = view_given g (ap is_structured e) (h.0 ∙ ap layer (sym e)) (λ u k. reach_given (h.1 u (subst (λ l. HasItem (parts l) u) e k)))
  given_view t g (Term-F.Func s) e h = view_given g (ap is_structured e) (h.0 ∙ ap layer (sym e)) (λ u k. reach_given (h.1 u (subst (λ l. HasItem (parts l) u) e k)))

  abbrev OwnView : Layer → Layer → Type 0
  OwnView l k = (k ≡ layer l) × IsOwnLevel l × ((u : Term) → HasItem (parts l) u → R u)

  entry_view : (n : TypeName) (o : Option Defined) → is_imported n ≡ false → entry E.table n ≡ o → OwnView (under_entry n o) (under_entry n (entry_to r o))
  entry_view n None h e = (ap Term-F.Named (sym (K.types.own n h)), tt, λ u k. absurd k)
  entry_view n (Some d) h e = let o = K.own_entries n d h e in (out_image r same_sels d.underlying, made_level (out-Term d.underlying) o.made, o.reached)

  as_view : (t : Term) (l k : Layer) → under E.table t ≡ l → under F.table (to t) ≡ k → OwnView l k → View t
  as_view t l k e f h = view_own (f ∙ h.0 ∙ ap layer (sym e)) (subst IsOwnLevel (sym e) h.1) (λ u j. h.2 u (subst (λ x. HasItem (parts x) u) e j))

  own_view : (t : Term) (n : TypeName) → out-Term t ≡ Term-F.Named n → is_imported n ≡ false → View t
  own_view t n e h =
      as_view t (under_entry n (entry E.table n)) (under_entry n (entry_to r (entry E.table n))) (ap (under_layer E.table) e)
      (ap (under_layer F.table) (out_image r same_sels t ∙ ap layer e ∙ ap Term-F.Named (K.types.own n h)) ∙ ap (under_entry n) (K.entries n h))
      (entry_view n (entry E.table n) h refl)

  pub view : (t : Term) → R t → View t
  view t (reach_given g) = given_view t g (under E.table t) refl (K.types.beneath t g)
  view t (reach_own {n = n} e h) = own_view t n e h
  view t (reach_made m h) =
      as_view t (out-Term t) (layer (out-Term t)) (made_under E.table (out-Term t) m) (ap (under_layer F.table) (out_image r same_sels t) ∙ image_under F.table r (out-Term t) m) (refl, made_level (out-Term t) m, h)

  no_struct : (l : Layer) → is_structured l ≡ false → struct_layer l ≡ true → ⊥
  no_struct l n s = let e : is_structured l ≡ true = ap (λ b. b || interface_layer l) s in absurd (both e n)
    where
      both : is_structured l ≡ true → is_structured l ≡ false → ⊥
      both a b = let c : true ≡ false = sym a ∙ b in absurd (cc)

  no_interface : (l : Layer) → is_structured l ≡ false → interface_layer l ≡ true → ⊥
  no_interface l n s = by (struct_layer l) refl
    where
      by : (b : Bool) → struct_layer l ≡ b → ⊥
      by true e = no_struct l n e
      by false e = let c : true ≡ false = sym s ∙ sym (ap (λ b. b || interface_layer l) e) ∙ n in absurd (cc)

  as_asked : (t : Term) (l : Layer) → under E.table t ≡ l → under F.table (to t) ≡ layer (under E.table t) → ((u : Term) → HasItem (parts (under E.table t)) u → R u) → (under F.table (to t) ≡ layer l) × ((u : Term) → HasItem (parts l) u → R u)
  as_asked t l e f h = (f ∙ ap layer e, λ u k. h u (subst (λ x. HasItem (parts x) u) (sym e) k))

  by_view : (t : Term) (l : Layer) → is_structured l ≡ false → under E.table t ≡ l → View t → (under F.table (to t) ≡ layer l) × ((u : Term) → HasItem (parts l) u → R u)
  by_view t l n e (view_own f o h) = as_asked t l e f h
  by_view t l n e (view_given g s f h) = as_asked t l e f h
  by_view t l n e (view_struct g s f) = absurd (no_struct l n (ap struct_layer (sym e) ∙ s))
  by_view t l n e (view_interface g s f) = absurd (no_interface l n (ap interface_layer (sym e) ∙ s))

  -- what a rule asks for underneath a reached type, but for structs and interfaces, is there on the new side too
  pub form_kept : (t : Term) (l : Layer) → R t → is_structured l ≡ false → under E.table t ≡ l → (under F.table (to t) ≡ layer l) × ((u : Term) → HasItem (parts l) u → R u)
  form_kept t l h n e = by_view t l n e (view t h)
