-- Which types that a client reaches implement which interfaces, on both sides.
use Rattle.std.proofs.Common.{◌≡◌, ◌⊎◌, inl, inr, ℕ, zero, suc, Bool, true, false, List, [], ◌∷◌, ◌++◌, map, refl, sym, ap, ◌∙◌, subst, Option, Some, None}
use Rattle.std.specs.Prelude.{if◌then◌else◌}
use Rattle.go_base.specs.Gathered.{gather}
use Rattle.go_base.specs.Lists.{Each, Has as HasItem}
use Rattle.go_base.proofs.Members.{each_has, gather_of, has_split}
use Rattle.go_model.specs.declared.types.names.Sel.{Sel}
use Rattle.go_model.specs.declared.types.names.TypeName.{TypeName}
use Rattle.go_model.specs.declared.types.package.Defined.{Defined}
use Rattle.go_model.specs.declared.types.package.MethodOf.{MethodOf}
use Rattle.go_model.specs.declared.types.term.Field.{Field, out-Field}
use Rattle.go_model.specs.declared.types.term.Method.{Method, Method-F, out-Method}
use Rattle.go_model.specs.declared.types.term.Signature.{Signature}
use Rattle.go_model.specs.declared.types.term.Term.{Term, Term-F, out-Term, roll-Term, roll-out-Term}
use Rattle.go_model.specs.types.Imports.{is_imported}
use Rattle.go_model.specs.types.MethodSets.{Reaches, method_sel}
use Rattle.go_model.specs.types.MethodSets as sets
use Rattle.go_model.specs.types.Selectors.{Ending, declared_ending, ends, field_ending, is_defined_layer, is_pointer_layer, method, method_ending, name_of, start, start_layer, start_named, step, steps}
use Rattle.go_model.specs.types.Terms.{Layer, pointer_to, same_sel}
use Rattle.go_model.specs.types.Underlying.{declared_methods, entry, fields_of, methods_of, methods_of_entry, under, under_entry, under_layer}
use Rattle.go_rules.specs.Asks.{IsOwnLayer}
use Rattle.go_rules.specs.Environments.{Begins, Env, HasMethod, ToldLayer, ToldTo}
use Rattle.go_rules.specs.Usability.{Implements}
use Rattle.go_selectors.proofs.Noting.{sel_is, sel_self}
use Rattle.go_type_images.specs.Images.{Naming, image, image_of_layer, image_of_method, same_sels}
use Rattle.go_type_images.specs.Levels.{interface_layer, is_structured, struct_layer}
use Rattle.go_type_images.specs.Parts.{parts}
use Rattle.go_type_images.specs.SpotImages.{at_spot}
use Rattle.go_type_images.specs.declared.pair.TypePair.{TypePair}
use Rattle.go_type_images.proofs.ImageLevels.{image_of, out_image, out_image_method}
use Rattle.go_client_types.specs.Keeping.{Keeps}
use Rattle.go_client_types.specs.Preserving.{IsKeptLayer}
use Rattle.go_client_types.specs.Reached.{IsClientSel, IsGiven, IsMade, IsMadeField, IsReached, reach_given, reach_made, reach_own}
use Rattle.go_client_types.proofs.Conversions.{true_false}
use Rattle.go_client_types.proofs.FoundEnds as W
use Rattle.go_client_types.proofs.FoundEnds.{either, first_of, no_item, own_kept}
use Rattle.go_client_types.proofs.FoundTypes as S
use Rattle.go_client_types.proofs.FoundTypes.{flag_through, in_map, start_term, through_flag}
use Rattle.go_client_types.proofs.Own.{next_own, only_if}
use Rattle.go_client_types.proofs.Views as V
use Rattle.go_client_types.proofs.Views.{made_under, view_given, view_interface, view_own, view_struct}

-- ---- lists and levels

abbrev OpenMethod : Type 0
OpenMethod = Method-F Term Field Method Signature

has_right : {A : Type 0} (xs ys : List A) (y : A) → HasItem ys y → HasItem (xs ++ ys) y
has_right [] ys y h = h
has_right (x ∷ xs) ys y h = inr (has_right xs ys y h)

has_left : {A : Type 0} (xs ys : List A) (y : A) → HasItem xs y → HasItem (xs ++ ys) y
has_left [] ys y h = absurd h
has_left (x ∷ xs) ys y (inl e) = inl e
has_left (x ∷ xs) ys y (inr h) = inr (has_left xs ys y h)

in_gather : {A B : Type 0} (f : A → List B) (xs : List A) (x : A) (y : B) → HasItem xs x → HasItem (f x) y → HasItem (gather f xs) y
in_gather f [] x y h k = absurd h
in_gather f (z ∷ xs) x y (inl e) k = has_left (f z) (gather f xs) y (subst (λ u. HasItem (f u) y) (sym e) k)
in_gather f (z ∷ xs) x y (inr h) k = has_right (f z) (gather f xs) y (in_gather f xs x y h k)

nothing_in : {A : Type 0} (xs : List A) (x : A) → xs ≡ [] → HasItem xs x → ⊥
nothing_in xs x e h = subst (λ ys. HasItem ys x) e h

-- each method passes the test, or one fails
each_or_one : (test : Method → Bool) (ms : List Method) → Each (λ m. test m ≡ true) ms ⊎ ((m : Method) × HasItem ms m × (test m ≡ false))
each_or_one test [] = inl tt
each_or_one test (m ∷ ms) = by (test m) refl (each_or_one test ms)
  where
    by : (b : Bool) → test m ≡ b → Each (λ n. test n ≡ true) ms ⊎ ((n : Method) × HasItem ms n × (test n ≡ false)) → Each (λ n. test n ≡ true) (m ∷ ms) ⊎ ((n : Method) × HasItem (m ∷ ms) n × (test n ≡ false))
    by true e (inl h) = inl (e, h)
    by true e (inr h) = inr (h.0, inr h.1, h.2)
    by false e h = inr (m, inl refl, e)

made_field_label : (l : Layer) (f : Field) → IsMade l → HasItem (fields_of l) f → IsClientSel (out-Field f).sel
made_field_label (Term-F.Struct fs) f m k = (each_has IsMadeField fs f m k).label
made_field_label l f m k = absurd k

made_method_label : (l : Layer) (n : Method) → IsMade l → HasItem (methods_of l) n → IsClientSel (method_sel n)
made_method_label (Term-F.Interface ms) n m k = each_has (λ x. IsClientSel (method_sel x)) ms n m k
made_method_label l n m k = absurd k

pointer_form : (l : Layer) → is_pointer_layer l ≡ true → (t : Term) × (l ≡ Term-F.Pointer t)
pointer_form (Term-F.Plain b) e = absurd (cc)
pointer_form (Term-F.Named n) e = absurd (cc)
pointer_form (Term-F.Pointer v) e = (v, refl)
pointer_form (Term-F.Slice v) e = absurd (cc)
pointer_form (Term-F.Array n v) e = absurd (cc)
pointer_form (Term-F.Map j v) e = absurd (cc)
pointer_form (Term-F.Chan d v) e = absurd (cc)
pointer_form (Term-F.Func g) e = absurd (cc)
pointer_form (Term-F.Struct fs) e = absurd (cc)
pointer_form (Term-F.Interface ms) e = absurd (cc)

named_start : (n : TypeName) (t : Term) (u : Layer) → is_defined_layer (Term-F.Named n) u ≡ false → start_named t u ≡ at_spot false t
named_start n t (Term-F.Plain b) e = refl
named_start n t (Term-F.Named m) e = refl
named_start n t (Term-F.Pointer v) e = absurd (cc)
named_start n t (Term-F.Slice v) e = refl
named_start n t (Term-F.Array m v) e = refl
named_start n t (Term-F.Map j v) e = refl
named_start n t (Term-F.Chan d v) e = refl
named_start n t (Term-F.Func g) e = refl
named_start n t (Term-F.Struct fs) e = refl
named_start n t (Term-F.Interface ms) e = refl

interface_form : (l : Layer) → interface_layer l ≡ true → (ms : List Method) × (l ≡ Term-F.Interface ms)
interface_form (Term-F.Plain b) e = absurd (cc)
interface_form (Term-F.Named n) e = absurd (cc)
interface_form (Term-F.Pointer v) e = absurd (cc)
interface_form (Term-F.Slice v) e = absurd (cc)
interface_form (Term-F.Array n v) e = absurd (cc)
interface_form (Term-F.Map j v) e = absurd (cc)
interface_form (Term-F.Chan d v) e = absurd (cc)
interface_form (Term-F.Func g) e = absurd (cc)
interface_form (Term-F.Struct fs) e = absurd (cc)
interface_form (Term-F.Interface ms) e = (ms, refl)

same_methods : (l : Layer) (ms ns : List Method) (m : Method) → l ≡ Term-F.Interface ms → l ≡ Term-F.Interface ns → HasItem ms m → HasItem ns m
same_methods l ms ns m e f k = subst (λ x. HasItem (methods_of x) m) (sym e ∙ f) k

no_pointer : (l : Layer) (u : Term) → is_pointer_layer l ≡ false → l ≡ Term-F.Pointer u → ⊥
no_pointer l u e f = true_false (ap is_pointer_layer f) e

one_base : (l : Layer) (t u : Term) → l ≡ Term-F.Pointer t → l ≡ Term-F.Pointer u → t ≡ u
one_base l t u e f = by (sym e ∙ f)
  where
    by : ◌≡◌ {A = Layer} (Term-F.Pointer t) (Term-F.Pointer u) → t ≡ u
    by g = cc

module _ (E F : Env) (r : Naming) (pairs : List TypePair) (std : TypeName → Bool) (is_open : Sel → Bool) (K : Keeps E F r pairs std is_open) where
  abbrev to : Term → Term
  to = image r same_sels

  abbrev layer : Layer → Layer
  layer = image_of_layer r same_sels

  abbrev R : Term → Type 0
  R = IsReached pairs std is_open

  abbrev Given : Term → Type 0
  Given = IsGiven pairs std is_open

  abbrev View : Term → Type 0
  View = V.View E F r pairs std is_open K

  -- ---- the labels of a client's own types

  abbrev HasLabels : Layer → List MethodOf → Type 0
  HasLabels l ds = ((f : Field) → HasItem (fields_of l) f → IsClientSel (out-Field f).sel) × ((m : MethodOf) → HasItem ds m → IsClientSel m.sel) × ((m : Method) → HasItem (methods_of l) m → IsClientSel (method_sel m))

  entry_labels : (n : TypeName) (o : Option Defined) → is_imported n ≡ false → entry E.table n ≡ o → HasLabels (under_entry n o) (methods_of_entry o)
  entry_labels n None h e = (λ f k. absurd k, λ m k. absurd k, λ m k. absurd k)
  entry_labels n (Some d) h e = let o = K.own_entries n d h e in (λ f k. made_field_label (out-Term d.underlying) f o.made k, o.labels, λ m k. made_method_label (out-Term d.underlying) m o.made k)

  own_layer_labels : (l : Layer) → IsOwnLayer l → HasLabels (under_layer E.table l) (declared_methods E.table l)
  own_layer_labels (Term-F.Plain b) h = (λ f k. absurd k, λ m k. absurd k, λ m k. absurd k)
  own_layer_labels (Term-F.Named n) h = entry_labels n (entry E.table n) h refl
  own_layer_labels (Term-F.Pointer v) h = absurd h
  own_layer_labels (Term-F.Slice v) h = absurd h
  own_layer_labels (Term-F.Array n v) h = absurd h
  own_layer_labels (Term-F.Map j v) h = absurd h
  own_layer_labels (Term-F.Chan d v) h = absurd h
  own_layer_labels (Term-F.Func g) h = absurd h
  own_layer_labels (Term-F.Struct fs) h = absurd h
  own_layer_labels (Term-F.Interface ms) h = (λ f k. absurd k, λ m k. absurd k, λ m k. absurd (subst (λ ns. HasItem ns m) h k))

  made_layer_labels : (l : Layer) → IsMade l → HasLabels (under_layer E.table l) (declared_methods E.table l)
  made_layer_labels (Term-F.Plain b) h = (λ f k. absurd k, λ m k. absurd k, λ m k. absurd k)
  made_layer_labels (Term-F.Named n) h = absurd h
  made_layer_labels (Term-F.Pointer v) h = (λ f k. absurd k, λ m k. absurd k, λ m k. absurd k)
  made_layer_labels (Term-F.Slice v) h = (λ f k. absurd k, λ m k. absurd k, λ m k. absurd k)
  made_layer_labels (Term-F.Array n v) h = (λ f k. absurd k, λ m k. absurd k, λ m k. absurd k)
  made_layer_labels (Term-F.Map j v) h = (λ f k. absurd k, λ m k. absurd k, λ m k. absurd k)
  made_layer_labels (Term-F.Chan d v) h = (λ f k. absurd k, λ m k. absurd k, λ m k. absurd k)
  made_layer_labels (Term-F.Func g) h = (λ f k. absurd k, λ m k. absurd k, λ m k. absurd k)
  made_layer_labels (Term-F.Struct fs) h = (λ f k. made_field_label (Term-F.Struct fs) f h k, λ m k. absurd k, λ m k. absurd k)
  made_layer_labels (Term-F.Interface ms) h = (λ f k. absurd k, λ m k. absurd k, λ m k. made_method_label (Term-F.Interface ms) m h k)

  labelled : (s label : Sel) → same_sel label s ≡ true → IsClientSel label → IsClientSel s
  labelled s label e h = subst IsClientSel (sel_is label s e) h

  level_label : (s : Sel) (b : Bool) (t : Term) (e : Ending) → HasLabels (under E.table t) (declared_methods E.table (out-Term t)) → HasItem (ends E.table s 0 (at_spot b t)) e → IsClientSel s
  unfolding ends
  level_label s b t e h k =
      let fs = gather (field_ending s b) (fields_of (under E.table t)) in
      let ds = gather (declared_ending (name_of (out-Term t)) s b) (declared_methods E.table (out-Term t)) in
      let ms = gather (method_ending s b) (methods_of (under E.table t)) in
      either (has_split (fs ++ ds) ms e k)
      (λ j. either (has_split fs ds e j)
      (λ i. let g = gather_of (field_ending s b) (fields_of (under E.table t)) e i in labelled s (out-Field g.0).sel (only_if E.table F.table r (own_kept E F r pairs std is_open K) s (same_sel (out-Field g.0).sel s) _ e g.2).0 (h.0 g.0 g.1))
      (λ i. let g = gather_of (declared_ending (name_of (out-Term t)) s b) (declared_methods E.table (out-Term t)) e i in labelled s (g.0).sel (only_if E.table F.table r (own_kept E F r pairs std is_open K) s (same_sel (g.0).sel s) _ e g.2).0 (h.1 g.0 g.1)))
      (λ i. let g = gather_of (method_ending s b) (methods_of (under E.table t)) e i in labelled s (out-Method g.0).sel (only_if E.table F.table r (own_kept E F r pairs std is_open K) s (same_sel (out-Method g.0).sel s) _ e g.2).0 (h.2 g.0 g.1))

  -- what is found from the type is found by a label that a client writes
  abbrev IsLabelled : Term → Type 0
  IsLabelled t = (s : Sel) (k : ℕ) (b : Bool) (e : Ending) → HasItem (ends E.table s k (at_spot b t)) e → IsClientSel s

  own_label : (s : Sel) (k : ℕ) (b : Bool) (t : Term) (e : Ending) → IsOwnLayer (out-Term t) → HasItem (ends E.table s k (at_spot b t)) e → IsClientSel s
  unfolding ends
  own_label s zero b t e h i = level_label s b t e (own_layer_labels (out-Term t) h) i
  own_label s (suc k) b t e h i = let g = gather_of (ends E.table s k) (steps E.table (at_spot b t)) e i in own_label s k (g.0).through (g.0).term e (next_own E.table F.table r (own_kept E F r pairs std is_open K) s b t g.0 h g.1) g.2

  made_label : (s : Sel) (k : ℕ) (b : Bool) (t : Term) (e : Ending) → IsMade (out-Term t) → HasItem (ends E.table s k (at_spot b t)) e → IsClientSel s
  unfolding ends
  made_label s zero b t e m i = level_label s b t e (made_layer_labels (out-Term t) m) i
  made_label s (suc k) b t e m i = let g = gather_of (ends E.table s k) (steps E.table (at_spot b t)) e i in own_label s k (g.0).through (g.0).term e (W.made_next E F r pairs std is_open K b t g.0 m g.1) g.2

  -- a method of a given interface, which isn't open, has no such label
  in_ends : (i : Term) (m : Method) → HasItem (methods_of (under E.table i)) m → (e : Ending) × HasItem (ends E.table (method_sel m) 0 (at_spot false i)) e
  unfolding ends
  in_ends i m k =
      let s = method_sel m in
      let e : Ending = record { through = false; target = method None false (out-Method m).signature } in
      let fs = gather (field_ending s false) (fields_of (under E.table i)) in
      let ds = gather (declared_ending (name_of (out-Term i)) s false) (declared_methods E.table (out-Term i)) in (
        e,
        has_right (fs ++ ds) (gather (method_ending s false) (methods_of (under E.table i))) e
            (in_gather (method_ending s false) (methods_of (under E.table i)) m e k (subst (λ c. HasItem (if c then e ∷ [] else []) e) (sym (sel_self s)) (inl refl))),
      )

  hidden : (i : Term) (ms : List Method) (m : Method) → Given i → under E.table i ≡ Term-F.Interface ms → HasItem ms m → is_open (method_sel m) ≡ false → IsClientSel (method_sel m) → ⊥
  hidden i ms m g e k o (inl x) = true_false (K.types.exported_open (method_sel m) x) o
  hidden i ms m g e k o (inr x) = let h = in_ends i m (subst (λ l. HasItem (methods_of l) m) (sym e) k) in nothing_in _ h.0 (K.types.strange i (method_sel m) 0 false g x) h.1

  -- ---- between what is searched and what is told

  pub in_table : (T : Env) (t i : Term) → Implements T t i → sets.Implements T.table t i
  in_table T t i h = (h.0, h.1, λ m k. let x = h.2 m k in record { depth = (x.found).depth; through = x.through; owner = x.owner; pointer = x.pointer; only = (x.found).only; counts = x.counts; reaches = through_flag x.through (Reaches x.pointer) x.reaches })

  pub from_table : (T : Env) (t i : Term) → Begins T t → ((s : Sel) (k : ℕ) → ToldTo T s k (start T.table t)) → sets.Implements T.table t i → Implements T t i
  from_table T t i b w h = (h.0, h.1, λ m k. let x = h.2 m k in record { through = x.through; owner = x.owner; pointer = x.pointer; found = record { depth = x.depth; only = x.only; begins = b; told = w (method_sel m) x.depth }; counts = x.counts; reaches = flag_through x.through (Reaches x.pointer) x.reaches })

  -- ---- interfaces with a method that isn't open

  told_start : (t : Term) → R t → ((s : Sel) (k : ℕ) (b : Bool) → ToldTo F s k (at_spot b (to (start E.table t).term))) → (s : Sel) (k : ℕ) → ToldTo F s k (start F.table (to t))
  told_start t h w s k = subst (ToldTo F s k) (sym (S.start_kept E F r pairs std is_open K t h)) (w s k (start E.table t).through)

  given_base : (t u : Term) → Given t → under E.table t ≡ Term-F.Pointer u → Given u
  given_base t u g e = (subst (λ l. IsKeptLayer r Given l (under F.table (to t))) e (K.types.beneath t g)).1 u (inl refl)

  given_start : (t : Term) → Given t → Given (start E.table t).term
  given_start t g = start_term Given E.table t (out-Term t) g (λ u e. K.types.parts_given t u g (subst (λ l. HasItem (parts l) u) (sym e) (inl refl))) (λ u e. given_base t u g e)

  sealed_given : (t i : Term) (ms : List Method) (m : Method) → Given t → Given i → under E.table i ≡ Term-F.Interface ms → HasItem ms m → is_open (method_sel m) ≡ false → Implements E t i → Implements F (to t) (to i)
  sealed_given t i ms m g j e k o h =
      from_table F (to t) (to i) (S.begins_kept E F r pairs std is_open K t (reach_given g) ((h.2 m (same_methods (under E.table i) ms h.0 m e h.1 k)).found).begins)
      (told_start t (reach_given g) (λ s n b. S.given_told E F r pairs std is_open K s n b (start E.table t).term (given_start t g)))
      (K.types.sealed t i ms m g j e k o (in_table E t i h))

  pointer_told : (t base : Term) → out-Term t ≡ Term-F.Pointer base → (s : Sel) (k : ℕ) (b : Bool) → ToldTo F s k (at_spot b (to t))
  pointer_told t base e s zero b = subst (ToldLayer F s) (sym (out_image r same_sels t ∙ ap layer e)) tt
  pointer_told t base e s (suc k) b = (subst (ToldLayer F s) (sym (out_image r same_sels t ∙ ap layer e)) tt, λ next j. absurd (subst (λ l. HasItem (gather (step b) (fields_of l)) next) (ap (under_layer F.table) (out_image r same_sels t ∙ ap layer e)) j))

  as_pointer : (t base : Term) → out-Term t ≡ Term-F.Pointer base → pointer_to base ≡ t
  as_pointer t base e = ap roll-Term (sym e) ∙ roll-out-Term t

  sealed_pointer : (t base i : Term) (ms : List Method) (m : Method) → R t → out-Term t ≡ Term-F.Pointer base → Given base → Given i → under E.table i ≡ Term-F.Interface ms → HasItem ms m → is_open (method_sel m) ≡ false → Implements E t i → Implements F (to t) (to i)
  sealed_pointer t base i ms m w p g j e k o h =
      from_table F (to t) (to i) (S.begins_kept E F r pairs std is_open K t w ((h.2 m (same_methods (under E.table i) ms h.0 m e h.1 k)).found).begins)
      (told_start t w (start_term (λ x. (s : Sel) (n : ℕ) (b : Bool) → ToldTo F s n (at_spot b (to x))) E.table t (out-Term t) (pointer_told t base p)
      (λ u q s n b. S.given_told E F r pairs std is_open K s n b u (subst Given (one_base (out-Term t) base u p q) g))
      (λ u q s n b. S.given_told E F r pairs std is_open K s n b u (subst Given (one_base (under E.table t) base u (ap (under_layer E.table) p) q) g))))
      (subst (λ x. sets.Implements F.table x (to i)) (sym (image_of r same_sels t (Term-F.Pointer base) p))
      (K.types.sealed_pointer base i ms m g j e k o (subst (λ x. sets.Implements E.table x i) (sym (as_pointer t base p)) (in_table E t i h))))

  -- a client's own type has no such method
  has_label : (t i : Term) (ms : List Method) (m : Method) → IsLabelled (start E.table t).term → under E.table i ≡ Term-F.Interface ms → HasItem ms m → Implements E t i → IsClientSel (method_sel m)
  has_label t i ms m w e k h =
      let x = h.2 m (same_methods (under E.table i) ms h.0 m e h.1 k) in
      w (method_sel m) (x.found).depth (start E.table t).through _ (first_of (ends E.table (method_sel m) (x.found).depth (start E.table t)) _ (x.found).only.only)

  own_start : (t : Term) (n : TypeName) → out-Term t ≡ Term-F.Named n → is_imported n ≡ false → is_defined_layer (out-Term t) (under E.table t) ≡ false → IsLabelled (start E.table t).term
  own_start t n e h c =
      let f : start E.table t ≡ at_spot false t = ap (start_layer E.table t) e ∙ named_start n t (under E.table t) (ap (λ l. is_defined_layer l (under E.table t)) (sym e) ∙ c) in
      subst (λ x. IsLabelled x.term) (sym f) (λ s k b y q. own_label s k b t y (subst IsOwnLayer (sym e) h) q)

  labelled_base : (u : Term) → R u → IsLabelled u ⊎ Given u
  labelled_base u (reach_given g) = inr g
  labelled_base u (reach_own e h) = inl (λ s k b y q. own_label s k b u y (subst IsOwnLayer (sym e) h) q)
  labelled_base u (reach_made m h) = inl (λ s k b y q. made_label s k b u y m q)

  -- the type is the client's own, made by it, or a pointer to a given one
  made_pointer : (t base i : Term) (ms : List Method) (m : Method) → R t → IsMade (out-Term t) → out-Term t ≡ Term-F.Pointer base → IsLabelled base ⊎ Given base → Given i → under E.table i ≡ Term-F.Interface ms → HasItem ms m → is_open (method_sel m) ≡ false → Implements E t i → Implements F (to t) (to i)
  made_pointer t base i ms m w x p (inr g) j e k o h = sealed_pointer t base i ms m w p g j e k o h
  made_pointer t base i ms m w x p (inl f) j e k o h = absurd (hidden i ms m j e k o (has_label t i ms m
      (start_term IsLabelled E.table t (out-Term t) (λ s n b y q. made_label s n b t y x q)
      (λ u q. subst IsLabelled (one_base (out-Term t) base u p q) f)
      (λ u q. subst IsLabelled (one_base (under E.table t) base u (ap (under_layer E.table) p) q) f)) e k h))

  made_sealed : (b : Bool) (t i : Term) (ms : List Method) (m : Method) → is_pointer_layer (out-Term t) ≡ b → R t → IsMade (out-Term t) → ((u : Term) → HasItem (parts (out-Term t)) u → R u) → Given i → under E.table i ≡ Term-F.Interface ms → HasItem ms m → is_open (method_sel m) ≡ false → Implements E t i → Implements F (to t) (to i)
  made_sealed true t i ms m f w x p j e k o h =
      let a = pointer_form (out-Term t) f in
      made_pointer t a.0 i ms m w x a.1 (labelled_base a.0 (p a.0 (subst (λ l. HasItem (parts l) a.0) (sym a.1) (inl refl)))) j e k o h
  made_sealed false t i ms m f w x p j e k o h = absurd (hidden i ms m j e k o (has_label t i ms m
      (start_term IsLabelled E.table t (out-Term t) (λ s n b y q. made_label s n b t y x q)
      (λ u q. absurd (no_pointer (out-Term t) u f q))
      (λ u q. absurd (no_pointer (out-Term t) u f (sym (made_under E.table (out-Term t) x) ∙ q)))) e k h))

  sealed_by : (t i : Term) (ms : List Method) (m : Method) → R t → Given i → under E.table i ≡ Term-F.Interface ms → HasItem ms m → is_open (method_sel m) ≡ false → Implements E t i → Implements F (to t) (to i)
  sealed_by t i ms m (reach_given g) j e k o h = sealed_given t i ms m g j e k o h
  sealed_by t i ms m (reach_own {n = n} q x) j e k o h = absurd (hidden i ms m j e k o (has_label t i ms m (own_start t n q x (h.2 m (same_methods (under E.table i) ms h.0 m e h.1 k)).counts) e k h))
  sealed_by t i ms m (reach_made x p) j e k o h = made_sealed (is_pointer_layer (out-Term t)) t i ms m refl (reach_made x p) x p j e k o h

  -- ---- all interfaces

  called : (s : Sel) → IsClientSel s → S.IsCalled E F r pairs std is_open K s
  called s (inl x) = inl (K.types.exported_open s x)
  called s (inr x) = inr x

  image_method : (t : Term) (m : Method) → R t → S.IsCalled E F r pairs std is_open K (method_sel m) → HasMethod E false t (method_sel m) (out-Method m).signature → HasMethod F false (to t) (method_sel (image_of_method r same_sels m)) (out-Method (image_of_method r same_sels m)).signature
  image_method t m h c x = subst (λ (y : OpenMethod). HasMethod F false (to t) y.sel y.signature) (sym (out_image_method r same_sels m)) (S.method_kept E F r pairs std is_open K false t (method_sel m) (out-Method m).signature h c x).0

  by_image : (t i : Term) (ms : List Method) → R t → under E.table i ≡ Term-F.Interface ms → ((m : Method) → HasItem ms m → IsClientSel (method_sel m)) → under F.table (to i) ≡ layer (under E.table i) → ((m : Method) → HasItem ms m → HasMethod E false t (method_sel m) (out-Method m).signature) → Implements F (to t) (to i)
  by_image t i ms h e c f x = (
    map (image_of_method r same_sels) ms,
    f ∙ ap layer e,
    λ n k.
        let j = in_map (image_of_method r same_sels) ms n k in
        subst (λ y. HasMethod F false (to t) (method_sel y) (out-Method y).signature) j.2 (image_method t j.0 h (called (method_sel j.0) (c j.0 j.1)) (x j.0 j.1)),
  )

  by_given : (t i : Term) (ms : List Method) → R t → Given i → under E.table i ≡ Term-F.Interface ms → interface_layer (under F.table (to i)) ≡ true → Implements E t i → ((m : Method) → HasItem ms m → HasMethod E false t (method_sel m) (out-Method m).signature) → Each (λ m. is_open (method_sel m) ≡ true) ms ⊎ ((m : Method) × HasItem ms m × (is_open (method_sel m) ≡ false)) → Implements F (to t) (to i)
  by_given t i ms h g e f w x (inl o) =
      let ns = interface_form (under F.table (to i)) f in (
        ns.0,
        ns.1,
        λ n k.
            let j = K.types.unsealed i ms g e o n (subst (λ l. HasItem (methods_of l) n) (sym ns.1) k) in
            subst (λ y. HasMethod F false (to t) (method_sel y) (out-Method y).signature) (sym j.2) (image_method t j.0 h (inl (each_has (λ m. is_open (method_sel m) ≡ true) ms j.0 o j.1)) (x j.0 j.1)),
      )
  by_given t i ms h g e f w x (inr m) = sealed_by t i ms m.0 h g e m.1 m.2 w

  client_methods : (ms : List Method) (l : Layer) → l ≡ Term-F.Interface ms → V.IsOwnLevel l → (m : Method) → HasItem ms m → IsClientSel (method_sel m)
  client_methods ms l e o m k = each_has (λ x. IsClientSel (method_sel x)) ms m (subst V.IsOwnLevel e o) k

  by_view : (t i : Term) → R t → View i → (h : Implements E t i) → Implements F (to t) (to i)
  by_view t i w (view_own f o k) h = by_image t i h.0 w h.1 (client_methods h.0 (under E.table i) h.1 o) f h.2
  by_view t i w (view_given g s f k) h = absurd (true_false (ap is_structured h.1) s)
  by_view t i w (view_struct g s f) h = absurd (true_false s (ap struct_layer h.1))
  by_view t i w (view_interface g s f) h = by_given t i h.0 w g h.1 f h h.2 (each_or_one (λ m. is_open (method_sel m)) h.0)

  -- a type implements the image of an interface that it implements
  pub implements_kept : (t i : Term) → R t → R i → Implements E t i → Implements F (to t) (to i)
  implements_kept t i w j h = by_view t i w (V.view E F r pairs std is_open K i j) h
