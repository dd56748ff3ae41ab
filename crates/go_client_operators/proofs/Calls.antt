-- Conversions, slice expressions and arguments of a client on both sides.
use Rattle.std.proofs.Common.{◌≡◌, inl, inr, ℕ, Bool, true, false, List, [], ◌∷◌, map, refl, sym, ap, ◌∙◌, subst, Option, Some}
use Rattle.go_base.specs.Lists.{Each, Has as HasItem}
use Rattle.go_model.specs.constants.Constants.{converted, is_representable}
use Rattle.go_model.specs.declared.constants.value.Basic.{Basic}
use Rattle.go_model.specs.declared.constants.value.Basic.TheVariants as basic
use Rattle.go_model.specs.declared.constants.value.Untyped.{Untyped}
use Rattle.go_model.specs.declared.constants.value.Untyped.TheVariants as untyped
use Rattle.go_model.specs.declared.constants.value.Value.{Value}
use Rattle.go_model.specs.declared.types.names.Sel.{Sel}
use Rattle.go_model.specs.declared.types.names.TypeName.{TypeName}
use Rattle.go_model.specs.declared.types.package.ConstTerm.TheVariants as constant
use Rattle.go_model.specs.declared.types.term.Method.{Method}
use Rattle.go_model.specs.declared.types.term.Term.{Term, Term-F, roll-Term, out-roll-Term}
use Rattle.go_model.specs.types.Terms.{Layer, slice_of}
use Rattle.go_model.specs.types.Underlying.{under, under_layer}
use Rattle.go_rules.specs.Environments.{Env}
use Rattle.go_rules.specs.Expressions.{ArgumentsFit, fits_none, fits_more, fits_slice, fits_rest, Converts, converts_constant, converts_inexact, converts_value, converts_typed, converts_untyped, converts_truth, converts_nil, IsPrinted, printed_typed, printed_constant, printed_truth, Makes, makes_slice, makes_slice_with_capacity, makes_map, makes_map_with_room, makes_channel, makes_channel_with_buffer, MayHold, Slices, slices_string, slices_untyped, slices_array, slices_array_pointer, slices_slice, is_composed}
use Rattle.go_rules.specs.Operands.{basic_term, constant_of, default_type, nil, plain}
use Rattle.go_rules.specs.Usability.{Convertible, DefaultHolds, UsableAs}
use Rattle.go_rules.specs.declared.operand.Operand.{Operand}
use Rattle.go_type_images.specs.Images.{Naming, image, image_of_layer, same_sels}
use Rattle.go_type_images.specs.Levels.{interface_layer, is_structured, struct_layer}
use Rattle.go_type_images.specs.Parts.{parts}
use Rattle.go_type_images.specs.declared.pair.TypePair.{TypePair}
use Rattle.go_type_images.proofs.ImageLevels.{image_roll, out_image}
use Rattle.go_client_types.specs.Following.{After, after_bare, after_constant, after_value, same_mode}
use Rattle.go_client_types.specs.Keeping.{Keeps}
use Rattle.go_client_types.specs.Reached.{IsMade, IsReached, reach_made}
use Rattle.go_client_types.proofs.Assigning.{convertible_kept, usable_kept}
use Rattle.go_client_types.proofs.Implementing.{implements_kept}
use Rattle.go_client_types.proofs.Operands.{kind_kept, typed_after}
use Rattle.go_client_types.proofs.Views as V
use Rattle.go_client_types.proofs.Views.{form_kept, view_given, view_interface, view_own, view_struct}
use Rattle.go_client_operators.specs.FollowedOperands.{AreAfter}
use Rattle.go_client_operators.proofs.Operators.{constant_mode, string_kept}

struct_composed : (l : Layer) → struct_layer l ≡ true → is_composed l ≡ true
struct_composed (Term-F.Plain b) e = absurd (cc)
struct_composed (Term-F.Named n) e = absurd (cc)
struct_composed l e = refl

interface_composed : (l : Layer) → interface_layer l ≡ true → is_composed l ≡ true
interface_composed (Term-F.Plain b) e = absurd (cc)
interface_composed (Term-F.Named n) e = absurd (cc)
interface_composed l e = refl

pub is_interface : (l : Layer) → interface_layer l ≡ true → (ms : List Method) × (l ≡ Term-F.Interface ms)
is_interface (Term-F.Interface ms) e = (ms, refl)
is_interface (Term-F.Plain b) e = absurd (cc)
is_interface (Term-F.Named n) e = absurd (cc)
is_interface (Term-F.Pointer t) e = absurd (cc)
is_interface (Term-F.Slice t) e = absurd (cc)
is_interface (Term-F.Array n t) e = absurd (cc)
is_interface (Term-F.Map k t) e = absurd (cc)
is_interface (Term-F.Chan d t) e = absurd (cc)
is_interface (Term-F.Func g) e = absurd (cc)
is_interface (Term-F.Struct fs) e = absurd (cc)

not_interface : (l : Layer) → struct_layer l ≡ true → interface_layer l ≡ false
not_interface (Term-F.Struct fs) e = refl
not_interface (Term-F.Interface ms) e = absurd (cc)
not_interface (Term-F.Plain b) e = refl
not_interface (Term-F.Named n) e = refl
not_interface (Term-F.Pointer t) e = refl
not_interface (Term-F.Slice t) e = refl
not_interface (Term-F.Array n t) e = refl
not_interface (Term-F.Map k t) e = refl
not_interface (Term-F.Chan d t) e = refl
not_interface (Term-F.Func g) e = refl

both : (b : Bool) → b ≡ true → b ≡ false → ⊥
both true e f = absurd (cc)
both false e f = absurd (cc)

composed_image : (r : Naming) (l : Layer) → is_composed (image_of_layer r same_sels l) ≡ is_composed l
composed_image r (Term-F.Plain b) = refl
composed_image r (Term-F.Named n) = refl
composed_image r (Term-F.Pointer t) = refl
composed_image r (Term-F.Slice t) = refl
composed_image r (Term-F.Array n t) = refl
composed_image r (Term-F.Map k t) = refl
composed_image r (Term-F.Chan d t) = refl
composed_image r (Term-F.Func g) = refl
composed_image r (Term-F.Struct fs) = refl
composed_image r (Term-F.Interface ms) = refl

interface_image : (r : Naming) (l : Layer) → interface_layer (image_of_layer r same_sels l) ≡ interface_layer l
interface_image r (Term-F.Plain b) = refl
interface_image r (Term-F.Named n) = refl
interface_image r (Term-F.Pointer t) = refl
interface_image r (Term-F.Slice t) = refl
interface_image r (Term-F.Array n t) = refl
interface_image r (Term-F.Map k t) = refl
interface_image r (Term-F.Chan d t) = refl
interface_image r (Term-F.Func g) = refl
interface_image r (Term-F.Struct fs) = refl
interface_image r (Term-F.Interface ms) = refl

makes_image : (r : Naming) {l : Layer} {n : ℕ} → Makes l n → Makes (image_of_layer r same_sels l) n
makes_image r makes_slice = makes_slice
makes_image r makes_slice_with_capacity = makes_slice_with_capacity
makes_image r makes_map = makes_map
makes_image r makes_map_with_room = makes_map_with_room
makes_image r makes_channel = makes_channel
makes_image r makes_channel_with_buffer = makes_channel_with_buffer

makes_plain : {l : Layer} {n : ℕ} → Makes l n → is_structured l ≡ false
makes_plain makes_slice = refl
makes_plain makes_slice_with_capacity = refl
makes_plain makes_map = refl
makes_plain makes_map_with_room = refl
makes_plain makes_channel = refl
makes_plain makes_channel_with_buffer = refl

module _ (E F : Env) (r : Naming) (pairs : List TypePair) (std : TypeName → Bool) (is_open : Sel → Bool) (K : Keeps E F r pairs std is_open) where
  abbrev to : Term → Term
  to = image r same_sels

  abbrev R : Term → Type 0
  R = IsReached pairs std is_open

  abbrev B : Operand → Operand → Type 0
  B = After r pairs std is_open

  -- ---- types that are made here

  made : (l : Layer) → IsMade l → ((u : Term) → HasItem (parts l) u → R u) → R (roll-Term l)
  made l m h = reach_made (subst IsMade (sym (out-roll-Term l)) m) (λ u k. h u (subst (λ x. HasItem (parts x) u) (out-roll-Term l) k))

  basic_reached : (b : Basic) → R (basic_term b)
  basic_reached b = made (Term-F.Plain b) tt (λ u k. absurd k)

  basic_stays : (b : Basic) → to (basic_term b) ≡ basic_term b
  basic_stays b = image_roll r same_sels (Term-F.Plain b)

  basic_after : (b : Basic) → B (plain (basic_term b)) (plain (basic_term b))
  basic_after b = subst (λ t. B (plain (basic_term b)) (plain t)) (basic_stays b) (after_value same_mode (basic_reached b))

  default_reached : (k : Untyped) → R (default_type k)
  default_reached untyped.IntKind = basic_reached basic.Int
  default_reached untyped.RuneKind = basic_reached basic.Int32
  default_reached untyped.StrKind = basic_reached basic.Str
  default_reached untyped.BoolKind = basic_reached basic.Bool

  default_stays : (k : Untyped) → to (default_type k) ≡ default_type k
  default_stays untyped.IntKind = basic_stays basic.Int
  default_stays untyped.RuneKind = basic_stays basic.Int32
  default_stays untyped.StrKind = basic_stays basic.Str
  default_stays untyped.BoolKind = basic_stays basic.Bool

  one : (t : Term) → R t → (u : Term) → HasItem (t ∷ []) u → R u
  one t h u (inl e) = subst R e h
  one t h u (inr k) = absurd k

  slice_after : (e : Term) → R e → B (plain (slice_of e)) (plain (slice_of (to e)))
  slice_after e h = subst (λ t. B (plain (slice_of e)) (plain t)) (image_roll r same_sels (Term-F.Slice e)) (after_value same_mode (made (Term-F.Slice e) tt (one e h)))

  -- ---- levels

  composed_by : (t : Term) → is_composed (under E.table t) ≡ true → V.View E F r pairs std is_open K t → is_composed (under F.table (to t)) ≡ true
  composed_by t e (view_own f o k) = ap is_composed f ∙ composed_image r (under E.table t) ∙ e
  composed_by t e (view_given g s f k) = ap is_composed f ∙ composed_image r (under E.table t) ∙ e
  composed_by t e (view_struct g s f) = struct_composed (under F.table (to t)) f
  composed_by t e (view_interface g s f) = interface_composed (under F.table (to t)) f

  composed_kept : (t : Term) → R t → is_composed (under E.table t) ≡ true → is_composed (under F.table (to t)) ≡ true
  composed_kept t h e = composed_by t e (V.view E F r pairs std is_open K t h)

  interface_by : (t : Term) → interface_layer (under E.table t) ≡ true → V.View E F r pairs std is_open K t → interface_layer (under F.table (to t)) ≡ true
  interface_by t e (view_own f o k) = ap interface_layer f ∙ interface_image r (under E.table t) ∙ e
  interface_by t e (view_given g s f k) = ap interface_layer f ∙ interface_image r (under E.table t) ∙ e
  interface_by t e (view_struct g s f) = absurd (both (interface_layer (under E.table t)) e (not_interface (under E.table t) s))
  interface_by t e (view_interface g s f) = f

  pub interface_kept : (t : Term) → R t → interface_layer (under E.table t) ≡ true → interface_layer (under F.table (to t)) ≡ true
  interface_kept t h e = interface_by t e (V.view E F r pairs std is_open K t h)

  plain_form : (t : Term) (b : Basic) → R t → under E.table t ≡ Term-F.Plain b → under F.table (to t) ≡ Term-F.Plain b
  plain_form t b h e = (form_kept E F r pairs std is_open K t (Term-F.Plain b) h refl e).0

  default_kept : (k : Untyped) (v : Value) → DefaultHolds E k v → DefaultHolds F k v
  default_kept k v d = (d.0, d.1, subst (λ n. is_representable v d.0 n ≡ true) (sym K.bits) d.2)

  -- ---- conversions

  default_convert : (k : Untyped) (t : Term) → R t → Convertible E (default_type k) t → Convertible F (default_type k) (to t)
  default_convert k t h c = subst (λ u. Convertible F u (to t)) (default_stays k) (convertible_kept E F r pairs std is_open K (default_type k) t (default_reached k) h c)

  pub converts_kept : {o q s : Operand} {t : Term} → B o q → R t → Converts E o t s → (z : Operand) × Converts F q (to t) z × B s z
  converts_kept {t = t} (after_constant h) g (converts_constant {v = v} {w = w} {b = b} {k = k} u i y e) =
      (constant_of (constant.OfTerm (to t)) w, converts_constant (plain_form t b g u) i (kind_kept E F r pairs std is_open K h y) (subst (λ n. converted v k b n ≡ Some w) (sym K.bits) e), after_constant g)
  converts_kept (after_bare h) g (converts_constant u i y e) = absurd h
  converts_kept {t = t} (after_constant h) g (converts_inexact {b = b} u i) = (plain (to t), converts_inexact (plain_form t b g u) i, after_value same_mode g)
  converts_kept (after_bare h) g (converts_inexact u i) = absurd h
  converts_kept {t = t} a g (converts_value {u = u} c x v) =
      let f = typed_after r pairs std is_open a x in
      (plain (to t), converts_value (constant_mode r pairs std is_open a ∙ c) f.0 (convertible_kept E F r pairs std is_open K u t f.1 g v), after_value same_mode g)
  converts_kept {t = t} (after_constant h) g (converts_typed {u = u} m v) = (plain (to t), converts_typed (composed_kept t g m) (convertible_kept E F r pairs std is_open K u t h g v), after_value same_mode g)
  converts_kept (after_bare h) g (converts_typed m v) = absurd h
  converts_kept {t = t} (after_constant h) g (converts_untyped {k = k} {v = v} m d c) = (plain (to t), converts_untyped (composed_kept t g m) (default_kept k v d) (default_convert k t g c), after_value same_mode g)
  converts_kept (after_bare h) g (converts_untyped m d c) = absurd h
  converts_kept {t = t} (after_bare h) g (converts_truth {k = k} c) = (plain (to t), converts_truth (default_convert k t g c), after_value same_mode g)
  converts_kept {t = t} (after_bare h) g (converts_nil x) = (plain (to t), converts_nil (usable_kept E F r pairs std is_open K (after_bare {o = nil} h) g x), after_value same_mode g)

  -- ---- slice expressions

  pub slices_kept : {simple : Bool} {o q s : Operand} {n : Option ℕ} → B o q → Slices E simple o n s → (z : Operand) × Slices F simple q n z × B s z
  slices_kept a (slices_string {t = t} i x y) = let f = typed_after r pairs std is_open a x in (plain (to t), slices_string i f.0 (string_kept E F r pairs std is_open K a y), after_value same_mode f.1)
  slices_kept (after_constant h) (slices_untyped i) = (plain (basic_term basic.Str), slices_untyped i, basic_after basic.Str)
  slices_kept (after_bare h) (slices_untyped i) = absurd h
  slices_kept (after_value same_mode h) (slices_array {t = t} {e = e} {n = n} u) = let f = form_kept E F r pairs std is_open K t (Term-F.Array n e) h refl u in (plain (slice_of (to e)), slices_array f.0, slice_after e (f.1 e (inl refl)))
  slices_kept (after_bare h) (slices_array u) = absurd h
  slices_kept a (slices_array_pointer {t = t} {base = base} {e = e} {n = n} x u v) =
      let j = typed_after r pairs std is_open a x in
      let f = form_kept E F r pairs std is_open K t (Term-F.Pointer base) j.1 refl u in
      let g = form_kept E F r pairs std is_open K base (Term-F.Array n e) (f.1 base (inl refl)) refl v in
      (plain (slice_of (to e)), slices_array_pointer j.0 f.0 g.0, slice_after e (g.1 e (inl refl)))
  slices_kept a (slices_slice {t = t} {e = e} x u) =
      let j = typed_after r pairs std is_open a x in
      (plain (to t), slices_slice j.0 (form_kept E F r pairs std is_open K t (Term-F.Slice e) j.1 refl u).0, after_value same_mode j.1)

  -- ---- assertions, `make` and `print`

  pub may_hold_kept : (t u : Term) → R t → R u → MayHold E t u → MayHold F (to t) (to u)
  may_hold_kept t u h k (inl i) = inl (is_interface (under F.table (to u)) (interface_kept u k (ap interface_layer i.1)))
  may_hold_kept t u h k (inr i) = inr (implements_kept E F r pairs std is_open K u t k h i)

  pub makes_kept : (t : Term) (n : ℕ) → R t → Makes (under E.table t) n → Makes (under F.table (to t)) n
  makes_kept t n h m = subst (λ l. Makes l n) (sym (form_kept E F r pairs std is_open K t (under E.table t) h (makes_plain m) refl).0) (makes_image r m)

  pub printed_kept : {o q : Operand} → B o q → IsPrinted E o → IsPrinted F q
  printed_kept a (printed_typed x) = printed_typed (typed_after r pairs std is_open a x).0
  printed_kept (after_constant h) (printed_constant {k = k} {v = v} d) = printed_constant (default_kept k v d)
  printed_kept (after_bare h) (printed_constant d) = absurd h
  printed_kept (after_bare h) printed_truth = printed_truth

  -- ---- arguments

  pub each_usable : (e : Term) (os qs : List Operand) → R e → AreAfter r pairs std is_open os qs → Each (λ o. UsableAs E o e) os → Each (λ o. UsableAs F o (to e)) qs
  each_usable e [] [] h a u = tt
  each_usable e [] (q ∷ qs) h a u = absurd a
  each_usable e (o ∷ os) [] h a u = absurd a
  each_usable e (o ∷ os) (q ∷ qs) h a u = (usable_kept E F r pairs std is_open K a.0 h u.0, each_usable e os qs h a.1 u.1)

  pub arguments_kept : {variadic dots : Bool} {ts : List Term} {os : List Operand} (qs : List Operand) → AreAfter r pairs std is_open os qs → ((u : Term) → HasItem ts u → R u) → ArgumentsFit E variadic dots ts os → ArgumentsFit F variadic dots (map to ts) qs
  arguments_kept [] a h fits_none = fits_none
  arguments_kept (q ∷ qs) a h fits_none = absurd a
  arguments_kept [] a h (fits_more x y) = absurd a
  arguments_kept (q ∷ qs) a h (fits_more {t = t} x y) = fits_more (usable_kept E F r pairs std is_open K a.0 (h t (inl refl)) x) (arguments_kept qs a.1 (λ u k. h u (inr k)) y)
  arguments_kept [] a h (fits_slice x) = absurd a
  arguments_kept (q ∷ []) a h (fits_slice {t = t} x) = fits_slice (usable_kept E F r pairs std is_open K a.0 (h t (inl refl)) x)
  arguments_kept (q ∷ p ∷ qs) a h (fits_slice x) = absurd (a.1)
  arguments_kept {os = os} qs a h (fits_rest {t = t} {e = e} i x) =
      let f = form_kept E F r pairs std is_open K t (Term-F.Slice e) (h t (inl refl)) refl (ap (under_layer E.table) i) in
      fits_rest (out_image r same_sels t ∙ ap (image_of_layer r same_sels) i) (each_usable e os qs (f.1 e (inl refl)) a x)
