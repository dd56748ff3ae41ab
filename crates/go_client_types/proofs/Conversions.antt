-- What converts, and which channels are assigned, on both sides.
use Rattle.std.proofs.Common.{◌≡◌, Bool, true, false, ◌||◌, ◌&&◌, ◌⊎◌, inl, inr, List, [], refl, sym, ap, ◌∙◌, subst}
use Rattle.go_base.specs.Lists.{Has as HasItem}
use Rattle.go_model.specs.declared.constants.value.Basic.{Basic}
use Rattle.go_model.specs.declared.types.names.Sel.{Sel}
use Rattle.go_model.specs.declared.types.names.TypeName.{TypeName}
use Rattle.go_model.specs.declared.types.term.Direction.{Direction}
use Rattle.go_model.specs.declared.types.term.Direction.TheVariants as towards
use Rattle.go_model.specs.declared.types.term.Term.{Term, Term-F, out-Term, roll-Term}
use Rattle.go_model.specs.types.Assignability.{AreChannels, ChannelAssigns}
use Rattle.go_model.specs.types.Conversions.{PointerConverts, UnderlyingConverts, basics_convert, both_basic, is_character, is_characters, is_text}
use Rattle.go_model.specs.types.Imports.{imported_interface, imported_struct, is_imported, is_imported_open, is_named, is_named_layer}
use Rattle.go_model.specs.types.Tags.{bare, untagged}
use Rattle.go_model.specs.types.Tables.{Table}
use Rattle.go_model.specs.types.Terms.{Layer}
use Rattle.go_model.specs.types.Underlying.{under, under_layer}
use Rattle.go_rules.specs.Asks.{IsOwnLayer}
use Rattle.go_rules.specs.Environments.{Env}
use Rattle.go_type_images.specs.Images.{Naming, image, image_of_layer, same_sels}
use Rattle.go_type_images.specs.Levels.{interface_layer, struct_layer}
use Rattle.go_type_images.specs.Parts.{parts}
use Rattle.go_type_images.specs.declared.pair.TypePair.{TypePair}
use Rattle.go_type_images.proofs.ImageLevels.{image_roll, is_name, is_name_of, out_image}
use Rattle.go_type_images.proofs.Untagged.{swapped}
use Rattle.go_client_types.specs.Keeping.{Keeps}
use Rattle.go_client_types.specs.Reached.{IsReached, reach_given, reach_made, reach_own}
use Rattle.go_client_types.proofs.FoundEnds.{own_kept}
use Rattle.go_client_types.proofs.Own.{own_under}
use Rattle.go_client_types.proofs.Views as V
use Rattle.go_client_types.proofs.Views.{view_given, view_interface, view_own, view_struct}

-- ---- words on two truths

pub true_false : {b : Bool} → b ≡ true → b ≡ false → ⊥
true_false e f = let g : true ≡ false = sym e ∙ f in absurd (cc)

pub neither : (a b : Bool) → (a || b) ≡ false → (a ≡ false) × (b ≡ false)
neither true b e = absurd (cc)
neither false b e = (refl, e)

pub none_of : (a b : Bool) → a ≡ false → b ≡ false → (a || b) ≡ false
none_of a b e f = ap (λ x. x || b) e ∙ f

pub permitted : (p a b : Bool) → p ≡ true → (p && (a || b)) ≡ false → (a ≡ false) × (b ≡ false)
permitted true a b e f = neither a b f
permitted false a b e f = absurd (cc)

pub permitted_too : (p a b : Bool) → a ≡ false → b ≡ false → (p && (a || b)) ≡ false
permitted_too true a b e f = none_of a b e f
permitted_too false a b e f = refl

one_of : (a b : Bool) → (a || b) ≡ true → (a ≡ true) ⊎ (b ≡ true)
one_of true b e = inl refl
one_of false b e = inr e

left_of : (a b : Bool) → a ≡ true → (a || b) ≡ true
left_of a b e = ap (λ x. x || b) e

right_of : (a b : Bool) → b ≡ true → (a || b) ≡ true
right_of true b e = refl
right_of false b e = e

pub all_of : (a b : Bool) → (a && b) ≡ true → (a ≡ true) × (b ≡ true)
all_of true b e = (refl, e)
all_of false b e = absurd (cc)

and_of : (a b : Bool) → a ≡ true → b ≡ true → (a && b) ≡ true
and_of a b e f = ap (λ x. x && b) e ∙ f

either : {A B C : Type 0} → A ⊎ B → (A → C) → (B → C) → C
either (inl a) f g = f a
either (inr b) f g = g b

-- ---- levels

plain_left : (k l : Layer) → both_basic k l ≡ true → (b : Basic) × (k ≡ Term-F.Plain b)
plain_left (Term-F.Plain b) l x = (b, refl)
plain_left (Term-F.Named n) l x = absurd (cc)
plain_left (Term-F.Pointer e) l x = absurd (cc)
plain_left (Term-F.Slice e) l x = absurd (cc)
plain_left (Term-F.Array n e) l x = absurd (cc)
plain_left (Term-F.Map k e) l x = absurd (cc)
plain_left (Term-F.Chan d e) l x = absurd (cc)
plain_left (Term-F.Func g) l x = absurd (cc)
plain_left (Term-F.Struct fs) l x = absurd (cc)
plain_left (Term-F.Interface ms) l x = absurd (cc)

plain_right : (a : Basic) (l : Layer) → both_basic (Term-F.Plain a) l ≡ true → (b : Basic) × (l ≡ Term-F.Plain b)
plain_right a (Term-F.Plain b) e = (b, refl)
plain_right a (Term-F.Named n) e = absurd (cc)
plain_right a (Term-F.Pointer t) e = absurd (cc)
plain_right a (Term-F.Slice t) e = absurd (cc)
plain_right a (Term-F.Array n t) e = absurd (cc)
plain_right a (Term-F.Map k t) e = absurd (cc)
plain_right a (Term-F.Chan d t) e = absurd (cc)
plain_right a (Term-F.Func g) e = absurd (cc)
plain_right a (Term-F.Struct fs) e = absurd (cc)
plain_right a (Term-F.Interface ms) e = absurd (cc)

text_form : (l : Layer) → is_text l ≡ true → (b : Basic) × (l ≡ Term-F.Plain b)
text_form (Term-F.Plain b) e = (b, refl)
text_form (Term-F.Named n) e = absurd (cc)
text_form (Term-F.Pointer t) e = absurd (cc)
text_form (Term-F.Slice t) e = absurd (cc)
text_form (Term-F.Array n t) e = absurd (cc)
text_form (Term-F.Map k t) e = absurd (cc)
text_form (Term-F.Chan d t) e = absurd (cc)
text_form (Term-F.Func g) e = absurd (cc)
text_form (Term-F.Struct fs) e = absurd (cc)
text_form (Term-F.Interface ms) e = absurd (cc)

character_form : (l : Layer) → is_character l ≡ true → (b : Basic) × (l ≡ Term-F.Plain b)
character_form (Term-F.Plain b) e = (b, refl)
character_form (Term-F.Named n) e = absurd (cc)
character_form (Term-F.Pointer t) e = absurd (cc)
character_form (Term-F.Slice t) e = absurd (cc)
character_form (Term-F.Array n t) e = absurd (cc)
character_form (Term-F.Map k t) e = absurd (cc)
character_form (Term-F.Chan d t) e = absurd (cc)
character_form (Term-F.Func g) e = absurd (cc)
character_form (Term-F.Struct fs) e = absurd (cc)
character_form (Term-F.Interface ms) e = absurd (cc)

characters_form : (T : Table) (l : Layer) → is_characters T l ≡ true → (t : Term) × (l ≡ Term-F.Slice t)
characters_form T (Term-F.Plain b) e = absurd (cc)
characters_form T (Term-F.Named n) e = absurd (cc)
characters_form T (Term-F.Pointer t) e = absurd (cc)
characters_form T (Term-F.Slice t) e = (t, refl)
characters_form T (Term-F.Array n t) e = absurd (cc)
characters_form T (Term-F.Map k t) e = absurd (cc)
characters_form T (Term-F.Chan d t) e = absurd (cc)
characters_form T (Term-F.Func g) e = absurd (cc)
characters_form T (Term-F.Struct fs) e = absurd (cc)
characters_form T (Term-F.Interface ms) e = absurd (cc)

unnamed_level : (T U : Table) (r : Naming) (l : Layer) → is_name l ≡ false → under_layer U (image_of_layer r same_sels l) ≡ image_of_layer r same_sels (under_layer T l)
unnamed_level T U r (Term-F.Plain b) e = refl
unnamed_level T U r (Term-F.Named n) e = absurd (cc)
unnamed_level T U r (Term-F.Pointer t) e = refl
unnamed_level T U r (Term-F.Slice t) e = refl
unnamed_level T U r (Term-F.Array n t) e = refl
unnamed_level T U r (Term-F.Map k t) e = refl
unnamed_level T U r (Term-F.Chan d t) e = refl
unnamed_level T U r (Term-F.Func g) e = refl
unnamed_level T U r (Term-F.Struct fs) e = refl
unnamed_level T U r (Term-F.Interface ms) e = refl

named_level : (r : Naming) (l : Layer) → is_named_layer (image_of_layer r same_sels l) ≡ is_named_layer l
named_level r (Term-F.Plain b) = refl
named_level r (Term-F.Named n) = refl
named_level r (Term-F.Pointer e) = refl
named_level r (Term-F.Slice e) = refl
named_level r (Term-F.Array n e) = refl
named_level r (Term-F.Map k e) = refl
named_level r (Term-F.Chan d e) = refl
named_level r (Term-F.Func g) = refl
named_level r (Term-F.Struct fs) = refl
named_level r (Term-F.Interface ms) = refl

abbrev is_open_level : Layer → Layer → Bool
is_open_level l u = imported_struct l u || imported_interface l u

open_level : (r : Naming) → ((n : TypeName) → is_imported n ≡ false → r n ≡ n) → (l u : Layer) → is_open_level l u ≡ false → is_open_level (image_of_layer r same_sels l) (image_of_layer r same_sels u) ≡ false
open_level r o (Term-F.Plain b) u e = refl
open_level r o (Term-F.Named n) (Term-F.Plain b) e = refl
open_level r o (Term-F.Named n) (Term-F.Named m) e = refl
open_level r o (Term-F.Named n) (Term-F.Pointer t) e = refl
open_level r o (Term-F.Named n) (Term-F.Slice t) e = refl
open_level r o (Term-F.Named n) (Term-F.Array m t) e = refl
open_level r o (Term-F.Named n) (Term-F.Map k t) e = refl
open_level r o (Term-F.Named n) (Term-F.Chan d t) e = refl
open_level r o (Term-F.Named n) (Term-F.Func g) e = refl
open_level r o (Term-F.Named n) (Term-F.Struct fs) e = subst (λ m. (is_imported m || false) ≡ false) (sym (o n (neither (is_imported n) false e).0)) e
open_level r o (Term-F.Named n) (Term-F.Interface ms) e = subst (λ m. is_imported m ≡ false) (sym (o n e)) e
open_level r o (Term-F.Pointer t) u e = refl
open_level r o (Term-F.Slice t) u e = refl
open_level r o (Term-F.Array n t) u e = refl
open_level r o (Term-F.Map k t) u e = refl
open_level r o (Term-F.Chan d t) u e = refl
open_level r o (Term-F.Func g) u e = refl
open_level r o (Term-F.Struct fs) u e = refl
open_level r o (Term-F.Interface ms) u e = refl

struct_named : (n : TypeName) (u : Layer) → struct_layer u ≡ true → is_imported n ≡ true → is_open_level (Term-F.Named n) u ≡ false → ⊥
struct_named n (Term-F.Plain b) s i e = absurd (cc)
struct_named n (Term-F.Named m) s i e = absurd (cc)
struct_named n (Term-F.Pointer t) s i e = absurd (cc)
struct_named n (Term-F.Slice t) s i e = absurd (cc)
struct_named n (Term-F.Array m t) s i e = absurd (cc)
struct_named n (Term-F.Map k t) s i e = absurd (cc)
struct_named n (Term-F.Chan d t) s i e = absurd (cc)
struct_named n (Term-F.Func g) s i e = absurd (cc)
struct_named n (Term-F.Struct fs) s i e = true_false i (neither (is_imported n) false e).0
struct_named n (Term-F.Interface ms) s i e = absurd (cc)

interface_named : (n : TypeName) (u : Layer) → interface_layer u ≡ true → is_imported n ≡ true → is_open_level (Term-F.Named n) u ≡ false → ⊥
interface_named n (Term-F.Plain b) s i e = absurd (cc)
interface_named n (Term-F.Named m) s i e = absurd (cc)
interface_named n (Term-F.Pointer t) s i e = absurd (cc)
interface_named n (Term-F.Slice t) s i e = absurd (cc)
interface_named n (Term-F.Array m t) s i e = absurd (cc)
interface_named n (Term-F.Map k t) s i e = absurd (cc)
interface_named n (Term-F.Chan d t) s i e = absurd (cc)
interface_named n (Term-F.Func g) s i e = absurd (cc)
interface_named n (Term-F.Struct fs) s i e = absurd (cc)
interface_named n (Term-F.Interface ms) s i e = true_false i e

channels : (k l : Layer) → AreChannels k l → (e : Term) × (d : Direction) × (f : Term) × (k ≡ Term-F.Chan towards.Both e) × (l ≡ Term-F.Chan d f) × (e ≡ f)
channels (Term-F.Plain b) l h = absurd h
channels (Term-F.Named n) l h = absurd h
channels (Term-F.Pointer e) l h = absurd h
channels (Term-F.Slice e) l h = absurd h
channels (Term-F.Array n e) l h = absurd h
channels (Term-F.Map k e) l h = absurd h
channels (Term-F.Chan towards.Both e) (Term-F.Plain b) h = absurd h
channels (Term-F.Chan towards.Both e) (Term-F.Named n) h = absurd h
channels (Term-F.Chan towards.Both e) (Term-F.Pointer f) h = absurd h
channels (Term-F.Chan towards.Both e) (Term-F.Slice f) h = absurd h
channels (Term-F.Chan towards.Both e) (Term-F.Array n f) h = absurd h
channels (Term-F.Chan towards.Both e) (Term-F.Map j f) h = absurd h
channels (Term-F.Chan towards.Both e) (Term-F.Chan c f) h = (e, c, f, refl, refl, h)
channels (Term-F.Chan towards.Both e) (Term-F.Func g) h = absurd h
channels (Term-F.Chan towards.Both e) (Term-F.Struct fs) h = absurd h
channels (Term-F.Chan towards.Both e) (Term-F.Interface ms) h = absurd h
channels (Term-F.Chan towards.SendOnly e) l h = absurd h
channels (Term-F.Chan towards.ReceiveOnly e) l h = absurd h
channels (Term-F.Func g) l h = absurd h
channels (Term-F.Struct fs) l h = absurd h
channels (Term-F.Interface ms) l h = absurd h

module _ (E F : Env) (r : Naming) (pairs : List TypePair) (std : TypeName → Bool) (is_open : Sel → Bool) (K : Keeps E F r pairs std is_open) where
  abbrev to : Term → Term
  to = image r same_sels

  abbrev layer : Layer → Layer
  layer = image_of_layer r same_sels

  abbrev R : Term → Type 0
  R = IsReached pairs std is_open

  abbrev View : Term → Type 0
  View = V.View E F r pairs std is_open K

  pub named_too : (t : Term) → is_named (to t) ≡ is_named t
  named_too t = ap is_named_layer (out_image r same_sels t) ∙ named_level r (out-Term t)

  -- what stands in a reached type is reached
  pub part_reached : (t u : Term) → R t → HasItem (parts (out-Term t)) u → R u
  part_reached t u (reach_given g) k = reach_given (K.types.parts_given t u g k)
  part_reached t u (reach_own e h) k = absurd (subst (λ l. HasItem (parts l) u) e k)
  part_reached t u (reach_made m h) k = h u k

  -- ---- what is underneath, where it isn't a struct or an interface of another package that has a name

  by_view : (t : Term) (n : TypeName) → is_imported n ≡ true → is_open_level (Term-F.Named n) (under E.table t) ≡ false → View t → under F.table (to t) ≡ layer (under E.table t)
  by_view t n i e (view_own f o k) = f
  by_view t n i e (view_given g s f k) = f
  by_view t n i e (view_struct g s f) = absurd (struct_named n (under E.table t) s i e)
  by_view t n i e (view_interface g s f) = absurd (interface_named n (under E.table t) s i e)

  by_name : (t : Term) (n : TypeName) (b : Bool) → is_imported n ≡ b → out-Term t ≡ Term-F.Named n → R t → is_open_level (Term-F.Named n) (under E.table t) ≡ false → under F.table (to t) ≡ layer (under E.table t)
  by_name t n true i e h o = by_view t n i o (V.view E F r pairs std is_open K t h)
  by_name t n false i e h o = own_under E.table F.table r (own_kept E F r pairs std is_open K) (record { name = []; «package» = [] }) t (subst IsOwnLayer (sym e) i)

  unnamed : (t : Term) → is_name (out-Term t) ≡ false → under F.table (to t) ≡ layer (under E.table t)
  unnamed t e = ap (under_layer F.table) (out_image r same_sels t) ∙ unnamed_level E.table F.table r (out-Term t) e

  by_level : (t : Term) (b : Bool) → is_name (out-Term t) ≡ b → R t → is_imported_open E.table t ≡ false → under F.table (to t) ≡ layer (under E.table t)
  by_level t false e h o = unnamed t e
  by_level t true e h o = let f = is_name_of (out-Term t) e in by_name t f.0 (is_imported f.0) refl f.1 h (subst (λ l. is_open_level l (under E.table t) ≡ false) f.1 o)

  pub image_beneath : (t : Term) → R t → is_imported_open E.table t ≡ false → under F.table (to t) ≡ layer (under E.table t)
  image_beneath t h o = by_level t (is_name (out-Term t)) refl h o

  pub not_open : (t : Term) → R t → is_imported_open E.table t ≡ false → is_imported_open F.table (to t) ≡ false
  not_open t h o = (λ i. is_open_level (out_image r same_sels t i) (image_beneath t h o i)) ∙ open_level r K.types.own (out-Term t) (under E.table t) o

  -- ---- conversions

  bare_too : (t : Term) → R t → is_imported_open E.table t ≡ false → bare F.table (to t) ≡ to (bare E.table t)
  bare_too t h o = ap (λ l. untagged (roll-Term l)) (image_beneath t h o) ∙ ap untagged (sym (image_roll r same_sels (under E.table t))) ∙ swapped r same_sels (roll-Term (under E.table t))

  pub underlying_kept : (t u : Term) → R t → R u → UnderlyingConverts E.table E.profile t u → UnderlyingConverts F.table F.profile (to t) (to u)
  underlying_kept t u h k c =
      let p = permitted E.profile (is_imported_open E.table t) (is_imported_open E.table u) K.barred c.permitted in record {
        same = bare_too t h p.0 ∙ ap to c.same ∙ sym (bare_too u k p.1);
        permitted = permitted_too F.profile (is_imported_open F.table (to t)) (is_imported_open F.table (to u)) (not_open t h p.0) (not_open u k p.1);
      }

  pub pointers_kept : (t u : Term) → R t → R u → PointerConverts E.table E.profile t u → PointerConverts F.table F.profile (to t) (to u)
  pointers_kept t u h k c = record {
    base = to c.base;
    other = to c.other;
    from_is = out_image r same_sels t ∙ ap layer c.from_is;
    to_is = out_image r same_sels u ∙ ap layer c.to_is;
    converts = underlying_kept c.base c.other
        (part_reached t c.base h (subst (λ l. HasItem (parts l) c.base) (sym c.from_is) (inl refl)))
        (part_reached u c.other k (subst (λ l. HasItem (parts l) c.other) (sym c.to_is) (inl refl))) c.converts;
  }

  plain_too : (t : Term) (b : Basic) → R t → under E.table t ≡ Term-F.Plain b → under F.table (to t) ≡ under E.table t
  plain_too t b h e = (V.form_kept E F r pairs std is_open K t (Term-F.Plain b) h refl e).0 ∙ sym e

  both_too : (t u : Term) → R t → R u → both_basic (under E.table t) (under E.table u) ≡ true → both_basic (under F.table (to t)) (under F.table (to u)) ≡ true
  both_too t u h k e =
      let a = plain_left (under E.table t) (under E.table u) e in
      let b = plain_right a.0 (under E.table u) (subst (λ l. both_basic l (under E.table u) ≡ true) a.1 e) in
      (λ i. both_basic (plain_too t a.0 h a.1 i) (plain_too u b.0 k b.1 i)) ∙ e

  text_too : (t : Term) → R t → is_text (under E.table t) ≡ true → is_text (under F.table (to t)) ≡ true
  text_too t h e = let a = text_form (under E.table t) e in ap is_text (plain_too t a.0 h a.1) ∙ e

  characters_too : (t : Term) → R t → is_characters E.table (under E.table t) ≡ true → is_characters F.table (under F.table (to t)) ≡ true
  characters_too t h e =
      let a = characters_form E.table (under E.table t) e in
      let s = V.form_kept E F r pairs std is_open K t (Term-F.Slice a.0) h refl a.1 in
      let c : is_character (under E.table a.0) ≡ true = ap (is_characters E.table) (sym a.1) ∙ e in
      let b = character_form (under E.table a.0) c in
      ap (is_characters F.table) s.0 ∙ ap is_character (plain_too a.0 b.0 (s.1 a.0 (inl refl)) b.1) ∙ c

  text_pair : (t u : Term) → R t → R u → (is_text (under E.table t) && is_characters E.table (under E.table u)) ≡ true → (is_text (under F.table (to t)) && is_characters F.table (under F.table (to u))) ≡ true
  text_pair t u h k e = let a = all_of _ _ e in and_of _ _ (text_too t h a.0) (characters_too u k a.1)

  pair_text : (t u : Term) → R t → R u → (is_characters E.table (under E.table t) && is_text (under E.table u)) ≡ true → (is_characters F.table (under F.table (to t)) && is_text (under F.table (to u))) ≡ true
  pair_text t u h k e = let a = all_of _ _ e in and_of _ _ (characters_too t h a.0) (text_too u k a.1)

  first_two : (t u : Term) → R t → R u → (both_basic (under E.table t) (under E.table u) || (is_text (under E.table t) && is_characters E.table (under E.table u))) ≡ true → (both_basic (under F.table (to t)) (under F.table (to u)) || (is_text (under F.table (to t)) && is_characters F.table (under F.table (to u)))) ≡ true
  first_two t u h k e = either (one_of _ _ e) (λ f. left_of _ _ (both_too t u h k f)) (λ f. right_of _ _ (text_pair t u h k f))

  pub basics_kept : (t u : Term) → R t → R u → basics_convert E.table t u ≡ true → basics_convert F.table (to t) (to u) ≡ true
  basics_kept t u h k e = either (one_of _ _ e) (λ f. left_of _ _ (first_two t u h k f)) (λ f. right_of _ _ (pair_text t u h k f))

  -- ---- channels

  pub channels_kept : (t u : Term) → R t → R u → ChannelAssigns E.table t u → ChannelAssigns F.table (to t) (to u)
  channels_kept t u h k c =
      let a = channels (under E.table t) (under E.table u) c.channels in
      let f = (V.form_kept E F r pairs std is_open K t (Term-F.Chan towards.Both a.0) h refl a.3).0 in
      let g = (V.form_kept E F r pairs std is_open K u (Term-F.Chan a.1 a.2) k refl a.4).0 in record {
        channels = subst (λ l. AreChannels l (under F.table (to u))) (sym f) (subst (AreChannels (Term-F.Chan towards.Both (to a.0))) (sym g) (ap to a.5));
        unnamed = (λ i. named_too t i && named_too u i) ∙ c.unnamed;
      }
