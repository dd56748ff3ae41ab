-- Among more entries the relations of types hold that held, and a value may be used where it might.
use Rattle.std.proofs.Common.{◌≡◌, Bool, true, false, [], refl, sym, ap, ◌∙◌, subst}
use Rattle.std.specs.Prelude.{◌&&◌, ◌||◌}
use Rattle.go_model.specs.declared.constants.value.Basic.TheVariants as basic
use Rattle.go_model.specs.declared.constants.value.Kind.{Kind}
use Rattle.go_model.specs.declared.types.package.ConstTerm.{ConstTerm}
use Rattle.go_model.specs.declared.types.term.Direction.TheVariants as towards
use Rattle.go_model.specs.declared.types.term.Term.{Term, Term-F, out-Term, roll-Term}
use Rattle.go_model.specs.types.Assignability.{AreChannels, ChannelAssigns, UnderlyingAssigns}
use Rattle.go_model.specs.types.Comparison.{LeadsToIncomparable, at_slice, at_map, at_func, in_array, in_struct}
use Rattle.go_model.specs.types.Conversions.{UnderlyingConverts, PointerConverts, basics_convert, both_basic, is_character, is_characters, is_text}
use Rattle.go_model.specs.types.Imports.{imported_interface, imported_struct, is_imported_open, is_imported_struct}
use Rattle.go_model.specs.types.Tables.{Table}
use Rattle.go_model.specs.types.Tags.{untagged}
use Rattle.go_model.specs.types.Terms.{Layer}
use Rattle.go_model.specs.types.Underlying.{under}
use Rattle.go_rules.specs.Environments.{Entered, Env}
use Rattle.go_rules.specs.Growth.{Grows}
use Rattle.go_rules.specs.Operands.{HasKind, kind_of_type, kind_of_untyped}
use Rattle.go_rules.specs.Usability.{Implements, Assignable, assign_identical, assign_underlying, assign_interface, assign_channel, BasesEntered, Convertible, convert_assignable, convert_underlying, convert_pointer, convert_basic, LeadsTo, leads_here, leads_array, leads_struct, Compares, holds_nil, UsableAs, use_value, use_constant, use_truth, use_constant_as_any, use_truth_as_any, use_nil, Match, match_types, match_right, match_left, match_kinds}
use Rattle.go_rules.specs.declared.operand.Operand.{Operand}
use Rattle.go_rules.proofs.GrowTypes.{joined, is_form, form_entered, under_more, form_more, entered_more, method_more}
use Rattle.go_rules.proofs.OneKind.{no_truth}

-- what is barred without the flag, or with it already, is no more
pub still_permitted : (p q a b : Bool) → (q ≡ true → p ≡ true) → a ≡ b → (p && a) ≡ false → (q && b) ≡ false
still_permitted p false a b h e k = refl
still_permitted p true a b h e k = sym e ∙ ap (λ x. x && a) (sym (h refl)) ∙ k

and_false : (a : Bool) → (a && false) ≡ false
and_false true = refl
and_false false = refl

-- ---- forms

chan_left : (k l : Layer) → AreChannels k l → is_form k ≡ true
chan_left (Term-F.Named n) l h = absurd h
chan_left k l h = refl

chan_right : (k l : Layer) → AreChannels k l → is_form l ≡ true
chan_right (Term-F.Chan towards.Both e) (Term-F.Named n) h = absurd h
chan_right (Term-F.Chan towards.Both e) l h = refl
chan_right (Term-F.Chan towards.SendOnly e) l h = absurd h
chan_right (Term-F.Chan towards.ReceiveOnly e) l h = absurd h
chan_right k l h = absurd h

pub nil_form : (l : Layer) → holds_nil l ≡ true → is_form l ≡ true
nil_form (Term-F.Named n) h = absurd (no_truth (sym h))
nil_form l h = refl

-- ---- conversions of basic types

basics_of : Table → Layer → Layer → Bool
basics_of T k l = both_basic k l || (is_text k && is_characters T l) || (is_characters T k && is_text l)

or_left : (a b c : Bool) → (a ≡ true → b ≡ true) → (a || c) ≡ true → (b || c) ≡ true
or_left true b c h k = ap (λ x. x || c) (h refl)
or_left false true c h k = refl
or_left false false c h k = k

or_right : (a b c : Bool) → (b ≡ true → c ≡ true) → (a || b) ≡ true → (a || c) ≡ true
or_right true b c h k = refl
or_right false b c h k = h k

and_left : (a b c : Bool) → (a ≡ true → b ≡ true) → (a && c) ≡ true → (b && c) ≡ true
and_left true b c h k = ap (λ x. x && c) (h refl) ∙ k
and_left false b c h k = absurd (no_truth (sym k))

and_right : (a b c : Bool) → (b ≡ true → c ≡ true) → (a && b) ≡ true → (a && c) ≡ true
and_right true b c h k = h k
and_right false b c h k = k

left_form : (T : Table) (k l : Layer) → basics_of T k l ≡ true → is_form k ≡ true
unfolding basics_of
left_form T (Term-F.Named n) l h = absurd (no_truth (sym h))
left_form T k l h = refl

no_name : (T : Table) (k : Layer) (n : _) → basics_of T k (Term-F.Named n) ≡ true → both_basic k (Term-F.Named n) ≡ false → ⊥
unfolding basics_of
no_name T k n h e = no_truth (sym h ∙ (λ i. e i || and_false (is_text k) i || and_false (is_characters T k) i))

right_form : (T : Table) (k l : Layer) → basics_of T k l ≡ true → is_form l ≡ true
right_form T (Term-F.Plain b) (Term-F.Named n) h = absurd (no_name T (Term-F.Plain b) n h refl)
right_form T k (Term-F.Named n) h = absurd (no_name T k n h refl)
right_form T k l h = refl

character_form : (l : Layer) → is_character l ≡ true → is_form l ≡ true
character_form (Term-F.Named n) h = absurd (no_truth (sym h))
character_form l h = refl

module _ (E F : Env) (m : Grows E F) where
  abbrev G : Env
  G = joined E F

  pub implements_more : (t u : Term) → Implements E t u → Implements G t u
  implements_more t u (ms, e, f) = (ms, form_more E F m u (Term-F.Interface ms) refl e, λ x i. method_more E F m (f x i))

  struct_same : (t : Term) → Entered E t → is_imported_struct E.table t ≡ is_imported_struct F.table t
  struct_same t h = ap (imported_struct (out-Term t)) (under_more E F m t h)

  -- an unkeyed literal of the struct stays permitted
  pub struct_permitted : (t : Term) → Entered E t → (E.profile && is_imported_struct E.table t) ≡ false → (F.profile && is_imported_struct F.table t) ≡ false
  struct_permitted t h k = still_permitted E.profile F.profile (is_imported_struct E.table t) (is_imported_struct F.table t) m.profile (struct_same t h) k

  underlying_assigns_more : {t u : Term} → Entered E t → Entered E u → UnderlyingAssigns E.table E.profile t u → UnderlyingAssigns F.table F.profile t u
  underlying_assigns_more {t = t} {u = u} h k a = record {
    same = sym (under_more E F m t h) ∙ a.same ∙ under_more E F m u k;
    unnamed = a.unnamed;
    permitted = still_permitted E.profile F.profile (is_imported_struct E.table t || is_imported_struct E.table u) (is_imported_struct F.table t || is_imported_struct F.table u) m.profile (λ i. struct_same t h i || struct_same u k i) a.permitted;
  }

  channel_assigns_more : {t u : Term} → ChannelAssigns E.table t u → ChannelAssigns F.table t u
  channel_assigns_more {t = t} {u = u} a =
      let p = under_more E F m t (form_entered E t (under E.table t) (chan_left (under E.table t) (under E.table u) a.channels) refl) in
      let q = under_more E F m u (form_entered E u (under E.table u) (chan_right (under E.table t) (under E.table u) a.channels) refl) in
      record { channels = subst (λ k. AreChannels k (under F.table u)) p (subst (AreChannels (under E.table t)) q a.channels); unnamed = a.unnamed }

  pub assignable_more : {t u : Term} → Assignable E t u → Assignable G t u
  assignable_more (assign_identical e) = assign_identical e
  assignable_more {t = t} {u = u} (assign_underlying h k a) = assign_underlying (entered_more E F m t h) (entered_more E F m u k) (underlying_assigns_more h k a)
  assignable_more {t = t} {u = u} (assign_interface i) = assign_interface (implements_more t u i)
  assignable_more (assign_channel a) = assign_channel (channel_assigns_more a)

  open_same : (t : Term) → Entered E t → is_imported_open E.table t ≡ is_imported_open F.table t
  open_same t h = λ i. imported_struct (out-Term t) (under_more E F m t h i) || imported_interface (out-Term t) (under_more E F m t h i)

  underlying_converts_more : {t u : Term} → Entered E t → Entered E u → UnderlyingConverts E.table E.profile t u → UnderlyingConverts F.table F.profile t u
  underlying_converts_more {t = t} {u = u} h k a = record {
    same = ap (λ l. untagged (roll-Term l)) (sym (under_more E F m t h)) ∙ a.same ∙ ap (λ l. untagged (roll-Term l)) (under_more E F m u k);
    permitted = still_permitted E.profile F.profile (is_imported_open E.table t || is_imported_open E.table u) (is_imported_open F.table t || is_imported_open F.table u) m.profile (λ i. open_same t h i || open_same u k i) a.permitted;
  }

  pointer_converts_more : {t u : Term} → BasesEntered E (out-Term t) (out-Term u) → PointerConverts E.table E.profile t u → PointerConverts F.table F.profile t u
  pointer_converts_more {t = t} {u = u} h a =
      let k = subst (λ l. BasesEntered E (Term-F.Pointer a.base) l) a.to_is (subst (λ l. BasesEntered E l (out-Term u)) a.from_is h) in
      record { base = a.base; other = a.other; from_is = a.from_is; to_is = a.to_is; converts = underlying_converts_more k.0 k.1 a.converts }

  bases_entered : (k l : Layer) → BasesEntered E k l → BasesEntered G k l
  bases_entered (Term-F.Pointer t) (Term-F.Pointer u) h = (entered_more E F m t h.0, entered_more E F m u h.1)
  bases_entered (Term-F.Pointer t) l h = tt
  bases_entered k l h = tt

  characters_more : (l : Layer) → is_characters E.table l ≡ true → is_characters F.table l ≡ true
  characters_more (Term-F.Slice e) h = ap is_character (sym (under_more E F m e (form_entered E e (under E.table e) (character_form (under E.table e) h) refl))) ∙ h
  characters_more l h = absurd (no_truth (sym h))

  basics_more : (k l : Layer) → basics_of E.table k l ≡ true → basics_of F.table k l ≡ true
  unfolding basics_of
  basics_more k l h =
      or_right (both_basic k l || (is_text k && is_characters F.table l)) (is_characters E.table k && is_text l) (is_characters F.table k && is_text l) (and_left (is_characters E.table k) (is_characters F.table k) (is_text l) (characters_more k))
      (or_left (both_basic k l || (is_text k && is_characters E.table l)) (both_basic k l || (is_text k && is_characters F.table l)) (is_characters E.table k && is_text l)
      (or_right (both_basic k l) (is_text k && is_characters E.table l) (is_text k && is_characters F.table l) (and_right (is_text k) (is_characters E.table l) (is_characters F.table l) (characters_more l))) h)

  basics_convert_more : (t u : Term) → basics_convert E.table t u ≡ true → basics_convert F.table t u ≡ true
  unfolding basics_of
  basics_convert_more t u h =
      let p = under_more E F m t (form_entered E t (under E.table t) (left_form E.table (under E.table t) (under E.table u) h) refl) in
      let q = under_more E F m u (form_entered E u (under E.table u) (right_form E.table (under E.table t) (under E.table u) h) refl) in
      (λ i. basics_of F.table (sym p i) (sym q i)) ∙ basics_more (under E.table t) (under E.table u) h

  pub convertible_more : {t u : Term} → Convertible E t u → Convertible G t u
  convertible_more (convert_assignable a) = convert_assignable (assignable_more a)
  convertible_more {t = t} {u = u} (convert_underlying h k a) = convert_underlying (entered_more E F m t h) (entered_more E F m u k) (underlying_converts_more h k a)
  convertible_more {t = t} {u = u} (convert_pointer h a) = convert_pointer (bases_entered (out-Term t) (out-Term u) h) (pointer_converts_more h a)
  convertible_more {t = t} {u = u} (convert_basic e) = convert_basic (basics_convert_more t u e)

  -- ---- comparison

  -- a path among more entries is an old one, where each name on it had an entry
  leads_back : {t u : Term} → LeadsTo F.table t u → ((v : Term) → LeadsTo E.table t v → Entered E v) → LeadsTo E.table t u
  leads_back leads_here w = leads_here
  leads_back (leads_array {t = t} e p) w = let f = under_more E F m t (w t leads_here) ∙ e in leads_array f (leads_back p (λ v q. w v (leads_array f q)))
  leads_back (leads_struct {t = t} f e i p) w = let d = under_more E F m t (w t leads_here) ∙ e in leads_struct f d i (leads_back p (λ v q. w v (leads_struct f d i q)))

  incomparable_back : {t : Term} → LeadsToIncomparable F.table t → ((v : Term) → LeadsTo E.table t v → Entered E v) → LeadsToIncomparable E.table t
  incomparable_back (at_slice {t = t} e) w = at_slice (under_more E F m t (w t leads_here) ∙ e)
  incomparable_back (at_map {t = t} e) w = at_map (under_more E F m t (w t leads_here) ∙ e)
  incomparable_back (at_func {t = t} e) w = at_func (under_more E F m t (w t leads_here) ∙ e)
  incomparable_back (in_array {t = t} e p) w = let f = under_more E F m t (w t leads_here) ∙ e in in_array f (incomparable_back p (λ v q. w v (leads_array f q)))
  incomparable_back (in_struct {t = t} f e i p) w = let d = under_more E F m t (w t leads_here) ∙ e in in_struct f d i (incomparable_back p (λ v q. w v (leads_struct f d i q)))

  pub compares_more : {t : Term} → Compares E t → Compares G t
  compares_more c = record { comparable = λ p. c.comparable (incomparable_back p c.entered); entered = λ u p. entered_more E F m u (c.entered u (leads_back p c.entered)) }

  -- ---- use of a value

  pub usable_more : {o : Operand} {t : Term} → UsableAs E o t → UsableAs G o t
  usable_more (use_value h a) = use_value h (assignable_more a)
  usable_more (use_constant {t = t} {b = b} e r) = use_constant (form_more E F m t (Term-F.Plain b) refl e) r
  usable_more (use_truth {t = t} e) = use_truth (form_more E F m t (Term-F.Plain basic.Bool) refl e)
  usable_more (use_constant_as_any {t = t} e d) = use_constant_as_any (form_more E F m t (Term-F.Interface []) refl e) d
  usable_more (use_truth_as_any {t = t} e) = use_truth_as_any (form_more E F m t (Term-F.Interface []) refl e)
  usable_more (use_nil {t = t} e) = use_nil (ap holds_nil (form_more E F m t (under E.table t) (nil_form (under E.table t) e) refl) ∙ e)

  pub match_more : {o p : Operand} {d : ConstTerm} → Match E o p d → Match G o p d
  match_more (match_types a b) = match_types a b
  match_more (match_right a b u) = match_right a b (usable_more u)
  match_more (match_left a b u) = match_left a b (usable_more u)
  match_more (match_kinds a b h) = match_kinds a b h

  pub kind_more : {c : ConstTerm} {k : Kind} → HasKind E c k → HasKind G c k
  kind_more (kind_of_type {t = t} {b = b} e) = kind_of_type (form_more E F m t (Term-F.Plain b) refl e)
  kind_more kind_of_untyped = kind_of_untyped
