-- Assigning beside entries, from assigning over a table.
use Rattle.std.proofs.Common.{◌≡◌, ◌↔◌, ◌&&◌, ◌||◌, Bool, IsTrue, true, false, inl, inr, List, Option, Some, None, refl, sym, ap, ◌∙◌, subst}
use mathlib.Core.Bool.{true≢false}
use Rattle.go_model.specs.declared.types.package.Defined.{Defined}
use Rattle.go_model.specs.declared.types.term.Direction.TheVariants as towards
use Rattle.go_model.specs.declared.types.term.Method.{Method, out-Method}
use Rattle.go_model.specs.declared.types.term.Term.{Term, Term-F, out-Term}
use Rattle.go_model.specs.types.Assignability.{AreChannels, ChannelAssigns}
use Rattle.go_model.specs.types.Assignability.{Assignable as TableAssigns, assign_identical as table_identical, assign_underlying as table_underlying, assign_interface as table_interface, assign_channel as table_channel}
use Rattle.go_model.specs.types.Imports.{is_imported_struct, imported_struct}
use Rattle.go_model.specs.types.MethodSets.{Implements as TableImplements}
use Rattle.go_model.specs.types.Terms.{Layer}
use Rattle.go_model.specs.types.Underlying.{entry, under, under_entry, under_layer}
use Rattle.go_rules.specs.Environments.{Env, Entered, EnteredLayer}
use Rattle.go_rules.specs.Usability.{Implements, Assignable, assign_identical, assign_underlying, assign_interface, assign_channel}
use Rattle.go_types.specs.go_selectors.Answers.{Decides}
use Rattle.go_usability.proofs.Finds.{in_set}
use Rattle.go_usability.specs.inner.Alternatives.{is_interface, SameUnnamed, AssignsBeneath}

pub denied : {P : Type 0} (b : Bool) → b ≡ false → (IsTrue b ↔ P) → P → ⊥
denied b f i p = true≢false (sym (i.1 p) ∙ f)

pub granted : {P : Type 0} (b : Bool) → b ≡ true → Decides b P → P
granted {P} b f d = subst (λ b. Decides b P) f d

pub refused : {P : Type 0} (b : Bool) → b ≡ false → Decides b P → P → ⊥
refused {P} b f d = subst (λ b. Decides b P) f d

-- ---- levels

abbrev pub is_name : Layer → Bool
is_name (Term-F.Named n) = true
is_name l = false

pub an_interface : (l : Layer) (ms : List Method) → l ≡ Term-F.Interface ms → is_interface l ≡ true
an_interface l ms e = ap is_interface e

pub interface_of : (l : Layer) → is_interface l ≡ true → (ms : List Method) × (l ≡ Term-F.Interface ms)
interface_of (Term-F.Interface ms) e = (ms, refl)
interface_of l e = absurd (true≢false (sym e))

-- a form underneath that is no name has its entry
pub form_entered : (E : Env) (l : Layer) → is_name (under_layer E.table l) ≡ false → EnteredLayer E l
form_entered E (Term-F.Named n) e = by (entry E.table n) refl
  where
    by : (o : Option Defined) → entry E.table n ≡ o → EnteredLayer E (Term-F.Named n)
    by (Some d) i = (d, i)
    by None i = absurd (true≢false (sym (ap (λ (x : Option Defined). is_name (under_entry n x)) i) ∙ e))
form_entered E (Term-F.Plain b) e = tt
form_entered E (Term-F.Pointer b) e = tt
form_entered E (Term-F.Slice b) e = tt
form_entered E (Term-F.Array k b) e = tt
form_entered E (Term-F.Map k b) e = tt
form_entered E (Term-F.Chan d b) e = tt
form_entered E (Term-F.Func g) e = tt
form_entered E (Term-F.Struct fs) e = tt
form_entered E (Term-F.Interface ms) e = tt

pub form_enters : (E : Env) (t : Term) → is_name (under E.table t) ≡ false → Entered E t
form_enters E t e = form_entered E (out-Term t) e

-- channels are no names and no interfaces
pub channel_from : (k l : Layer) → AreChannels k l → is_name k ≡ false
channel_from (Term-F.Named n) l c = absurd c
channel_from k l c = refl

pub channel_to : (k l : Layer) → AreChannels k l → (is_name l ≡ false) × (is_interface l ≡ false)
channel_to (Term-F.Chan towards.Both e) (Term-F.Chan d f) c = (refl, refl)
channel_to k l c = absurd c

no_struct : (l : Layer) (ms : List Method) → imported_struct l (Term-F.Interface ms) ≡ false
no_struct (Term-F.Named n) ms = refl
no_struct l ms = refl

module _ (E : Env) (from to : Term) where
  -- the channels of both have their entries
  pub channel_entered : ChannelAssigns E.table from to → Entered E from × Entered E to
  channel_entered c = (
    form_enters E from (channel_from (under E.table from) (under E.table to) c.channels),
    form_enters E to (channel_to (under E.table from) (under E.table to) c.channels).0,
  )

  -- over the table it is assignable too
  pub implements_table : Implements E from to → TableImplements E.table from to
  implements_table (ms, e, each) = (ms, e, λ m h. in_set E from (out-Method m).sel (out-Method m).signature (each m h))

  pub assigns_table : Assignable E from to → TableAssigns E.table E.profile from to
  assigns_table (assign_identical e) = table_identical e
  assigns_table (assign_underlying a b u) = table_underlying u
  assigns_table (assign_interface i) = table_interface (implements_table i)
  assigns_table (assign_channel c) = table_channel c

  -- where an interface is underneath the target
  pub beneath_interface : (answer : Bool) → is_interface (under E.table to) ≡ true → Decides answer (SameUnnamed E from to) → AssignsBeneath E from to answer
  beneath_interface true i d = inr (inl (record { same = d.0; unnamed = d.1; permitted = by E.profile }))
    where
      ms : (ms : List Method) × (under E.table to ≡ Term-F.Interface ms)
      ms = interface_of (under E.table to) i

      from_none : is_imported_struct E.table from ≡ false
      from_none = ap (imported_struct (out-Term from)) (d.0 ∙ ms.1) ∙ no_struct (out-Term from) ms.0

      to_none : is_imported_struct E.table to ≡ false
      to_none = ap (imported_struct (out-Term to)) ms.1 ∙ no_struct (out-Term to) ms.0

      none : (is_imported_struct E.table from || is_imported_struct E.table to) ≡ false
      none = ap (λ b. b || is_imported_struct E.table to) from_none ∙ to_none

      by : (profile : Bool) → (profile && (is_imported_struct E.table from || is_imported_struct E.table to)) ≡ false
      by true = none
      by false = refl
  beneath_interface false i d = (λ u. d (u.same, u.unnamed), λ c. true≢false (sym i ∙ (channel_to (under E.table from) (under E.table to) c.channels).1))

  -- where none is
  pub beneath_other : (answer : Bool) → is_interface (under E.table to) ≡ false → Decides answer (TableAssigns E.table E.profile from to) → AssignsBeneath E from to answer
  beneath_other true i (table_identical e) = inl e
  beneath_other true i (table_underlying u) = inr (inl u)
  beneath_other true i (table_interface (ms, e, h)) = absurd (true≢false (sym (an_interface (under E.table to) ms e) ∙ i))
  beneath_other true i (table_channel c) = inr (inr c)
  beneath_other false i d = (λ u. d (table_underlying u), λ c. d (table_channel c))

  -- once each case was tried
  pub assigned : (answer : Bool) → (from ≡ to → ⊥) → (Implements E from to → ⊥) → Entered E from → Entered E to → AssignsBeneath E from to answer → Decides answer (Assignable E from to)
  assigned true a b f t (inl e) = assign_identical e
  assigned true a b f t (inr (inl u)) = assign_underlying f t u
  assigned true a b f t (inr (inr c)) = assign_channel c
  assigned false a b f t d = none
    where
      none : Assignable E from to → ⊥
      none (assign_identical x) = a x
      none (assign_underlying x y u) = d.0 u
      none (assign_interface x) = b x
      none (assign_channel x) = d.1 x

  -- one has no entry
  pub unentered : (from ≡ to → ⊥) → (Implements E from to → ⊥) → (Entered E from × Entered E to → ⊥) → Assignable E from to → ⊥
  unentered a b c (assign_identical x) = a x
  unentered a b c (assign_underlying x y u) = c (x, y)
  unentered a b c (assign_interface x) = b x
  unentered a b c (assign_channel x) = c (channel_entered x)
