-- Scopes keep what is had once the type underneath a defined type is.
use Rattle.std.proofs.Common.{◌≡◌, ℕ, nat_eq, Bool, true, false, List, Option, Some, None, refl, sym, ap, ◌∙◌, subst}
use Rattle.std.specs.Prelude.{slice_get}
use Rattle.std.specs.Cmp.Lexicographic.{bytes_decides}
use Rattle.std.specs.Str.{bytes_eq}
use mathlib.Core.Bool.{true≢false}
use Rattle.go_model.specs.declared.types.package.Defined.{Defined}
use Rattle.go_model.specs.declared.types.term.Term.{Term}
use Rattle.go_rules.specs.Names.{Named, value_at, with_value}
use Rattle.go_rules.specs.Scopes.{Scopes}
use Rattle.go_syntax.specs.declared.declaration.TypeSpec.{TypeSpec}
use Rattle.go_typings.specs.Declarations.{Declaration, declarations, Declared, declared, definition}
use Rattle.go_typings.specs.PackageEnvironments.{Entries, underlying, underlying_of}
use Rattle.go_typings.specs.Receivers.{methods}
use Rattle.go_typings.specs.Sources.{PackageSource, Setting}
use Rattle.go_package_scopes.specs.KeptScopes.{IsFirstOf, Keeps, ShowsType, with_entry}
use Rattle.go_package_scopes.proofs.DeclaredNames.{form_of, own_name}
use Rattle.go_package_scopes.proofs.KeptScopes.{each_type, kept, objects_kept, shown_kept, type_kept}
use Rattle.go_package_scopes.proofs.OneMoreEntry.{entry_elsewhere, entry_here, itself, same_number}
use Rattle.go_package_scopes.proofs.Tables.{put_elsewhere, put_here}
use Rattle.go_package_scopes.proofs.UnderlyingTypes.{ShowsOwn, ShowsUnder, under_at, under_definition, under_same}

module _ (s : Setting) (u : PackageSource) (a : Entries) (c : Scopes) (n : ℕ) (d : Declaration) (spec : TypeSpec) (t : Term) where
  abbrev ds : List Declaration
  ds = declarations u

  abbrev name : List ℕ
  name = spec.name.text

  abbrev b : Entries
  b = with_entry a n (underlying t)

  module _ (keeps : Keeps s u a c) (fresh : a n ≡ None) (at : slice_get ds n ≡ Some d) (form : d.form ≡ definition spec) where
    -- a type that the declaration doesn't declare
    other_type : (type : List ℕ) → ((v : Declared) → declared ds type ≡ Some v → v.number ≡ n → ⊥) → ShowsOwn u b type (value_at c.defined type)
    other_type type not =
        type_kept s u a c keeps n fresh (underlying t) type
        (under_same a b (declared ds type) (λ v e other f. by v e (nat_eq v.number n) refl))
        (shown_kept s u a c keeps n fresh (underlying t) refl (methods u type))
      where
        by : (v : Declared) → declared ds type ≡ Some v → (k : Bool) → nat_eq v.number n ≡ k → underlying_of (a v.number) ≡ underlying_of (b v.number)
        by v e true i = absurd (not v e (same_number v.number n i))
        by v e false i = sym (ap underlying_of (entry_elsewhere a n (underlying t) v.number i))

    own : (type : List ℕ) (v : Declared) → declared ds type ≡ Some v → v.number ≡ n → name ≡ type
    own type v e same = own_name ds type v spec e (form_of ds type v n d e same at ∙ form)

    -- the type that it declares has this underneath
    here : (v : Declared) → declared ds name ≡ Some v → v.number ≡ n → under_at b (declared ds name) ≡ Some t
    here v e same =
        ap (under_at b) e ∙ under_definition b v spec (form_of ds name v n d e same at ∙ form)
        ∙ ap (λ (k : ℕ). underlying_of (b k)) same ∙ ap underlying_of (entry_here a n (underlying t) n (itself n))

    pub type_more : (e : Defined) → IsFirstOf ds n name → ShowsType b (methods u name) t e → Keeps s u b (record c { defined = with_value c.defined name e })
    type_more e first shows =
        kept s u a c keeps b c.declared types (objects_kept s u a c keeps n fresh (underlying t) (λ place. refl)) (each_type u b types name declared_here elsewhere)
      where
        types : Named Defined
        types = with_value c.defined name e

        declared_here : ShowsOwn u b name (value_at types name)
        declared_here =
            subst (λ (o : Option Term). ShowsUnder b (methods u name) o (value_at types name)) (sym (here first.0 first.1 first.2))
            (subst (λ (o : Option Defined). ShowsUnder b (methods u name) (Some t) o) (sym (put_here name e c.defined)) shows)

        elsewhere : (type : List ℕ) → bytes_eq type name ≡ false → ShowsOwn u b type (value_at types type)
        elsewhere type i =
            subst (ShowsOwn u b type) (sym (put_elsewhere name e c.defined type i))
            (other_type type (λ v f same. true≢false (sym ((bytes_decides type name).1 (sym (own type v f same))) ∙ i)))

    pub type_elsewhere : (IsFirstOf ds n name → ⊥) → Keeps s u b c
    type_elsewhere not =
        kept s u a c keeps b c.declared c.defined (objects_kept s u a c keeps n fresh (underlying t) (λ place. refl))
        (λ type. other_type type (λ v e same. not (v, ap (declared ds) (own type v e same) ∙ e, same)))
