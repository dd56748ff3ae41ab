-- What scopes that keep what is had of a package keep whatever entry is had more.
use Rattle.std.proofs.Common.{◌≡◌, ℕ, Bool, true, false, List, Option, Some, None, refl, sym, ap, ◌∙◌, subst}
use Rattle.std.specs.Cmp.Lexicographic.{bytes_decides}
use Rattle.std.specs.Str.{bytes_eq}
use Rattle.go_model.specs.declared.types.names.Sel.{Sel}
use Rattle.go_model.specs.declared.types.package.Defined.{Defined}
use Rattle.go_model.specs.declared.types.term.Term.{Term}
use Rattle.go_rules.specs.Names.{Named, value_at}
use Rattle.go_rules.specs.Scopes.{Scopes}
use Rattle.go_rules.specs.declared.seen.Seen.{Seen}
use Rattle.go_typings.specs.Declarations.{declarations, Declared, declared}
use Rattle.go_typings.specs.PackageEnvironments.{as_object, Entries, Entry, object_of, own_entity, signature_of, underlying_of}
use Rattle.go_typings.specs.Receivers.{DeclaredMethod, methods}
use Rattle.go_typings.specs.Sources.{PackageSource, Setting}
use Rattle.go_package_scopes.specs.KeptScopes.{Keeps, shown, with_entry}
use Rattle.go_package_scopes.proofs.OneMoreEntry.{entity_kept, told_alike}
use Rattle.go_package_scopes.proofs.ShownMethods.{shown_same}
use Rattle.go_package_scopes.proofs.UnderlyingTypes.{of_under, shows_same, ShowsOwn, ShowsUnder, under_at, under_of, under_same}

module _ (s : Setting) (u : PackageSource) (a : Entries) (c : Scopes) (keeps : Keeps s u a c) where
  -- scopes that keep the objects and the types of more entries keep these
  pub kept : (b : Entries) (names : Named Seen) (types : Named Defined) → ((name : List ℕ) → value_at names name ≡ as_object (own_entity u b name)) → ((type : List ℕ) → ShowsOwn u b type (value_at types type))
      → Keeps s u b (record c { declared = names; defined = types })
  kept b names types denotes shows = record {
    world = keeps.world;
    path = keeps.path;
    bits = keeps.bits;
    profile = keeps.profile;
    opened = keeps.opened;
    imports = keeps.imports;
    announced = keeps.announced;
    objects = denotes;
    awaited = keeps.awaited;
    types = λ type. of_under u b type (value_at types type) (shows type);
  }

  module _ (n : ℕ) (fresh : a n ≡ None) (x : Entry) where
    abbrev b : Entries
    b = with_entry a n x

    -- an entry that is no object changes no name
    pub objects_kept : ((place : ℕ) → object_of (Some x) place ≡ None) → (name : List ℕ) → value_at c.declared name ≡ as_object (own_entity u b name)
    objects_kept none name =
        keeps.objects name
        ∙ ap as_object (entity_kept u.path a b (λ number place. told_alike a n x (λ o. object_of o place) fresh (sym (none place)) number) (declared (declarations u) name))

    -- an entry that is no signature changes no method
    pub shown_kept : signature_of (Some x) ≡ None → (ms : List DeclaredMethod) (k : Sel) → shown a ms k ≡ shown b ms k
    shown_kept none ms k = shown_same k a b ms (λ m h e. told_alike a n x signature_of fresh (sym none) m.number)

    -- an entry that is no type changes none underneath
    pub under_kept : underlying_of (Some x) ≡ None → (w : Option Declared) → under_at a w ≡ under_at b w
    under_kept none w = under_same a b w (λ v e spec f. told_alike a n x underlying_of fresh (sym none) v.number)

    -- a type that has the same underneath, and shows the same methods
    pub type_kept : (type : List ℕ) → under_at a (declared (declarations u) type) ≡ under_at b (declared (declarations u) type) → ((k : Sel) → shown a (methods u type) k ≡ shown b (methods u type) k)
        → ShowsOwn u b type (value_at c.defined type)
    type_kept type under same =
        subst (λ (o : Option Term). ShowsUnder b (methods u type) o (value_at c.defined type)) under
        (shows_same a b (methods u type) same (under_at a (declared (declarations u) type)) (value_at c.defined type) (under_of u a type (value_at c.defined type) (keeps.types type)))

-- types show what is had, where that of the name does and each other one
pub each_type : (u : PackageSource) (b : Entries) (types : Named Defined) (name : List ℕ) → ShowsOwn u b name (value_at types name) → ((type : List ℕ) → bytes_eq type name ≡ false → ShowsOwn u b type (value_at types type))
    → (type : List ℕ) → ShowsOwn u b type (value_at types type)
each_type u b types name first others type = by (bytes_eq type name) refl
  where
    by : (k : Bool) → bytes_eq type name ≡ k → ShowsOwn u b type (value_at types type)
    by true i = subst (λ (q : List ℕ). ShowsOwn u b q (value_at types q)) (sym ((bytes_decides type name).0 i)) first
    by false i = others type i
