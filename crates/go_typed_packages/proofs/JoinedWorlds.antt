-- A package that is offered over a world joins it.
use Rattle.std.proofs.Common.{◌≡◌, ◌≢◌, ◌⊎◌, ℕ, Bool, true, false, List, [], ◌∷◌, Option, Some, None, map, refl, sym, ap, ◌∙◌, subst, inl, inr}
use Rattle.std.specs.Prelude.{if◌then◌else◌}
use Rattle.std.specs.Str.{bytes_eq}
use Rattle.std.proofs.lemmas.Option.{slice_get_within}
use Rattle.std.proofs.lemmas.Slice.Eq.{bytes_eq-Decides}
use Rattle.go_base.proofs.Members.{each_has}
use Rattle.go_base.specs.Keys.{first_with, placed}
use Rattle.go_base.specs.Lists.{Each, Has}
use Rattle.go_model.proofs.MoreWorlds.{first_placed, more_world}
use Rattle.go_model.specs.declared.types.names.Sel.{Sel}
use Rattle.go_model.specs.declared.types.names.TypeName.{TypeName}
use Rattle.go_model.specs.declared.types.package.Defined.{Defined}
use Rattle.go_model.specs.declared.types.package.Package.{Package}
use Rattle.go_model.specs.types.Members.{IsWellFormed}
use Rattle.go_model.specs.types.Tables.{Table}
use Rattle.go_model.specs.types.Terms.{client_path, error_type, is_error}
use Rattle.go_model.specs.types.Underlying.{entry}
use Rattle.go_model.specs.worlds.PackageTypes.{package_members, package_names, package_selectors}
use Rattle.go_model.specs.worlds.Worlds.{IsDefined, IsOwned, IsPackage, IsWorld, Resolves, SignatureResolves, defined_in, name_of, path_of, table_of, with_package}
use Rattle.go_rules.proofs.LocalTypes.{each_made}
use Rattle.go_rules.proofs.OneKind.{no_truth}
use Rattle.go_rules.specs.Environments.{Env, is_exported}
use Rattle.go_exposed.proofs.go_soundness_proofs.DeclaredForms.{is_at, own_name}
use Rattle.go_exposed.proofs.go_soundness_proofs.WorldsApart.{world_apart}
use Rattle.go_syntax.specs.declared.declaration.TypeSpec.{TypeSpec}
use Rattle.go_typings.proofs.Cells.{none_some}
use Rattle.go_typings.proofs.SoundDeclarations.{typed_sound}
use Rattle.go_typings.specs.DeclarationRules.{Gives, gives_constants, gives_typed_variables, gives_variables, gives_alias, gives_definition, gives_function, gives_method}
use Rattle.go_typings.specs.Declarations.{Form, definition, Declaration, Declared, declarations, declared}
use Rattle.go_typings.specs.PackageEnvironments.{Entries, Entry, underlying, defined_at, defined_by, defined_with, had, own_defined, underlying_of}
use Rattle.go_typings.specs.Receivers.{methods, selector}
use Rattle.go_typings.specs.Sources.{PackageSource, Setting}
use Rattle.go_typings.specs.TypedPackages.{AreOrdered, IsTypedAs}
use Rattle.go_typings.specs.Typings.{Typing}
use Rattle.go_exposed.specs.OfferedPackages.{IsOfferedAs, IsPackageOf}
use Rattle.go_exposed.proofs.KeptTypes.{kept_type}
use Rattle.go_exposed.proofs.OneKeptSet.{sound_kept}
use Rattle.go_exposed.proofs.WholePackages.{typed_offered}
use Rattle.go_typed_packages.proofs.KeptEnvironments.{package_kept}
use Rattle.go_typed_packages.proofs.KeptPackages.{close_package, open_package, resolved_of, world_kept}
use Rattle.go_typed_packages.proofs.Lists.{absent, own_placed}
use Rattle.go_typed_packages.proofs.OwnDeclarations.{given_at}
use Rattle.go_typed_packages.proofs.Shapes.{package_shaped}
use Rattle.go_typed_packages.specs.PackageShapes.{AreResolved, HasShape, IsShaped}
use Rattle.go_typed_packages.specs.inner.KeptTypes.{HasEntry, PackageKept}

-- ---- a defined type that is kept is had

abbrev is_definition : Form → Bool
is_definition (definition c) = true
is_definition f = false

gives_underlying : {E : Env} {ds : List Declaration} {f : Form} {x : Entry} → Gives E ds f x → is_definition f ≡ true → (t : _) × (x ≡ underlying t)
gives_underlying (gives_constants a e) d = absurd (no_truth (sym d))
gives_underlying (gives_typed_variables e a) d = absurd (no_truth (sym d))
gives_underlying (gives_variables e a h) d = absurd (no_truth (sym d))
gives_underlying (gives_alias a) d = absurd (no_truth (sym d))
gives_underlying (gives_definition a e i h) d = (_, refl)
gives_underlying (gives_function a b) d = absurd (no_truth (sym d))
gives_underlying (gives_method a b) d = absurd (no_truth (sym d))

there_as : (c d : Option Defined) → AreOrdered c d → (x : Defined) → d ≡ Some x → c ≢ None
there_as None None h x e = λ q. none_some {A = Defined} None x refl e
there_as None (Some y) h x e = absurd h
there_as (Some y) d h x e = λ q. none_some (Some y) y q refl

module _ (s : Setting) (u : PackageSource) (S : ℕ → Bool) (a : Entries) (t : Typing s u S a) where
  type_had : (name : List ℕ) (w : Declared) (c : TypeSpec) → S w.number ≡ true → declared (declarations u) name ≡ Some w → w.form ≡ definition c → (d : Defined) × (own_defined u a name ≡ Some d)
  type_had name w c i e f =
      let k = is_at (declarations u) name w e in
      let g = given_at s u S a t w.number k.declaration i k.is in
      let q = gives_underlying g.2 (ap is_definition (k.form ∙ f)) in (
        record { name = name; underlying = q.0; methods = had a (methods u name) },
        ap (defined_at u a name) e
            ∙ ap (defined_by u a name w.number) f
            ∙ ap (λ x. defined_with name (had a (methods u name)) (underlying_of x)) (g.1 ∙ ap Some q.1),
      )

-- ---- tables with one more package

if_there : (b : Bool) (x : Defined) (o : Option Defined) → (b ≡ false → o ≢ None) → (if b then Some x else o) ≢ None
if_there true x o h = λ e. none_some (Some x) x e refl
if_there false x o h = h refl

else_there : (b : Bool) (x : Defined) (o : Option Defined) → b ≡ false → (if b then Some x else o) ≢ None → o ≢ None
else_there true x o e h = absurd (no_truth e)
else_there false x o e h = h

module _ (s : Setting) (u : PackageSource) (p : Package) (w : IsWorld s.world) (t : IsOfferedAs s u p) where
  abbrev x : IsPackageOf u t.entries p
  x = t.«package»

  abbrev OwnedHere : Sel → Type 0
  OwnedHere = IsOwned (p.path ∷ map path_of s.world.packages)

  own_sel : (name : List ℕ) → OwnedHere (selector u.path name)
  own_sel name = choose (is_exported name)
    where
      choose : (b : Bool) → OwnedHere (record { name = name; «package» = if b then [] else u.path })
      choose true = inl refl
      choose false = inr (inl x.path)

  old_sel : (k : Sel) → IsOwned (map path_of s.world.packages) k → OwnedHere k
  old_sel k (inl e) = inl e
  old_sel k (inr h) = inr (inr h)

  -- ---- selectors and members

  abbrev AnyName : TypeName → Type 0
  AnyName n = Unit {0}

  parts_kept : PackageKept AnyName OwnedHere p
  parts_kept = package_kept AnyName OwnedHere s u (record {
    own = own_sel;
    exported = inl refl;
    error = tt;
    imports = world_kept AnyName OwnedHere s.world w (λ n h. tt) old_sel;
    types = λ name k c e f. tt;
  }) t.within t.entries t.kept.typing p x

  pub all_owned : Each (IsOwned (p.path ∷ map path_of s.world.packages)) (package_selectors p)
  all_owned = (close_package AnyName OwnedHere p parts_kept).owned

  pub all_formed : Each IsWellFormed (package_members p)
  all_formed = (close_package AnyName OwnedHere p parts_kept).formed

  -- ---- names

  module _ (new : first_with path_of s.world.packages u.path ≡ None) where
    abbrev joined : Table
    joined = table_of (placed path_of p s.world.packages)

    new_path : Has (map path_of s.world.packages) p.path → ⊥
    new_path h = absent path_of s.world.packages u.path new (subst (Has (map path_of s.world.packages)) x.path h)

    old_there : (n : TypeName) → table_of s.world.packages n ≢ None → joined n ≢ None
    old_there n h = by (bytes_eq p.path n.path) refl
      where
        by : (b : Bool) → bytes_eq p.path n.path ≡ b → joined n ≢ None
        by true e = absurd (h (ap (λ k. defined_in (first_with path_of s.world.packages k) n.name) (sym ((bytes_eq-Decides p.path n.path).0 e) ∙ x.path) ∙ ap (λ o. defined_in o n.name) new))
        by false e = λ q. h (ap (λ o. defined_in o n.name) (sym (first_placed path_of p s.world.packages n.path e)) ∙ q)

    old_entry : (n : TypeName) → entry (table_of s.world.packages) n ≢ None → HasEntry joined n
    old_entry n h = if_there (is_error n) error_type (joined n) (λ e. old_there n (else_there (is_error n) error_type (table_of s.world.packages n) e h))

    -- a name of a type that the package defines
    abbrev IsOwn : TypeName → Type 0
    IsOwn n = (v : Declared) × (c : TypeSpec) × (n.path ≡ u.path) × (declared (declarations u) n.name ≡ Some v) × (v.form ≡ definition c)

    own_there : (n : TypeName) (i : IsOwn n) → t.within i.0.number ≡ true → HasEntry joined n
    own_there n i k =
        let d = type_had s u t.within t.entries t.kept.typing n.name i.0 i.1 k i.3 i.4 in
        let h : first_with name_of p.defined n.name ≢ None = there_as (first_with name_of p.defined n.name) (own_defined u t.entries n.name) (x.defined n.name) d.0 d.1 in
        let found : joined n ≡ first_with name_of p.defined n.name =
        ap (λ z. defined_in (first_with path_of (placed path_of p s.world.packages) z) n.name) (i.2 ∙ sym x.path)
        ∙ ap (λ o. defined_in o n.name) (own_placed path_of p s.world.packages new_path) in
        if_there (is_error n) error_type (joined n) (λ b q. h (sym found ∙ q))

    -- a name of such a type, or one that has an entry
    abbrev IsOwnOrHad : TypeName → Type 0
    IsOwnOrHad n = IsOwn n ⊎ HasEntry joined n

    names_kept : PackageKept IsOwnOrHad OwnedHere p
    names_kept = package_kept IsOwnOrHad OwnedHere s u (record {
      own = own_sel;
      exported = inl refl;
      error = inr (λ e. none_some (Some error_type) error_type e refl);
      imports = world_kept IsOwnOrHad OwnedHere s.world w (λ n h. inr (old_entry n h)) old_sel;
      types = λ name k c e f. inl (k, c, refl, ap (declared (declarations u)) (own_name (declarations u) name k c e f) ∙ e, f);
    }) t.within t.entries t.kept.typing p x

    -- where the types of the package in its types are kept, each name has an entry
    module _ (kept : (n : TypeName) → Has (package_names p) n → (i : IsOwn n) → t.within i.0.number ≡ true) where
      named : (n : TypeName) → Has (package_names p) n → IsOwnOrHad n → HasEntry joined n
      named n h (inl i) = own_there n i (kept n h i)
      named n h (inr k) = k

      pub all_resolved : AreResolved joined p
      all_resolved =
          let k = close_package IsOwnOrHad OwnedHere p names_kept in
          resolved_of joined OwnedHere p (open_package (HasEntry joined) OwnedHere p (record {
            named = each_made (package_names p) (λ n h. named n h (each_has IsOwnOrHad (package_names p) n k.named h));
            owned = k.owned;
            formed = k.formed;
          }))

      -- ---- the package among the others

      shapes_joined : (ds : List Defined) → Each IsShaped ds → Each (λ d. Resolves joined d.underlying) ds → Each (λ d. Each (λ m. SignatureResolves joined m.signature) d.methods) ds → Each (IsDefined joined) ds
      shapes_joined [] h k l = tt
      shapes_joined (d ∷ ds) h k l = (
        record { resolved = k.0; signatures = l.0; structured = h.0.structured; methods = h.0.methods; bare = h.0.bare; apart = h.0.apart },
        shapes_joined ds h.1 k.1 l.1,
      )

      pub joins : u.path ≢ [] → u.path ≢ client_path → (public : Bool) → IsWorld (with_package s.world p public)
      joins some foreign public =
          let shape : HasShape p = package_shaped s u p t in
          let packaged : IsPackage joined p = record {
            pathed = λ e. some (sym x.path ∙ e);
            foreign = λ e. foreign (sym x.path ∙ e);
            objects = shape.objects;
            defined = shape.defined;
            entities = all_resolved.entities;
            types = shapes_joined p.defined shape.types all_resolved.underlying all_resolved.signatures;
            declared = shape.declared;
            formed = all_formed;
          } in
          more_world s.world p w new_path public packaged all_owned

-- the types of a package that are left out don't stand in its types
offered_names : (s : Setting) (u : PackageSource) (p : Package) (w : IsWorld s.world) (t : IsOfferedAs s u p) (new : first_with path_of s.world.packages u.path ≡ None) → u.path ≢ []
    → (n : TypeName) → Has (package_names p) n → (i : IsOwn s u p w t new n) → t.within i.0.number ≡ true
offered_names s u p w t new some n h i = kept_type s u (world_apart s u w some new) p t n i.0 h i.2 i.3

pub offered_resolved : (s : Setting) (u : PackageSource) (p : Package) → IsWorld s.world → IsOfferedAs s u p → (new : first_with path_of s.world.packages u.path ≡ None) → u.path ≢ [] → AreResolved (table_of (placed path_of p s.world.packages)) p
offered_resolved s u p w t new some = all_resolved s u p w t new (offered_names s u p w t new some)

pub offered_joins : (s : Setting) (u : PackageSource) (p : Package) → IsWorld s.world → IsOfferedAs s u p → first_with path_of s.world.packages u.path ≡ None → u.path ≢ [] → u.path ≢ client_path → (public : Bool) → IsWorld (with_package s.world p public)
offered_joins s u p w t new some foreign public = joins s u p w t new (offered_names s u p w t new some) some foreign public

-- all of a package that is typed whole is kept
typed_kept : (s : Setting) (u : PackageSource) (p : Package) (t : IsTypedAs s u p) (name : List ℕ) (w : Declared) → declared (declarations u) name ≡ Some w → (typed_offered s u p t).within w.number ≡ true
typed_kept s u p t name w e =
    let k = is_at (declarations u) name w e in
    let l = slice_get_within (declarations u) w.number k.declaration k.is in
    let o = typed_offered s u p t in
    sound_kept s u o.within o.entries o.kept w.number l (typed_sound s u t.entries t.typing w.number l)

pub typed_resolved : (s : Setting) (u : PackageSource) (p : Package) → IsWorld s.world → IsTypedAs s u p → first_with path_of s.world.packages u.path ≡ None → AreResolved (table_of (placed path_of p s.world.packages)) p
typed_resolved s u p w t new = all_resolved s u p w (typed_offered s u p t) new (λ n h i. typed_kept s u p t n.name i.0 i.3)
