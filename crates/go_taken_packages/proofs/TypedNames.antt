-- The names in the types of a package that is offered are its own, or of packages that it reaches.
use Rattle.std.proofs.Common.{◌≡◌, ℕ, zero, suc, Bool, true, false, ◌||◌, List, [], ◌∷◌, Option, Some, None, refl, sym, ap, ◌∙◌, subst}
use Rattle.std.specs.Prelude.{slice_get}
use Rattle.go_base.specs.Gathered.{gather}
use Rattle.go_base.specs.Lists.{Each, Has, Passes}
use Rattle.go_model.specs.declared.types.package.ConstTerm.TheVariants as constant
use Rattle.go_model.specs.declared.types.package.Defined.{Defined}
use Rattle.go_model.specs.declared.types.package.Entity.{Entity}
use Rattle.go_model.specs.declared.types.package.Entity.TheVariants as entity
use Rattle.go_model.specs.declared.types.package.MethodOf.{MethodOf}
use Rattle.go_model.specs.declared.types.package.Object.{Object}
use Rattle.go_model.specs.declared.types.package.Package.{Package}
use Rattle.go_model.specs.declared.types.term.Term.{Term-F}
use Rattle.go_model.specs.types.TypeNames.{names, signature_names}
use Rattle.go_model.specs.worlds.PackageTypes.{defined_names, object_names, of_entity, package_names}
use Rattle.go_model.specs.worlds.Worlds.{object_name}
use Rattle.go_rules.proofs.LocalTerms.{close_in, each_passes, passes_both}
use Rattle.go_rules.proofs.LocalTypes.{each_made}
use Rattle.go_rules.specs.Regions.{EntityIn, Region, SignatureIn, TermIn}
use Rattle.go_rules.specs.Scopes.{entity_of}
use Rattle.go_exposed.specs.OfferedPackages.{IsOfferedAs, IsPackageOf}
use Rattle.go_typed_packages.proofs.OwnDeclarations.{had_as, kept_denotes, own_type_of}
use Rattle.go_typed_packages.proofs.Shapes.{type_of}
use Rattle.go_typings.proofs.Cells.{none_some, some_once}
use Rattle.go_typings.proofs.GrowEnvironments.{object_back}
use Rattle.go_typings.proofs.OnePackage.{found, in_order}
use Rattle.go_typings.proofs.ReachedRegion.{EntriesIn, own_path, region}
use Rattle.go_typings.proofs.SameImports.{entries_in}
use Rattle.go_typings.specs.Declarations.{Form, constants, variables, alias, definition, function, method, Declared, declarations, declared}
use Rattle.go_typings.specs.PackageEnvironments.{Entries, objects, underlying, signed, entity_at, entity_by, had, object_of, own_type}
use Rattle.go_typings.specs.ReachedPackages.{AreReached, HoldImports, is_reached}
use Rattle.go_typings.specs.Receivers.{methods}
use Rattle.go_typings.specs.Sources.{PackageSource, Setting}

or_left : (a b : Bool) → a ≡ true → (a || b) ≡ true
or_left true b e = refl
or_left false b e = let g : false ≡ true = e in absurd (cc)

module _ (u : PackageSource) (reached : List ℕ → Bool) where
  abbrev R : Region
  R = region u reached

  -- the names in what a name denotes
  entity_names : (x : Entity) → EntityIn R x → Passes R.types (of_entity names signature_names x)
  entity_names (entity.Const (constant.OfTerm t) v) h = h
  entity_names (entity.Const (constant.OfKind k) v) h = tt
  entity_names (entity.Var t) h = h
  entity_names (entity.Function g) h = h
  entity_names (entity.TypeOf t) h = h

  own_type_in : (name : List ℕ) → TermIn R (own_type u.path name)
  own_type_in name = close_in R (Term-F.Named (record { path = u.path; name = name })) (or_left _ (is_reached reached (record { path = u.path; name = name })) (own_path u.path), tt)

  module _ (b : Entries) (h : EntriesIn R b) where
    object_of_in : (n place : ℕ) (x : Entity) → object_of (b n) place ≡ Some x → EntityIn R x
    object_of_in n place x e = let q = object_back (b n) place x e in at_in q.0 place q.2 (h n (objects q.0) q.1)
      where
        at_in : (xs : List Entity) (k : ℕ) → slice_get xs k ≡ Some x → Each (EntityIn R) xs → EntityIn R x
        at_in [] k f i = none_some (slice_get [] k) x refl f
        at_in (y ∷ ys) zero f i = subst (EntityIn R) (some_once y x f) i.0
        at_in (y ∷ ys) (suc k) f i = at_in ys k f i.1

    entity_by_in : (n place : ℕ) (f : Form) (x : Entity) → entity_by u.path b n place f ≡ Some x → EntityIn R x
    entity_by_in n place (constants c at) x e = object_of_in n place x e
    entity_by_in n place (variables c) x e = object_of_in n place x e
    entity_by_in n place (alias c) x e = object_of_in n place x e
    entity_by_in n place (definition c) x e = subst (EntityIn R) (some_once (entity.TypeOf (own_type u.path c.name.text)) x e) (own_type_in c.name.text)
    entity_by_in n place (function f) x e = object_of_in n place x e
    entity_by_in n place (method m f) x e = object_of_in n place x e

    entity_at_in : (c : Option Declared) (x : Entity) → entity_at u.path b c ≡ Some x → EntityIn R x
    entity_at_in None x e = none_some (entity_at u.path b None) x refl e
    entity_at_in (Some w) x e = entity_by_in w.number w.place w.form x e

    module _ (p : Package) (x : IsPackageOf u b p) where
      object_in : (o : Object) → Has p.objects o → Passes R.types (object_names o)
      object_in o k =
          let e = sym (x.objects o.name) ∙ ap entity_of (found object_name p.objects o (in_order object_name p.objects x.objects_ordered) k) in
          entity_names o.entity (entity_at_in (declared (declarations u) o.name) o.entity (kept_denotes u.path b (declared (declarations u) o.name) o.entity e))

      method_in : (name : List ℕ) (m : MethodOf) → Has (had b (methods u name)) m → SignatureIn R m.signature
      method_in name m k = let q = had_as b (methods u name) m k in h q.declares.number (signed m.signature) q.entry

      defined_in : (d : Defined) → Has p.defined d → Passes R.types (defined_names d)
      defined_in d k =
          let t = type_of u b p x d k in
          let o = own_type_of u b d.name t.had_type t.is in
          let beneath : TermIn R d.underlying = subst (TermIn R) (sym (t.same.underlying ∙ ap (λ (z : Defined). z.underlying) o.made)) (h o.at.number (underlying o.beneath) o.entry) in
          let own = λ (m : MethodOf) (i : Has d.methods m). method_in d.name m (subst (λ (z : Defined). Has z.methods m) o.made ((t.same.same m).0 i)) in
          passes_both R.types (names d.underlying) (gather (λ m. signature_names m.signature) d.methods) beneath (each_passes R.types (λ (m : MethodOf). signature_names m.signature) d.methods (each_made d.methods own))

      names_in : Passes R.types (package_names p)
      names_in = passes_both R.types (gather object_names p.objects) (gather defined_names p.defined) (each_passes R.types object_names p.objects (each_made p.objects object_in)) (each_passes R.types defined_names p.defined (each_made p.defined defined_in))

-- a name in the types of a package that is offered is one of its own types, or of what it reaches
pub typed_names : (s : Setting) (u : PackageSource) (reached : List ℕ → Bool) (p : Package) → AreReached s.world u reached → HoldImports u reached → IsOfferedAs s u p → Passes (region u reached).types (package_names p)
typed_names s u reached p r all t =
    let inside = entries_in u s s (record { reached = reached; are = r; same = λ path i. refl; bits = refl; profile = refl }) all t.within t.entries t.kept.typing.had in
    names_in u reached t.entries inside p t.«package»
