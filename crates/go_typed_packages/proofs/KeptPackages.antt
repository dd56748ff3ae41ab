-- What is kept of a package is kept of all names, selectors and members in its types, and the other way round.
use Rattle.std.proofs.Common.{◌≡◌, ◌≢◌, ℕ, List, [], ◌∷◌, Some, None, map, sym}
use Rattle.go_base.proofs.Members.{each_has}
use Rattle.go_base.proofs.Ordered.{each_first}
use Rattle.go_base.specs.Gathered.{gather}
use Rattle.go_base.specs.Keys.{first_with}
use Rattle.go_base.specs.Lists.{Each, Has}
use Rattle.go_model.specs.declared.types.names.Sel.{Sel}
use Rattle.go_model.specs.declared.types.names.TypeName.{TypeName}
use Rattle.go_model.specs.declared.types.package.ConstTerm.TheVariants as constant
use Rattle.go_model.specs.declared.types.package.Defined.{Defined}
use Rattle.go_model.specs.declared.types.package.Entity.{Entity}
use Rattle.go_model.specs.declared.types.package.Entity.TheVariants as entity
use Rattle.go_model.specs.declared.types.package.MethodOf.{MethodOf}
use Rattle.go_model.specs.declared.types.package.Object.{Object}
use Rattle.go_model.specs.declared.types.package.Package.{Package}
use Rattle.go_model.specs.types.Members.{members, signature_members}
use Rattle.go_model.specs.types.Tables.{Table}
use Rattle.go_model.specs.types.TypeNames.{names, signature_names}
use Rattle.go_model.specs.types.TypeSelectors.{selectors, signature_selectors}
use Rattle.go_model.specs.types.Underlying.{entry}
use Rattle.go_model.specs.worlds.PackageTypes.{declared_selectors, defined_members, defined_names, defined_selectors, object_members, object_names, object_selectors, of_entity, package_members, package_names, package_selectors}
use Rattle.go_model.specs.worlds.Worlds.{EntityResolves, IsDefined, IsOwned, IsPackage, IsWorld, Packages, SignatureResolves, path_of, table_of}
use Rattle.go_rules.proofs.LocalParts.{each_both}
use Rattle.go_rules.proofs.LocalTypes.{each_made}
use Rattle.go_typings.proofs.ReachedRegion.{first_has}
use Rattle.go_typed_packages.proofs.KeptTerms.{kept_behind, kept_both, kept_front, kept_none}
use Rattle.go_typed_packages.proofs.Lists.{each_as, each_gathered, each_given}
use Rattle.go_typed_packages.specs.PackageShapes.{AreResolved}
use Rattle.go_typed_packages.specs.inner.KeptTypes.{DeclaredKept, DefinedKept, EntityKept, HasEntry, Kept, PackageKept}

abbrev method_names_of : MethodOf → List TypeName
method_names_of m = signature_names m.signature

abbrev EntityParts : (TypeName → Type 0) → (Sel → Type 0) → Entity → Type 0
EntityParts N S x = Kept N S (of_entity names signature_names x) (of_entity selectors signature_selectors x) (of_entity members signature_members x)

module _ (N : TypeName → Type 0) (S : Sel → Type 0) where
  -- ---- from the parts

  open_entity : (x : Entity) → EntityParts N S x → EntityKept N S x
  open_entity (entity.Const (constant.OfTerm t) v) h = h
  open_entity (entity.Const (constant.OfKind k) v) h = tt
  open_entity (entity.Var t) h = h
  open_entity (entity.Function g) h = h
  open_entity (entity.TypeOf t) h = h

  open_objects : (os : List Object) → Kept N S (gather object_names os) (gather object_selectors os) (gather object_members os) → Each (λ o. EntityKept N S o.entity) os
  open_objects [] h = tt
  open_objects (o ∷ os) h = (
    open_entity o.entity (kept_front N S (object_names o) (gather object_names os) (object_selectors o) (gather object_selectors os) (object_members o) (gather object_members os) h),
    open_objects os (kept_behind N S (object_names o) (gather object_names os) (object_selectors o) (gather object_selectors os) (object_members o) (gather object_members os) h),
  )

  open_methods : (ms : List MethodOf) → Kept N S (gather (λ m. signature_names m.signature) ms) (gather declared_selectors ms) (gather (λ m. signature_members m.signature) ms) → Each (DeclaredKept N S) ms
  open_methods [] h = tt
  open_methods (m ∷ ms) h =
      let ns = gather (λ (x : MethodOf). signature_names x.signature) ms in let xs = gather (λ (x : MethodOf). signature_members x.signature) ms in
      let f = kept_front N S (signature_names m.signature) ns (declared_selectors m) (gather declared_selectors ms) (signature_members m.signature) xs h in (
        record { sel = f.owned.0; signature = record { named = f.named; owned = f.owned.1; formed = f.formed } },
        open_methods ms (kept_behind N S (signature_names m.signature) ns (declared_selectors m) (gather declared_selectors ms) (signature_members m.signature) xs h),
      )

  open_defined : (d : Defined) → Kept N S (defined_names d) (defined_selectors d) (defined_members d) → DefinedKept N S d
  open_defined d h =
      let ns = gather (λ (m : MethodOf). signature_names m.signature) d.methods in let xs = gather (λ (m : MethodOf). signature_members m.signature) d.methods in record {
        beneath = kept_front N S (names d.underlying) ns (selectors d.underlying) (gather declared_selectors d.methods) (members d.underlying) xs h;
        methods = open_methods d.methods (kept_behind N S (names d.underlying) ns (selectors d.underlying) (gather declared_selectors d.methods) (members d.underlying) xs h);
      }

  open_types : (ds : List Defined) → Kept N S (gather defined_names ds) (gather defined_selectors ds) (gather defined_members ds) → Each (DefinedKept N S) ds
  open_types [] h = tt
  open_types (d ∷ ds) h = (
    open_defined d (kept_front N S (defined_names d) (gather defined_names ds) (defined_selectors d) (gather defined_selectors ds) (defined_members d) (gather defined_members ds) h),
    open_types ds (kept_behind N S (defined_names d) (gather defined_names ds) (defined_selectors d) (gather defined_selectors ds) (defined_members d) (gather defined_members ds) h),
  )

  pub open_package : (p : Package) → Kept N S (package_names p) (package_selectors p) (package_members p) → PackageKept N S p
  open_package p h =
      let ns = gather object_names p.objects in let ss = gather object_selectors p.objects in let ms = gather object_members p.objects in
      let os = gather defined_names p.defined in let ts = gather defined_selectors p.defined in let xs = gather defined_members p.defined in record {
        entities = open_objects p.objects (kept_front N S ns os ss ts ms xs h);
        types = open_types p.defined (kept_behind N S ns os ss ts ms xs h);
      }

  -- ---- to the parts

  close_entity : (x : Entity) → EntityKept N S x → EntityParts N S x
  close_entity (entity.Const (constant.OfTerm t) v) h = h
  close_entity (entity.Const (constant.OfKind k) v) h = kept_none N S
  close_entity (entity.Var t) h = h
  close_entity (entity.Function g) h = h
  close_entity (entity.TypeOf t) h = h

  close_objects : (os : List Object) → Each (λ o. EntityKept N S o.entity) os → Kept N S (gather object_names os) (gather object_selectors os) (gather object_members os)
  close_objects [] h = kept_none N S
  close_objects (o ∷ os) h = kept_both N S (close_entity o.entity h.0) (close_objects os h.1)

  close_methods : (ms : List MethodOf) → Each (DeclaredKept N S) ms → Kept N S (gather (λ m. signature_names m.signature) ms) (gather declared_selectors ms) (gather (λ m. signature_members m.signature) ms)
  close_methods [] h = kept_none N S
  close_methods (m ∷ ms) h =
      let f : Kept N S (signature_names m.signature) (declared_selectors m) (signature_members m.signature) = record { named = h.0.signature.named; owned = (h.0.sel, h.0.signature.owned); formed = h.0.signature.formed } in
      kept_both N S f (close_methods ms h.1)

  close_types : (ds : List Defined) → Each (DefinedKept N S) ds → Kept N S (gather defined_names ds) (gather defined_selectors ds) (gather defined_members ds)
  close_types [] h = kept_none N S
  close_types (d ∷ ds) h = kept_both N S (kept_both N S h.0.beneath (close_methods d.methods h.0.methods)) (close_types ds h.1)

  pub close_package : (p : Package) → PackageKept N S p → Kept N S (package_names p) (package_selectors p) (package_members p)
  close_package p h = kept_both N S (close_objects p.objects h.entities) (close_types p.defined h.types)

  -- ---- the packages of a world

  module _ (T : Table) (more : (n : TypeName) → entry T n ≢ None → N n) where
    entity_named : (x : Entity) → EntityResolves T x → Each N (of_entity names signature_names x)
    entity_named (entity.Const (constant.OfTerm t) v) h = each_made (names t) (λ n k. more n (h n k))
    entity_named (entity.Const (constant.OfKind c) v) h = tt
    entity_named (entity.Var t) h = each_made (names t) (λ n k. more n (h n k))
    entity_named (entity.Function g) h = each_made (signature_names g) (λ n k. more n (h n k))
    entity_named (entity.TypeOf t) h = each_made (names t) (λ n k. more n (h n k))

    defined_named : (d : Defined) → IsDefined T d → Each N (defined_names d)
    defined_named d h = each_both N (names d.underlying) (gather method_names_of d.methods) (each_made (names d.underlying) (λ n k. more n (h.resolved n k)))
        (each_gathered N method_names_of d.methods (each_as (λ (m : MethodOf). SignatureResolves T m.signature) (λ (m : MethodOf). Each N (signature_names m.signature)) d.methods (λ m r. each_made (signature_names m.signature) (λ n k. more n (r n k))) h.signatures))

    package_named : (p : Package) → IsPackage T p → Each N (package_names p)
    package_named p h = each_both N (gather object_names p.objects) (gather defined_names p.defined)
        (each_gathered N object_names p.objects (each_as (λ (o : Object). EntityResolves T o.entity) (λ (o : Object). Each N (object_names o)) p.objects (λ o. entity_named o.entity) h.entities))
        (each_gathered N defined_names p.defined (each_as (IsDefined T) (λ (d : Defined). Each N (defined_names d)) p.defined defined_named h.types))

  pub world_kept : (w : Packages) → IsWorld w → ((n : TypeName) → entry (table_of w.packages) n ≢ None → N n) → ((x : Sel) → IsOwned (map path_of w.packages) x → S x)
      → (path : List ℕ) (q : Package) → first_with path_of w.packages path ≡ Some q → PackageKept N S q
  world_kept w i more wider path q e =
      let k = each_first path_of (IsPackage (table_of w.packages)) w.packages path q (sym e) i.packaged in
      open_package q (record {
        named = package_named (table_of w.packages) more q k;
        owned = each_as (IsOwned (map path_of w.packages)) S (package_selectors q) wider (each_given (IsOwned (map path_of w.packages)) package_selectors w.packages q i.owned (first_has path_of w.packages path q e));
        formed = k.formed;
      })

-- ---- names that have entries

module _ (T : Table) (S : Sel → Type 0) where
  entity_resolved : (x : Entity) → EntityKept (HasEntry T) S x → EntityResolves T x
  entity_resolved (entity.Const (constant.OfTerm t) v) h = λ n k. each_has (HasEntry T) (names t) n h.named k
  entity_resolved (entity.Const (constant.OfKind c) v) h = tt
  entity_resolved (entity.Var t) h = λ n k. each_has (HasEntry T) (names t) n h.named k
  entity_resolved (entity.Function g) h = λ n k. each_has (HasEntry T) (signature_names g) n h.named k
  entity_resolved (entity.TypeOf t) h = λ n k. each_has (HasEntry T) (names t) n h.named k

  pub resolved_of : (p : Package) → PackageKept (HasEntry T) S p → AreResolved T p
  resolved_of p h = record {
    entities = each_as (λ (o : Object). EntityKept (HasEntry T) S o.entity) (λ (o : Object). EntityResolves T o.entity) p.objects (λ o. entity_resolved o.entity) h.entities;
    underlying = each_as (DefinedKept (HasEntry T) S) (λ (d : Defined). (n : TypeName) → Has (names d.underlying) n → entry T n ≢ None) p.defined (λ d k n j. each_has (HasEntry T) (names d.underlying) n k.beneath.named j) h.types;
    signatures = each_as (DefinedKept (HasEntry T) S) (λ (d : Defined). Each (λ (m : MethodOf). SignatureResolves T m.signature) d.methods) p.defined
        (λ d k. each_as (DeclaredKept (HasEntry T) S) (λ (m : MethodOf). SignatureResolves T m.signature) d.methods (λ m r n j. each_has (HasEntry T) (signature_names m.signature) n r.signature.named j) k.methods) h.types;
  }
