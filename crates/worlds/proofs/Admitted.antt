-- A world with a package that was admitted is a world.
use Rattle.std.proofs.Common.{◌≡◌, ◌≢◌, ℕ, Bool, List, [], ◌∷◌, map, Some}
use Rattle.go_base.proofs.Members.{each_has}
use Rattle.go_base.specs.Gathered.{gather}
use Rattle.go_base.specs.Lists.{Each, Has}
use Rattle.go_model.proofs.MoreWorlds.{more_world}
use Rattle.go_model.specs.declared.types.package.ConstTerm.TheVariants as constant
use Rattle.go_model.specs.declared.types.package.Defined.{Defined}
use Rattle.go_model.specs.declared.types.package.Entity.{Entity}
use Rattle.go_model.specs.declared.types.package.Entity.TheVariants as entity
use Rattle.go_model.specs.declared.types.package.MethodOf.{MethodOf}
use Rattle.go_model.specs.declared.types.package.Object.{Object}
use Rattle.go_model.specs.declared.types.package.Package.{Package}
use Rattle.go_model.specs.declared.types.term.Field.{Field}
use Rattle.go_model.specs.declared.types.term.Term.{out-Term}
use Rattle.go_model.specs.types.Members.{IsWellFormed, field_sel, members, signature_members}
use Rattle.go_model.specs.types.Terms.{client_path}
use Rattle.go_model.specs.types.TypeNames.{names, signature_names}
use Rattle.go_model.specs.types.TypeSelectors.{selectors, signature_selectors}
use Rattle.go_model.specs.types.Underlying.{fields_of}
use Rattle.go_model.specs.worlds.PackageTypes.{declared_selectors, defined_members, defined_selectors, object_members, object_selectors, of_entity, package_members, package_selectors}
use Rattle.go_model.specs.worlds.Worlds.{EntityResolves, IsDefined, IsOwned, IsPackage, IsWorld, Packages, SignatureResolves, object_name, path_of, type_object, with_package}
use Rattle.go_base.specs.Keys.{first_with}
use Rattle.worlds.proofs.Lists.{each_as, each_gathered, each_joined}
use Rattle.worlds.specs.inner.Admission.{DeclaredKept, DefinedKept, IsAdmitted, IsThere, ObjectKept, joint, joint_paths}

module _ (w : Packages) (p : Package) where
  resolves : (e : Entity) → Each (IsThere w p) (of_entity names signature_names e) → EntityResolves (joint w p) e
  resolves (entity.Const (constant.OfTerm t) v) h = λ n k. each_has (IsThere w p) (names t) n h k
  resolves (entity.Const (constant.OfKind u) v) h = tt
  resolves (entity.Var t) h = λ n k. each_has (IsThere w p) (names t) n h k
  resolves (entity.Function g) h = λ n k. each_has (IsThere w p) (signature_names g) n h k
  resolves (entity.TypeOf t) h = λ n k. each_has (IsThere w p) (names t) n h k

  defined_kept : (d : Defined) → DefinedKept w p d → IsDefined (joint w p) d
  defined_kept d h = record {
    resolved = λ n k. each_has (IsThere w p) (names d.underlying) n h.types.underlying.there k;
    signatures = each_as (DeclaredKept w p) (λ (m : MethodOf). SignatureResolves (joint w p) m.signature) d.methods (λ m s n k. each_has (IsThere w p) (signature_names m.signature) n s.signature.there k) h.types.methods;
    structured = h.shape.structured;
    methods = h.shape.methods;
    bare = h.shape.bare;
    apart = λ m f a b. each_has (λ (g : Field). (field_sel g).name ≢ m.sel.name) (fields_of (out-Term d.underlying)) f (each_has (λ (o : MethodOf). Each (λ (g : Field). (field_sel g).name ≢ o.sel.name) (fields_of (out-Term d.underlying))) d.methods m h.shape.apart a) b;
  }

  defined_owned : (d : Defined) → DefinedKept w p d → Each (IsOwned (joint_paths w p)) (defined_selectors d)
  defined_owned d h =
      each_joined (IsOwned (joint_paths w p)) (selectors d.underlying) (gather declared_selectors d.methods) h.types.underlying.owned
      (each_gathered (IsOwned (joint_paths w p)) declared_selectors d.methods
      (each_as (DeclaredKept w p) (λ (m : MethodOf). Each (IsOwned (joint_paths w p)) (declared_selectors m)) d.methods (λ m s. (s.sel, s.signature.owned)) h.types.methods))

  defined_formed : (d : Defined) → DefinedKept w p d → Each IsWellFormed (defined_members d)
  defined_formed d h =
      each_joined IsWellFormed (members d.underlying) (gather (λ (m : MethodOf). signature_members m.signature) d.methods) h.types.underlying.formed
      (each_gathered IsWellFormed (λ (m : MethodOf). signature_members m.signature) d.methods
      (each_as (DeclaredKept w p) (λ (m : MethodOf). Each IsWellFormed (signature_members m.signature)) d.methods (λ m s. s.signature.formed) h.types.methods))

  kept : (p.path ≢ []) → (p.path ≢ client_path) → IsAdmitted w p → IsPackage (joint w p) p
  kept a b h = record {
    pathed = a;
    foreign = b;
    objects = h.order;
    defined = h.types_order;
    entities = each_as (ObjectKept w p) (λ (o : Object). EntityResolves (joint w p) o.entity) p.objects (λ o k. resolves o.entity k.there) h.objects;
    types = each_as (DefinedKept w p) (IsDefined (joint w p)) p.defined defined_kept h.defined;
    declared = each_as (DefinedKept w p) (λ (d : Defined). first_with object_name p.objects d.name ≡ Some (type_object p.path d.name)) p.defined (λ d k. k.declared) h.defined;
    formed =
        each_joined IsWellFormed (gather object_members p.objects) (gather defined_members p.defined)
        (each_gathered IsWellFormed object_members p.objects (each_as (ObjectKept w p) (λ (o : Object). Each IsWellFormed (object_members o)) p.objects (λ o k. k.formed) h.objects))
        (each_gathered IsWellFormed defined_members p.defined (each_as (DefinedKept w p) (λ (d : Defined). Each IsWellFormed (defined_members d)) p.defined defined_formed h.defined));
  }

  owned : IsAdmitted w p → Each (IsOwned (joint_paths w p)) (package_selectors p)
  owned h =
      each_joined (IsOwned (joint_paths w p)) (gather object_selectors p.objects) (gather defined_selectors p.defined)
      (each_gathered (IsOwned (joint_paths w p)) object_selectors p.objects (each_as (ObjectKept w p) (λ (o : Object). Each (IsOwned (joint_paths w p)) (object_selectors o)) p.objects (λ o k. k.owned) h.objects))
      (each_gathered (IsOwned (joint_paths w p)) defined_selectors p.defined (each_as (DefinedKept w p) (λ (d : Defined). Each (IsOwned (joint_paths w p)) (defined_selectors d)) p.defined defined_owned h.defined))

  pub admitted : IsWorld w → (Has (map path_of w.packages) p.path → ⊥) → (p.path ≢ []) → (p.path ≢ client_path) → IsAdmitted w p → (public : Bool) → IsWorld (with_package w p public)
  admitted i new a b h public = more_world w p i new public (kept a b h) (owned h)
