-- The pairs of types that objects give, one object, one package and one path at a time.
-- Own: words of the contracts inside this crate.
use Rattle.std.specs.Prelude.{◌≡◌, ℕ, List, Option, None, Some}
use Rattle.go_base.specs.Keys.{first_with}
use Rattle.go_model.specs.worlds.Worlds.{Packages, object_name}
use Rattle.go_model.specs.declared.types.package.Package.{Package}
use Rattle.go_model.specs.declared.types.package.Object.{Object}
use Rattle.go_model.specs.declared.types.package.Entity.{Entity}
use Rattle.go_model.specs.declared.types.package.Entity.TheVariants as entity
use Rattle.go_model.specs.declared.types.package.ConstTerm.{ConstTerm}
use Rattle.go_model.specs.declared.types.package.ConstTerm.TheVariants as constant
use Rattle.go_model.specs.declared.types.term.Signature.{Signature}
use Rattle.go_type_images.specs.declared.pair.TypePair.{TypePair}
use Rattle.api_correspond.specs.declared.pair.OwnedPair.{OwnedPair}
use Rattle.api_correspond.specs.Outermost.{pair}
use Rattle.go_type_images.specs.Parts.{function_type}
use Rattle.api_correspond.specs.OwnedPairs.{types_of_entities, pair_of}
use Rattle.api_correspond.specs.Publics.{package_at, IsPublic, IsExportedName, qualified}
use Rattle.api_correspond.specs.inner.Members.{OfSome}

-- the types of two constants, and of a function and what it became
abbrev pub types_of_constants : ConstTerm → ConstTerm → Option TypePair
types_of_constants (constant.OfTerm s) (constant.OfTerm t) = Some (pair s t)
types_of_constants a b = None

abbrev pub types_of_function : Signature → Entity → Option TypePair
types_of_function g (entity.Function h) = Some (pair (function_type g) (function_type h))
types_of_function g (entity.Var t) = Some (pair (function_type g) t)
types_of_function g b = None

-- the types of an exported object and of the one of its name in the new package, with the object's name
pub record IsOfObject (path : List ℕ) (q : Package) (before : Object) (r : OwnedPair) : Type 0 where
  pub exported : IsExportedName before.name
  pub after : Object
  pub kept : first_with object_name q.objects before.name ≡ Some after
  pub types : types_of_entities before.entity after.entity ≡ Some (pair_of r)
  pub named : r.owner ≡ qualified path before.name

abbrev pub IsOfPackage : List ℕ → Package → List Object → OwnedPair → Type 0
IsOfPackage path q objects = OfSome (IsOfObject path q) objects

-- what the packages of a path give, which is public in the new world
pub record IsOfPath (old new : Packages) (path : List ℕ) (r : OwnedPair) : Type 0 where
  pub shown : IsPublic new path
  pub before : Package
  pub after : Package
  pub first : package_at old path ≡ Some before
  pub second : package_at new path ≡ Some after
  pub gives : IsOfPackage path after before.objects r
