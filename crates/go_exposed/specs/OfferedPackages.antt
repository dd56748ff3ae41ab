-- What a package is once its declarations are typed that are kept: its objects and its defined types.
-- Public source: Go specification, "Packages", "Exported identifiers" and "Method sets". That a declaration may be left out is own.
use Rattle.std.specs.Prelude.{◌≡◌, ℕ, Bool, List, map, Option, None, Some}
use Rattle.go_base.specs.Keys.{first_with}
use Rattle.go_base.specs.Lists.{Ascending}
use Rattle.go_model.specs.declared.types.package.Entity.{Entity}
use Rattle.go_model.specs.declared.types.package.Package.{Package}
use Rattle.go_model.specs.worlds.Worlds.{name_of, object_name}
use Rattle.go_typings.specs.go_rules.Scopes.{entity_of}
use Rattle.go_syntax.specs.declared.name.Place.{Place}
use Rattle.go_typings.specs.Declarations.{Declared, declared, declarations}
use Rattle.go_typings.specs.PackageEnvironments.{Entries, Entry, entity_by, own_defined}
use Rattle.go_typings.specs.Redeclarations.{IsRedeclared}
use Rattle.go_typings.specs.Sources.{PackageSource, Setting}
use Rattle.go_typings.specs.TypedPackages.{AreOrdered}
use Rattle.go_exposed.specs.KeptDeclarations.{LeavesOut}
use Rattle.go_exposed.specs.Refusals.{IsMissing}

-- what a name denotes, where its declaration has an entry: else nothing, also where it would be a type
abbrev pub entered : Option Entry → Option Entity → Option Entity
entered None x = None
entered (Some e) x = x

abbrev pub kept_at : List ℕ → Entries → Option Declared → Option Entity
kept_at path a None = None
kept_at path a (Some d) = entered (a d.number) (entity_by path a d.number d.place d.form)

-- the object that a name of the package has
abbrev pub kept_entity : PackageSource → Entries → List ℕ → Option Entity
kept_entity u a name = kept_at u.path a (declared (declarations u) name)

-- the package of these entries: each name has its object whose declaration has an entry, and each defined type with an entry its
-- methods, all in order
pub record IsPackageOf (u : PackageSource) (a : Entries) (p : Package) : Type 0 where
  pub path : p.path ≡ u.path
  pub name : p.name ≡ u.name
  pub from_std : p.from_std ≡ u.from_std
  pub objects_ordered : Ascending (map object_name p.objects)
  pub objects : (name : List ℕ) → entity_of (first_with object_name p.objects name) ≡ kept_entity u a name
  pub defined_ordered : Ascending (map name_of p.defined)
  pub defined : (name : List ℕ) → AreOrdered (first_with name_of p.defined name) (own_defined u a name)

-- the package is offered so: no name is declared twice, each import is found from which a seen declaration selects, and it is the
-- package of the declarations that are kept
pub record IsOfferedAs (s : Setting) (u : PackageSource) (p : Package) : Type 0 where
  pub once : (q : Place) → IsRedeclared u q → ⊥
  pub found : (q : Place) → IsMissing u q → ⊥
  pub within : ℕ → Bool
  pub entries : Entries
  pub kept : LeavesOut s u within entries
  pub «package» : IsPackageOf u entries p
