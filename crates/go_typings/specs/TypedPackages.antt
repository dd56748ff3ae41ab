-- What a package is once it is typed: its objects and its defined types.
-- Public source: Go specification, "Packages", "Exported identifiers" and "Method sets".
use Rattle.std.specs.Prelude.{◌≡◌, ◌↔◌, ℕ, List, map, Option, None, Some}
use Rattle.std.specs.List.Sorted.{IsStrictlySortedBy}
use Rattle.go_references.specs.go_base.Keys.{first_with}
use Rattle.go_references.specs.go_base.Lists.{Ascending, Has}
use Rattle.go_rules.specs.go_model.declared.types.package.Defined.{Defined}
use Rattle.go_rules.specs.go_model.declared.types.package.MethodOf.{MethodOf}
use Rattle.go_rules.specs.go_model.declared.types.package.Package.{Package}
use Rattle.go_rules.specs.go_model.types.MethodSets.{sel_order}
use Rattle.go_rules.specs.go_model.worlds.Worlds.{declared_sel, name_of, object_name}
use Rattle.go_rules.specs.Scopes.{entity_of}
use Rattle.go_typings.specs.PackageEnvironments.{Entries, own_defined, own_entity}
use Rattle.go_typings.specs.Redeclarations.{IsRedeclared}
use Rattle.go_typings.specs.Refusals.{IsMissing}
use Rattle.go_typings.specs.Sources.{PackageSource, Setting}
use Rattle.go_typings.specs.Typings.{IsTyping}
use Rattle.go_references.specs.go_syntax.declared.name.Place.{Place}

-- the one defined type is the other with its methods in order
pub record IsOrdered (d had : Defined) : Type 0 where
  pub name : d.name ≡ had.name
  pub underlying : d.underlying ≡ had.underlying
  pub ordered : IsStrictlySortedBy sel_order (map declared_sel d.methods)
  pub same : (m : MethodOf) → Has d.methods m ↔ Has had.methods m

abbrev pub AreOrdered : Option Defined → Option Defined → Type 0
AreOrdered None None = Unit {0}
AreOrdered (Some d) (Some had) = IsOrdered d had
AreOrdered d had = ⊥

-- the package of these entries: each name that it declares has its object, and each defined type its methods, all in order
pub record IsPackageOf (u : PackageSource) (a : Entries) (p : Package) : Type 0 where
  pub path : p.path ≡ u.path
  pub name : p.name ≡ u.name
  pub from_std : p.from_std ≡ u.from_std
  pub objects_ordered : Ascending (map object_name p.objects)
  pub objects : (name : List ℕ) → entity_of (first_with object_name p.objects name) ≡ own_entity u a name
  pub defined_ordered : Ascending (map name_of p.defined)
  pub defined : (name : List ℕ) → AreOrdered (first_with name_of p.defined name) (own_defined u a name)

-- the package is typed so: no name is declared twice, each used import is found, and it has a typing
pub record IsTypedAs (s : Setting) (u : PackageSource) (p : Package) : Type 0 where
  pub once : (q : Place) → IsRedeclared u q → ⊥
  pub found : (q : Place) → IsMissing u q → ⊥
  pub entries : Entries
  pub typing : IsTyping s u entries
  pub «package» : IsPackageOf u entries p
