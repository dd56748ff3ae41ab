-- Packages of the module and of the standard library, and what a world makes public.
-- Public source: Go specification, "Exported identifiers"; which packages are public a world tells, which is own.
use Rattle.std.specs.Prelude.{◌≡◌, ℕ, not, Bool, true, false, List, [], ◌∷◌, ◌++◌, Option, None, Some}
use Rattle.go_base.specs.Characters.{BeginsPassing, is_upper}
use Rattle.go_base.specs.Lists.{Has}
use Rattle.go_base.specs.Keys.{first_with}
use Rattle.go_model.specs.types.Tables.{Table}
use Rattle.go_model.specs.types.Terms.{Layer}
use Rattle.go_model.specs.worlds.Worlds.{Packages, path_of, object_in, table_of}
use Rattle.go_model.specs.declared.types.names.TypeName.{TypeName}
use Rattle.go_model.specs.declared.types.names.Sel.{Sel}
use Rattle.go_model.specs.declared.types.package.Package.{Package}
use Rattle.go_model.specs.declared.types.package.Object.{Object}
use Rattle.go_model.specs.declared.types.term.Term.{Term, Term-F, out-Term}

-- the defined types of a world
abbrev pub types_of : Packages → Table
types_of w = table_of w.packages

abbrev pub package_at : Packages → List ℕ → Option Package
package_at w path = first_with path_of w.packages path

abbrev pub of_module : Option Package → Bool
of_module None = false
of_module (Some p) = not p.from_std

abbrev pub of_std : Option Package → Bool
of_std None = false
of_std (Some p) = p.from_std

abbrev pub module_layer : Packages → Layer → Bool
module_layer w (Term-F.Named n) = of_module (package_at w n.path)
module_layer w l = false

-- a defined type of a package of the module
abbrev pub is_of_module : Packages → Term → Bool
is_of_module w t = module_layer w (out-Term t)

-- a name that other packages see
abbrev pub IsExportedName : List ℕ → Type 0
IsExportedName name = BeginsPassing is_upper name

-- an exported field or method: its selector is of no package
abbrev pub IsExported : Sel → Type 0
IsExported s = s.«package» ≡ []

abbrev pub IsPublic : Packages → List ℕ → Type 0
IsPublic w path = Has w.publics path

-- an exported object of the public package of a path
pub record Exports (w : Packages) (path : List ℕ) (o : Object) : Type 0 where
  pub shown : IsPublic w path
  pub exported : IsExportedName o.name
  pub there : object_in (package_at w path) o.name ≡ Some o

-- the name of an object with the path of its package
abbrev pub qualified : List ℕ → List ℕ → List ℕ
qualified path name = path ++ 46 ∷ name

-- the name of a type of the module that a public package declares, exported
pub record IsPublicName (w : Packages) (n : TypeName) : Type 0 where
  pub in_module : of_module (package_at w n.path) ≡ true
  pub shown : IsPublic w n.path
  pub exported : IsExportedName n.name

-- the owner of a pair of types, by the old one: such a type by its own name, any other type by who led to it
pub data IsOwner (w : Packages) (leader : List ℕ) (t : Term) : List ℕ → Type 0 where
  by_name : {n : TypeName} → out-Term t ≡ Term-F.Named n → IsPublicName w n → IsOwner w leader t (qualified n.path n.name)
  by_leader : ((n : TypeName) → out-Term t ≡ Term-F.Named n → IsPublicName w n → ⊥) → IsOwner w leader t leader
