-- The objects of the packages of a world, and the test of exported names.
use Rattle.std.proofs.Common.{◌≡◌, ◌↔◌, Bool, true, false, Option, None, Some, List, ℕ, map, refl, sym, ap, ◌∙◌, subst}
use mathlib.Core.Bool.{true≢false}
use Rattle.std.specs.Prelude.{IsTrue}
use Rattle.go_base.specs.Lists.{Ascending}
use Rattle.go_base.specs.Keys.{first_with}
use Rattle.go_base.proofs.Members.{each_has}
use Rattle.go_model.specs.worlds.Worlds.{Packages, IsWorld, IsPackage, object_name, object_in, path_of, table_of}
use Rattle.go_model.specs.declared.types.package.Package.{Package}
use Rattle.go_model.specs.declared.types.package.Object.{Object}
use Rattle.api_correspond.specs.Publics.{package_at, IsExportedName}
use Rattle.api_correspond.proofs.Lookups.{first_member}

-- what the test of a name's bytes tells of the name
pub unexported : (name shown : List ℕ) (b : Bool) → shown ≡ name → IsTrue b ↔ IsExportedName shown → b ≡ false → IsExportedName name → ⊥
unexported name shown b e d f x = true≢false (sym (d.1 (subst IsExportedName (sym e) x)) ∙ f)

pub exported : (name shown : List ℕ) (b : Bool) → shown ≡ name → IsTrue b ↔ IsExportedName shown → b ≡ true → IsExportedName name
exported name shown b e d f = subst IsExportedName e (d.0 f)

-- a package of a world has its objects in the order of their names
pub objects_ordered : (w : Packages) → IsWorld w → (path : List ℕ) (p : Package) → package_at w path ≡ Some p → Ascending (map object_name p.objects)
objects_ordered w world path p e = (each_has (IsPackage (table_of w.packages)) w.packages p world.packaged (first_member path_of w.packages path p (sym e))).objects

-- an object is there where its package has it, and its package is there where it is
pub object_there : (o : Option Package) (p : Package) (a : Object) (name : List ℕ) → o ≡ Some p → first_with object_name p.objects name ≡ Some a → object_in o name ≡ Some a
object_there o p a name e h = ap (λ (x : Option Package). object_in x name) e ∙ h

pub package_there : (o : Option Package) (a : Object) (name : List ℕ) → object_in o name ≡ Some a → (p : Package) × (o ≡ Some p) × (first_with object_name p.objects name ≡ Some a)
package_there None a name e = absurd (cc)
package_there (Some p) a name e = (p, refl, e)
