-- What one object, one package and one path lose.
-- Own: words of the contracts inside this crate.
use Rattle.std.specs.Prelude.{◌≡◌, ◌⊎◌, ℕ, List, Option, None, Some}
use Rattle.go_base.specs.Keys.{first_with}
use Rattle.go_model.specs.worlds.Worlds.{Packages, object_name}
use Rattle.go_model.specs.declared.types.package.Package.{Package}
use Rattle.go_model.specs.declared.types.package.Object.{Object}
use Rattle.go_model.specs.declared.types.package.ConstTerm.{ConstTerm}
use Rattle.go_model.specs.declared.types.package.Entity.{Entity}
use Rattle.go_model.specs.declared.types.package.Entity.TheVariants as entity
use Rattle.go_model.specs.declared.constants.value.Value.{Value}
use Rattle.api_correspond.specs.Publics.{package_at, IsPublic, IsExportedName, qualified}
use Rattle.api_correspond.specs.Rules.{KeepsName, KeepsKind, KeepsConstant}
use Rattle.api_correspond.specs.inner.Members.{OfSome}
use Rattle.api_breaks.specs.declared.broken.Lost.TheVariants as lost
use Rattle.api_breaks.specs.declared.broken.Break.{Break}
use Rattle.api_breaks.specs.Breaks.{broken, sort_of}

abbrev pub constant : ConstTerm → Value → Entity
constant t v = entity.Const t v

-- an object of another sort, and a constant of another type or value
abbrev pub IsOtherKind : List ℕ → Object → Object → Break → Type 0
IsOtherKind path a c b = (KeepsKind a.entity c.entity → ⊥) × (broken (qualified path a.name) (lost.Kind (sort_of a.entity) (sort_of c.entity)) ≡ b)

abbrev pub IsOtherConstant : List ℕ → Object → Object → Break → Type 0
IsOtherConstant path a c b = (KeepsConstant a.entity c.entity → ⊥) × (broken (qualified path a.name) (lost.Constant path a.entity c.entity) ≡ b)

-- an exported object that the new package doesn't have, or not as it was
abbrev pub IsGone : List ℕ → Object → Option Object → Break → Type 0
IsGone path a None b = broken (qualified path a.name) lost.Removed ≡ b
IsGone path a (Some c) b = IsOtherKind path a c b ⊎ IsOtherConstant path a c b

abbrev pub IsOfObject : List ℕ → Package → Object → Break → Type 0
IsOfObject path q a b = IsExportedName a.name × IsGone path a (first_with object_name q.objects a.name) b

abbrev pub IsOfObjects : List ℕ → Package → List Object → Break → Type 0
IsOfObjects path q objects = OfSome (IsOfObject path q) objects

-- the new package has another name
abbrev pub IsRenamed : List ℕ → Package → Package → Break → Type 0
IsRenamed path p q b = (KeepsName p q → ⊥) × (broken path (lost.Name q.name) ≡ b)

abbrev pub IsOfBoth : List ℕ → Package → Package → Break → Type 0
IsOfBoth path p q b = IsRenamed path p q b ⊎ IsOfObjects path q p.objects b

abbrev pub IsOfPackages : List ℕ → Option Package → Option Package → Break → Type 0
IsOfPackages path (Some p) (Some q) b = IsOfBoth path p q b
IsOfPackages path p q b = ⊥

abbrev pub IsOfPath : Packages → Packages → List ℕ → Break → Type 0
IsOfPath old new path b = ((IsPublic new path → ⊥) × (broken path lost.Package ≡ b)) ⊎ (IsPublic new path × IsOfPackages path (package_at old path) (package_at new path) b)
