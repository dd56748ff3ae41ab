-- The objects that names denote.
-- Own: words of the contracts inside this crate.
use Rattle.std.specs.Prelude.{ℕ, List, [], ◌∷◌, Option, None, Some}
use Rattle.go_base.specs.Gathered.{gather}
use Rattle.go_model.specs.declared.types.package.Entity.{Entity}
use Rattle.go_model.specs.declared.types.package.Object.{Object}
use Rattle.go_typings.specs.Declarations.{declared, Declaration}
use Rattle.go_exposed.specs.OfferedPackages.{kept_at}
use Rattle.go_typings.specs.PackageEnvironments.{Entries}

-- what a name denotes in the package of this path, where its declaration has an entry
abbrev pub denoted : List ℕ → Entries → List Declaration → List ℕ → Option Entity
denoted path a ds name = kept_at path a (declared ds name)

-- the object of a name, where it denotes something
abbrev pub object_named : List ℕ → Option Entity → List Object
object_named name None = []
object_named name (Some x) = record { name = name; entity = x } ∷ []

-- the objects of these names, in their order
abbrev pub objects_named : (List ℕ → Option Entity) → List (List ℕ) → List Object
objects_named denotes names = gather (λ n. object_named n (denotes n)) names
