-- What a client of the profile is typed over on both sides.
-- Own: the new packages keep what the client is given of the old ones.
use Rattle.std.specs.Prelude.{◌≡◌, ◌≢◌, ℕ, Bool, true, List, [], Option, None, Some}
use Rattle.go_base.specs.Keys.{first_with}
use Rattle.go_base.specs.Lists.{Has}
use Rattle.go_model.specs.declared.types.names.Sel.{Sel}
use Rattle.go_model.specs.declared.types.names.TypeName.{TypeName}
use Rattle.go_model.specs.declared.types.package.Entity.{Entity}
use Rattle.go_model.specs.types.Tables.{Table}
use Rattle.go_model.specs.types.Terms.{client_path}
use Rattle.go_model.specs.worlds.Worlds.{Packages, object_in, path_of, table_of}
use Rattle.go_rules.specs.Environments.{is_exported}
use Rattle.go_rules.specs.Scopes.{entity_of}
use Rattle.go_typings.specs.PackageEnvironments.{had_path}
use Rattle.go_typings.specs.Sources.{Import, PackageSource, Setting, imports_of}
use Rattle.go_type_images.specs.Images.{Naming}
use Rattle.go_type_images.specs.declared.pair.TypePair.{TypePair}
use Rattle.go_client_types.specs.Keeping.{EntityReached, IsKeptEntity}
use Rattle.go_client_types.specs.Preserving.{Preserves}

-- the object that a package of the world has under a name
abbrev pub object_at : Packages → List ℕ → List ℕ → Option Entity
object_at w path name = entity_of (object_in (first_with path_of w.packages path) name)

-- the table has the types of the world; beside these stand a client's
abbrev pub Holds : Table → Packages → Type 0
Holds T w = (n : TypeName) → n.path ≢ client_path → T n ≡ table_of w.packages n

pub record KeepsSettings (s t : Setting) (u : PackageSource) (r : Naming) (pairs : List TypePair) (std : TypeName → Bool) (is_open : Sel → Bool) : Type 0 where
  pub types : (T U : Table) → Holds T s.world → Holds U t.world → Preserves T U r pairs std is_open
  -- an exported object of an import has a new one
  pub objects : (file : ℕ) (i : Import) (name : List ℕ) (x : Entity) → Has (imports_of u file) i → is_exported name ≡ true → object_at s.world (had_path i) name ≡ Some x
      → (y : Entity) × (object_at t.world (had_path i) name ≡ Some y) × IsKeptEntity r x y × EntityReached pairs std is_open x
  -- no package has the empty path, as the predeclared types have it
  pub pathed : first_with path_of s.world.packages [] ≡ None
  pub pathed_too : first_with path_of t.world.packages [] ≡ None
  pub bits : t.bits ≡ s.bits
  pub client : u.path ≡ client_path
  pub barred : s.profile ≡ true
  pub barred_too : t.profile ≡ true
