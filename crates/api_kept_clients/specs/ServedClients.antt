-- The world that a client of another world is typed over, and what the client imports of it.
-- Own: a client brings packages of the standard library that the other world may lack.
use Rattle.std.specs.Prelude.{◌≡◌, ◌⊎◌, ℕ, true, List, [], None, Some}
use Rattle.go_base.specs.Lists.{Has}
use Rattle.go_model.specs.declared.types.package.Package.{Package}
use Rattle.go_model.specs.worlds.Worlds.{IsWorld, Packages}
use Rattle.go_typings.specs.Sources.{Import, PackageSource, Setting, imports_of}
use Rattle.api_correspond.specs.Publics.{IsPublic, of_std, package_at}

-- a client of the profile is typed over the packages
abbrev pub for_client : ℕ → Packages → Setting
for_client bits w = record { world = w; bits = bits; profile = true }

pub record ServesClients (small large : Packages) : Type 0 where
  pub world : IsWorld large
  -- the world has all packages of the other one, and none with the empty path
  pub holds : (path : List ℕ) (p : Package) → package_at small path ≡ Some p → package_at large path ≡ Some p
  pub pathed : package_at large [] ≡ None

-- the client imports public packages of the module, and packages of the standard library that both worlds have
abbrev pub ImportsShown : Packages → Packages → Packages → PackageSource → Type 0
ImportsShown old before after u = (file : ℕ) (i : Import) → Has (imports_of u file) i → i.is_found ≡ true → IsPublic old i.path ⊎ ((of_std (package_at before i.path) ≡ true) × (of_std (package_at after i.path) ≡ true))
