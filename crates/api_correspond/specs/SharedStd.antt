-- The standard library that an old and a new world share.
-- Own: both are typed over one tree of it.
use Rattle.std.specs.Prelude.{◌≡◌, ℕ, Bool, true, Some, List}
use Rattle.go_model.specs.declared.types.package.Package.{Package}
use Rattle.go_model.specs.worlds.Worlds.{Packages}
use Rattle.api_correspond.specs.Publics.{package_at}

-- what both worlds have at one path is of the standard library in both or in neither, and there it is the same
pub record ShareStd (old new : Packages) : Type 0 where
  pub sides : (path : List ℕ) (p q : Package) → package_at old path ≡ Some p → package_at new path ≡ Some q → p.from_std ≡ q.from_std
  pub same : (path : List ℕ) (p q : Package) → package_at old path ≡ Some p → package_at new path ≡ Some q → p.from_std ≡ true → p ≡ q
