-- The packages of the standard library among others, as they are written.
-- Public source: Go specification, "Import declarations". Own: a package of the standard library seeks its imports there alone.
use Rattle.std.specs.Prelude.{◌≡◌, ◌≢◌, ℕ, true, List, [], map}
use Rattle.go_base.specs.Lists.{Has, Once}
use Rattle.go_typings.specs.Sources.{Import, PackageSource, imports_of}

abbrev pub source_path : PackageSource → List ℕ
source_path u = u.path

-- no path stands twice
abbrev pub HaveOwnPaths : List PackageSource → Type 0
HaveOwnPaths us = Once (map source_path us)

-- no path is empty
abbrev pub HavePaths : List PackageSource → Type 0
HavePaths us = (u : PackageSource) → Has us u → u.path ≢ []

-- where an import of a package of the standard library is found, what is there is of the standard library too
abbrev pub StdImportsStd : List PackageSource → Type 0
StdImportsStd us = (u v : PackageSource) (file : ℕ) (i : Import) → Has us u → Has us v → u.from_std ≡ true
    → Has (imports_of u file) i → i.is_found ≡ true → v.path ≡ i.path → v.from_std ≡ true

-- packages with paths of their own, among which the standard library imports itself alone
pub record KeepStdApart (us : List PackageSource) : Type 0 where
  pub own_paths : HaveOwnPaths us
  pub std_imports : StdImportsStd us

-- a package of the standard library that has its path in both lists is the same in both
abbrev pub HaveSameStd : List PackageSource → List PackageSource → Type 0
HaveSameStd us vs = (u v : PackageSource) → Has us u → Has vs v → u.path ≡ v.path → u.from_std ≡ true → u ≡ v
