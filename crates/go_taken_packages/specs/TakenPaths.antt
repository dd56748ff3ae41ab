-- Paths that are taken between two lists of packages: what stands at them is the same in both, with all that it imports.
-- Own.
use Rattle.std.specs.Prelude.{◌≡◌, ℕ, Bool, true, List}
use Rattle.go_base.specs.Lists.{Has}
use Rattle.go_typings.specs.Sources.{Import, PackageSource, imports_of}

-- each import of the package that is found is of one of these paths
abbrev pub ImportsAreOf : (List ℕ → Bool) → PackageSource → Type 0
ImportsAreOf taken u = (file : ℕ) (i : Import) → Has (imports_of u file) i → i.is_found ≡ true → taken i.path ≡ true

-- at the path stands in both lists one package, with the same source, in which it's said of each import whether it is found
pub record StandsInBoth (us vs : List PackageSource) (path : List ℕ) : Type 0 where
  pub source : PackageSource
  pub here : Has us source
  pub there : Has vs source
  pub place : source.path ≡ path

-- at each of these paths one package stands in both lists, and its imports that are found are of these paths too
pub record AreTaken (us vs : List PackageSource) (taken : List ℕ → Bool) : Type 0 where
  pub same : (path : List ℕ) → taken path ≡ true → StandsInBoth us vs path
  pub imports : (u : PackageSource) → Has us u → taken u.path ≡ true → ImportsAreOf taken u
