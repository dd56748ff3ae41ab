-- Which packages of a list are taken from another one, told in their order, where it is told of each whether the other one has the same.
-- Own.
use Rattle.std.specs.Prelude.{ℕ, Bool, false, not, ◌&&◌, ◌||◌, if◌then◌else◌, List, [], ◌∷◌}
use Rattle.std.specs.List.{list_all}
use Rattle.std.specs.Str.{bytes_eq}
use Rattle.go_typings.specs.Sources.{Import, PackageSource, SourceFile}

-- a package as it is written, and whether it is told that the other list has it so
pub record Told : Type 0 where
  pub source : PackageSource
  pub same : Bool

abbrev pub told_source : Told → PackageSource
told_source t = t.source

abbrev pub is_among : List (List ℕ) → List ℕ → Bool
is_among [] path = false
is_among (p ∷ ps) path = bytes_eq p path || is_among ps path

module _ (paths : List (List ℕ)) where
  -- where the import is found, its path is one of these
  abbrev pub is_missing_or_among : Import → Bool
  is_missing_or_among i = not i.is_found || is_among paths i.path

  abbrev pub imports_are_among : SourceFile → Bool
  imports_are_among f = list_all is_missing_or_among f.imports

  -- the package is taken, where these paths were taken before it: the other list has the same, and its imports that are found are of these paths
  abbrev pub is_taken : Told → Bool
  is_taken t = t.same && list_all imports_are_among t.source.files

  abbrev pub with_taken : Told → List (List ℕ)
  with_taken t = if is_taken t then t.source.path ∷ paths else paths

-- the paths that are taken before and in a list
abbrev pub taken_paths : List (List ℕ) → List Told → List (List ℕ)
taken_paths paths [] = paths
taken_paths paths (t ∷ ts) = taken_paths (with_taken paths t) ts
