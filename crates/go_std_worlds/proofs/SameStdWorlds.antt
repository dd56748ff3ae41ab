-- In the worlds of two lists the packages of the standard library are the same that are written the same.
use Rattle.std.proofs.Common.{◌≡◌, ℕ, true, List, Some}
use Rattle.go_base.specs.Keys.{first_with}
use Rattle.go_base.specs.Lists.{Has}
use Rattle.go_model.specs.declared.types.package.Package.{Package}
use Rattle.go_model.specs.worlds.Worlds.{Packages, path_of}
use Rattle.go_typings.specs.Sources.{PackageSource}
use Rattle.go_taken_packages.proofs.SharedPackages.{shared_std, written}
use Rattle.go_taken_packages.specs.InOrder.{HavePathsOfTheirOwn}
use Rattle.go_taken_packages.specs.go_exposed.OfferedWorlds.{IsWorldOf}
use Rattle.go_std_worlds.specs.StdSources.{KeepStdApart, HavePaths, HaveSameStd}

pub own_of : (us : List PackageSource) → KeepStdApart us → HavePaths us → HavePathsOfTheirOwn us
own_of us a x = record { once = a.own_paths; named = x }

pub same_std : (bits : ℕ) (us vs : List PackageSource) (w v : Packages) → KeepStdApart us → KeepStdApart vs → HavePaths us → HavePaths vs → HaveSameStd us vs → IsWorldOf bits us w → IsWorldOf bits vs v
    → (path : List ℕ) (p q : Package) → first_with path_of w.packages path ≡ Some p → first_with path_of v.packages path ≡ Some q → p.from_std ≡ true → p ≡ q
same_std bits us vs w v a b x y same k l = shared_std bits us vs w v (own_of us a x) (own_of vs b y) k l a.std_imports b.std_imports same

-- a package of a world is of the standard library where it is so as it is written
pub written_side : (bits : ℕ) (us : List PackageSource) (w : Packages) → KeepStdApart us → HavePaths us → IsWorldOf bits us w → (path : List ℕ) (p : Package) → first_with path_of w.packages path ≡ Some p
    → (u : PackageSource) × Has us u × (u.path ≡ path) × (p.from_std ≡ u.from_std)
written_side bits us w a x k path p e = let q = written bits us w (own_of us a x) k path p e in (q.0, q.1, q.2, (q.3).1.«package».from_std)
