-- In the worlds of two lists the packages are the same that are written the same.
use Rattle.std.proofs.Common.{◌≡◌, ℕ, List, Some, sym, ap, ◌∙◌}
use Rattle.go_base.specs.Keys.{first_with}
use Rattle.go_base.specs.Lists.{Has}
use Rattle.go_exposed.specs.OfferedWorlds.{IsWorldOf}
use Rattle.go_model.specs.declared.types.package.Package.{Package}
use Rattle.go_model.specs.worlds.Worlds.{Packages, path_of}
use Rattle.go_typings.specs.Sources.{PackageSource}
use Rattle.go_std_worlds.proofs.go_taken_packages_proofs.KeptPaths.{once_at}
use Rattle.go_std_worlds.proofs.go_taken_packages_proofs.SharedPackages.{shared_packages, written}
use Rattle.go_std_worlds.proofs.go_taken_packages_proofs.TakenOver.{typed_in}
use Rattle.go_std_worlds.specs.StdSources.{HaveOwnPaths, HavePaths}
use Rattle.go_unit_worlds.specs.SharedSources.{HaveSame}

pub all_same : (bits : ℕ) (us vs : List PackageSource) (w v : Packages) → HaveOwnPaths us → HaveOwnPaths vs → HavePaths us → HavePaths vs → HaveSame us vs → IsWorldOf bits us w → IsWorldOf bits vs v
    → (path : List ℕ) (p q : Package) → first_with path_of w.packages path ≡ Some p → first_with path_of v.packages path ≡ Some q → p ≡ q
all_same bits us vs w v a b x y same k l = shared_packages bits us vs w v (record { once = a; named = x }) (record { once = b; named = y }) k l same

-- a list with all packages of another one
pub all_held : (bits : ℕ) (us vs : List PackageSource) (w v : Packages) → HaveOwnPaths us → HaveOwnPaths vs → HavePaths vs → ((u : PackageSource) → Has us u → Has vs u) → IsWorldOf bits us w → IsWorldOf bits vs v
    → (path : List ℕ) (p : Package) → first_with path_of w.packages path ≡ Some p → first_with path_of v.packages path ≡ Some p
all_held bits us vs w v a b y among k l path p e =
    let x : HavePaths us = λ u h. y u (among u h) in
    let u = written bits us w (record { once = a; named = x }) k path p e in
    let q = typed_in bits vs v (record { once = b; named = y }) l u.0 (among u.0 u.1) in
    let there = ap (first_with path_of v.packages) (sym u.2) ∙ q.1.1 in
    there ∙ ap Some (sym (all_same bits us vs w v a b x y (λ s t h j i. once_at vs b s t (among s h) j i) k l path p q.0 e there))
