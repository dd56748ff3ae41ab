-- A package that is typed in one world is typed over another, where what both have is the same.
use Rattle.std.proofs.Common.{◌≡◌, ℕ, true, List, refl}
use Rattle.go_base.specs.Lists.{Has}
use Rattle.go_exposed.specs.OfferedPackages.{IsOfferedAs}
use Rattle.go_exposed.specs.OfferedWorlds.{IsWorldOf}
use Rattle.go_model.specs.declared.types.package.Package.{Package}
use Rattle.go_model.specs.worlds.Worlds.{Packages}
use Rattle.go_std_worlds.proofs.SameStdWorlds.{own_of}
use Rattle.go_std_worlds.proofs.go_taken_packages_proofs.SharedPackages.{offered_too}
use Rattle.go_std_worlds.specs.StdSources.{HaveOwnPaths, HavePaths, HaveSameStd, KeepStdApart}
use Rattle.go_typings.specs.PackageWorlds.{AreTyped, over}
use Rattle.go_typings.specs.Sources.{PackageSource}
use Rattle.api_kept_clients.specs.go_unit_worlds.SharedSources.{HaveSame}

-- where all that both have is the same
pub offered_again : (bits : ℕ) (us vs : List PackageSource) → HaveOwnPaths us → HaveOwnPaths vs → HavePaths us → HavePaths vs → HaveSame us vs → (w v : Packages) → IsWorldOf bits us w → IsWorldOf bits vs v
    → (u : PackageSource) → Has us u → AreTyped v u → (p : Package) × IsOfferedAs (over bits v) u p
offered_again bits us vs own other paths others same w v k l u h s =
    offered_too (λ z. true) bits us vs w v (record { once = own; named = paths }) (record { once = other; named = others }) (λ a b file i g j c has found e. refl) (λ a b file i g j c has found e. refl) (λ a b g j e c. same a b g j e) k l u h refl s (λ z file i g has found e. refl)

-- where the standard library is
pub std_again : (bits : ℕ) (us vs all : List PackageSource) → KeepStdApart us → KeepStdApart vs → KeepStdApart all → HavePaths us → HavePaths vs → ((u : PackageSource) → Has vs u → Has all u) → HaveSameStd us vs → (w v : Packages) → IsWorldOf bits us w → IsWorldOf bits vs v
    → (u : PackageSource) → Has us u → Has all u → u.from_std ≡ true → AreTyped v u → (p : Package) × IsOfferedAs (over bits v) u p
std_again bits us vs all apart other whole paths others among same w v k l u h g std s =
    offered_too (λ z. z.from_std) bits us vs w v (own_of us apart paths) (own_of vs other others) apart.std_imports other.std_imports same k l u h std s (λ z file i j has found e. whole.std_imports u z file i g (among z j) std has found e)
