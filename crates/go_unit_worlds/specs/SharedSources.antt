-- Packages that two lists share.
-- Own: words on lists.
use Rattle.std.specs.Prelude.{◌≡◌, List}
use Rattle.go_base.specs.Lists.{Has}
use Rattle.go_typings.specs.Sources.{PackageSource}

-- a package that has its path in both lists is the same in both
abbrev pub HaveSame : List PackageSource → List PackageSource → Type 0
HaveSame us vs = (u v : PackageSource) → Has us u → Has vs v → u.path ≡ v.path → u ≡ v
