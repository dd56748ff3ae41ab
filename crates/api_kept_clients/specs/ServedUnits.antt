-- Lists of packages of an old and a new tree, and of a client of each.
-- Own: words on lists.
use Rattle.std.specs.Prelude.{◌≡◌, ◌≢◌, ℕ, List, []}
use Rattle.go_base.specs.Lists.{Has}
use Rattle.go_model.specs.types.Terms.{client_path}
use Rattle.go_model.specs.worlds.Worlds.{Packages}
use Rattle.go_typings.specs.Sources.{PackageSource}
use Rattle.go_exposed.specs.OfferedWorlds.{IsWorldOf}
use Rattle.api_std_types.specs.go_std_worlds.StdSources.{HaveSameStd, KeepStdApart}

-- no path is empty or a client's
abbrev pub HaveOtherPaths : List PackageSource → Type 0
HaveOtherPaths us = (u : PackageSource) → Has us u → (u.path ≢ []) × (u.path ≢ client_path)

-- the world of some packages, and that of a client, which has them all
pub record ServesUnits (bits : ℕ) (small large : List PackageSource) (w v : Packages) : Type 0 where
  pub among : (u : PackageSource) → Has small u → Has large u
  pub apart : KeepStdApart small
  pub apart_too : KeepStdApart large
  pub paths : HaveOtherPaths small
  pub paths_too : HaveOtherPaths large
  pub world : IsWorldOf bits small w
  pub world_too : IsWorldOf bits large v

-- packages of one path are both of the standard library, or neither; and where they are, they are the same
pub record ShareStdUnits (us vs : List PackageSource) : Type 0 where
  pub sides : (u v : PackageSource) → Has us u → Has vs v → u.path ≡ v.path → u.from_std ≡ v.from_std
  pub same : HaveSameStd us vs
