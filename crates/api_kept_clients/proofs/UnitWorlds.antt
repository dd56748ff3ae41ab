-- The worlds of lists of packages are as a client of them asks.
use Rattle.std.proofs.Common.{◌≡◌, ℕ, List, [], sym, ◌∙◌, None}
use Rattle.go_model.specs.worlds.Worlds.{IsWorld, Packages}
use Rattle.go_type_images.specs.declared.pair.TypePair.{TypePair}
use Rattle.go_typings.specs.Sources.{PackageSource}
use Rattle.go_exposed.specs.OfferedWorlds.{IsWorldOf}
use Rattle.api_std_types.proofs.go_std_worlds_proofs.SameStdWorlds.{own_of, same_std, written_side}
use Rattle.api_std_types.proofs.go_std_worlds_proofs.go_taken_packages_proofs.OverAll.{nothing_at_empty}
use Rattle.api_std_types.proofs.go_std_worlds_proofs.go_taken_packages_proofs.WorldsInOrder.{in_order}
use Rattle.api_std_types.specs.go_std_worlds.StdSources.{HavePaths, KeepStdApart}
use Rattle.api_std_types.proofs.go_unit_worlds_proofs.JoinedInTurn.{no_world, none_there, world_in_turn}
use Rattle.api_std_types.proofs.go_unit_worlds_proofs.SharedWorlds.{all_held}
use Rattle.api_correspond.specs.OwnedPairs.{HoldsOwned}
use Rattle.api_correspond.specs.Publics.{package_at}
use Rattle.api_correspond.specs.Rules.{Compatible}
use Rattle.api_correspond.specs.SharedStd.{ShareStd}
use Rattle.api_kept_clients.specs.ServedClients.{ServesClients}
use Rattle.api_kept_clients.specs.ServedUnits.{HaveOtherPaths, ServesUnits, ShareStdUnits}
use Rattle.api_kept_clients.proofs.ClientSettings.{AreCompatible}
use Rattle.api_std_types.proofs.StdWorlds.{methods_stay, stands_alone}

some_paths : (us : List PackageSource) → HaveOtherPaths us → HavePaths us
some_paths us h u i = (h u i).0

no_empty : (bits : ℕ) (us : List PackageSource) (w : Packages) → KeepStdApart us → HavePaths us → IsWorldOf bits us w → package_at w [] ≡ None
no_empty bits us w a x k = let i = in_order bits us w k in nothing_at_empty bits us i.0 w (own_of us a x) i.1

is_world : (bits : ℕ) (us : List PackageSource) (w : Packages) → KeepStdApart us → HaveOtherPaths us → IsWorldOf bits us w → IsWorld w
is_world bits us w a x k = world_in_turn bits k.become no_world a.own_paths x (none_there us)

share_std : (bits : ℕ) (us vs : List PackageSource) (w v : Packages) → KeepStdApart us → KeepStdApart vs → HavePaths us → HavePaths vs → ShareStdUnits us vs → IsWorldOf bits us w → IsWorldOf bits vs v → ShareStd w v
share_std bits us vs w v a b x y s k l = record {
  sides = λ path p q e f. (
      let g = written_side bits us w a x k path p e in
      let h = written_side bits vs v b y l path q f in
      g.3 ∙ s.sides g.0 h.0 g.1 h.1 (g.2 ∙ sym h.2) ∙ sym h.3);
  same = λ path p q e f std. same_std bits us vs w v a b x y s.same k l path p q e f std;
}

serves_clients : (bits : ℕ) (us vs : List PackageSource) (w v : Packages) → ServesUnits bits us vs w v → ServesClients w v
serves_clients bits us vs w v s = record {
  world = is_world bits vs v s.apart_too s.paths_too s.world_too;
  holds = λ path p e. all_held bits us vs w v (s.apart).own_paths (s.apart_too).own_paths (some_paths vs s.paths_too) s.among s.world s.world_too path p e;
  pathed = no_empty bits vs v s.apart_too (some_paths vs s.paths_too) s.world_too;
}

pub are_compatible : (bits : ℕ) (us vs bs xs : List PackageSource) (old new before after : Packages) (pairs : List TypePair) → ServesUnits bits us bs old before → ServesUnits bits vs xs new after → ShareStdUnits us vs → ShareStdUnits bs xs → HoldsOwned old new pairs → Compatible old new → AreCompatible old new before after pairs
are_compatible bits us vs bs xs old new before after pairs s t g h k c = record {
  holds = k;
  compatible = c;
  old_world = is_world bits us old s.apart s.paths s.world;
  new_world = is_world bits vs new t.apart t.paths t.world;
  share = share_std bits us vs old new s.apart t.apart (some_paths us s.paths) (some_paths vs t.paths) g s.world t.world;
  stay = methods_stay bits us s.apart (some_paths us s.paths) old s.world;
  serves = serves_clients bits us bs old before s;
  serves_too = serves_clients bits vs xs new after t;
  share_too = share_std bits bs xs before after s.apart_too t.apart_too (some_paths bs s.paths_too) (some_paths xs t.paths_too) h s.world_too t.world_too;
  alone = stands_alone bits bs s.apart_too (some_paths bs s.paths_too) before s.world_too;
}
