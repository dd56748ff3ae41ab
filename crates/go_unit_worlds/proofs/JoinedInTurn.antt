-- Packages that are typed one after another, each with a path of its own, make a world.
use Rattle.std.proofs.Common.{◌≡◌, ◌≢◌, inl, inr, ℕ, List, [], map, refl, sym, ◌∙◌, subst, None}
use Rattle.go_base.specs.Keys.{first_with}
use Rattle.go_base.specs.Lists.{Has}
use Rattle.go_model.specs.types.Terms.{client_path}
use Rattle.go_model.specs.worlds.Worlds.{IsWorld, Packages, path_of}
use Rattle.go_std_worlds.proofs.go_taken_packages_proofs.KeptPaths.{mapped, other_kept}
use Rattle.go_std_worlds.proofs.go_typed_packages_proofs.JoinedWorlds.{offered_joins}
use Rattle.go_std_worlds.specs.StdSources.{HaveOwnPaths, source_path}
use Rattle.go_exposed.specs.OfferedWorlds.{Become, Becomes, become_more, become_none}
use Rattle.go_typings.specs.PackageWorlds.{Outcome, blocked, is_public, no_packages, over, refused, typed, with_outcome}
use Rattle.go_typings.specs.Sources.{PackageSource}

-- none of the listed packages stands in the world yet
abbrev AreNew : Packages → List PackageSource → Type 0
AreNew w us = (u : PackageSource) → Has us u → first_with path_of w.packages u.path ≡ None

abbrev HavePaths : List PackageSource → Type 0
HavePaths us = (u : PackageSource) → Has us u → (u.path ≢ []) × (u.path ≢ client_path)

module _ (bits : ℕ) where
  with_one : (w : Packages) (u : PackageSource) (x : Outcome) → IsWorld w → (u.path ≢ []) × (u.path ≢ client_path) → first_with path_of w.packages u.path ≡ None → Becomes (over bits w) u x → IsWorld (with_outcome w u x)
  with_one w u (typed p) i h n b = offered_joins (over bits w) u p i b.1 n h.0 h.1 (is_public u)
  with_one w u (refused r) i h n b = i
  with_one w u blocked i h n b = i

  pub world_in_turn : {w v : Packages} {us : List PackageSource} {xs : List Outcome} → Become bits w us xs v → IsWorld w → HaveOwnPaths us → HavePaths us → AreNew w us → IsWorld v
  world_in_turn become_none i o h n = i
  world_in_turn {w = w} (become_more {u = u} {us = us} {x = x} b rest) i o h n =
      world_in_turn rest (with_one w u x i (h u (inl refl)) (n u (inl refl)) b) o.1 (λ v k. h v (inr k))
      (λ v k. other_kept bits w u x v.path b (λ e. o.0 (subst (Has (map source_path us)) (sym e) (mapped source_path us v k))) ∙ n v (inr k))

-- the empty world
pub no_world : IsWorld no_packages
no_world = record { ordered = tt; packaged = tt; owned = tt; public_order = tt; public_paths = tt }

pub none_there : (us : List PackageSource) → AreNew no_packages us
none_there us u h = refl
