-- The world of packages in a list of which declarations may be left out, each typed over those before it, and what becomes of each.
-- Public source: Go specification, "Import declarations" and "Package initialization"; that a package isn't typed where one that it imports
-- isn't, and what is left out, is own.
use Rattle.std.specs.Prelude.{◌≡◌, ℕ, suc, false, List, [], ◌∷◌}
use Rattle.go_base.specs.Lists.{Passes}
use Rattle.go_model.specs.worlds.Worlds.{Packages}
use Rattle.go_typings.specs.PackageWorlds.{AreTyped, Outcome, typed, refused, blocked, is_refused, is_typed, no_packages, over, with_outcome}
use Rattle.go_typings.specs.Refusals.{Refusal}
use Rattle.go_typings.specs.Sources.{PackageSource, Setting}
use Rattle.go_exposed.specs.OfferedPackages.{IsOfferedAs}
use Rattle.go_exposed.specs.Refusals.{IsRefused}

-- this becomes of the package
abbrev pub Becomes : Setting → PackageSource → Outcome → Type 0
Becomes s u (typed p) = AreTyped s.world u × IsOfferedAs s u p
Becomes s u (refused r) = AreTyped s.world u × IsRefused s u r
Becomes s u blocked = AreTyped s.world u → ⊥

-- the listed packages become these in turn, each over the first packages and those that are typed before it; the last packages are the
-- first with all that are typed
pub data Become (bits : ℕ) : Packages → List PackageSource → List Outcome → Packages → Type 0 where
  become_none : {w : Packages} → Become bits w [] [] w
  become_more : {w v : Packages} {u : PackageSource} {us : List PackageSource} {x : Outcome} {xs : List Outcome} → Becomes (over bits w) u x → Become bits (with_outcome w u x) us xs v → Become bits w (u ∷ us) (x ∷ xs) v

-- all of the listed packages are typed, and this is their world
pub record IsWorldOf (bits : ℕ) (us : List PackageSource) (w : Packages) : Type 0 where
  pub outcomes : List Outcome
  pub become : Become bits no_packages us outcomes w
  pub all_typed : Passes is_typed outcomes

-- over the first packages the listed one of this number is refused so, and none before it is refused; what comes after doesn't count
pub data IsRefusedAt (bits : ℕ) : Packages → List PackageSource → ℕ → Refusal → Type 0 where
  refused_here : {w : Packages} {u : PackageSource} {us : List PackageSource} {r : Refusal} → Becomes (over bits w) u (refused r) → IsRefusedAt bits w (u ∷ us) 0 r
  refused_later : {w : Packages} {u : PackageSource} {us : List PackageSource} {n : ℕ} {r : Refusal} (x : Outcome) → Becomes (over bits w) u x → is_refused x ≡ false → IsRefusedAt bits (with_outcome w u x) us n r → IsRefusedAt bits w (u ∷ us) (suc n) r

abbrev pub IsFirstRefused : ℕ → List PackageSource → ℕ → Refusal → Type 0
IsFirstRefused bits us n r = IsRefusedAt bits no_packages us n r
