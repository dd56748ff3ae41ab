-- How many packages a run checks at most for a client. The client's own package isn't counted.
-- Own: the counter of checks.
use Rattle.std.specs.Prelude.{◌≤◌, ◌+◌, ℕ, List, [], ◌∷◌, length}
use Rattle.api_clients.specs.ClientAnswers.{AreUnitsOn}
use Rattle.go_client_unit_laws.specs.go_client_units.declared.units.ClientUnits.{ClientUnits}
use Rattle.go_model.specs.declared.files.platform.Platform.{Platform}
use Rattle.go_model.specs.declared.files.tree.Tree.{Tree}

module _ (barred : List (List ℕ)) (tree std_tree client : Tree) where
  -- all that the module and the client have on a platform, or none
  pub data CountsOn (p : Platform) : ℕ → Type 0 where
    no_package : CountsOn p 0
    all_packages : (units : ClientUnits) → AreUnitsOn barred tree std_tree client p units → CountsOn p (length units.packages.packages)

  -- those of all platforms together
  pub data CountsPackages : List Platform → ℕ → Type 0 where
    count_none : CountsPackages [] 0
    count_more : {p : Platform} {ps : List Platform} (here : ℕ) {rest : ℕ} → CountsOn p here → CountsPackages ps rest → CountsPackages (p ∷ ps) (here + rest)

  -- a counter rose by no more than that
  abbrev pub CountsAtMost : List Platform → ℕ → ℕ → Type 0
  CountsAtMost ps before now = (n : ℕ) × CountsPackages ps n × (now ≤ before + n)
