-- How many packages a run checks at most.
-- Own: the counter of checks.
use Rattle.std.specs.Prelude.{◌≡◌, ◌≤◌, ◌+◌, ℕ, List, [], ◌∷◌, Option, Some, None}
use Rattle.api_worlds.specs.PlatformWorlds.{CountsOn}
use Rattle.go_model.specs.declared.files.platform.Platform.{Platform}
use Rattle.go_model.specs.declared.files.tree.Tree.{Tree}

module _ (barred : List (List ℕ)) (std_tree : Tree) where
  -- the packages of a tree on a platform, or none
  abbrev pub CountsOf : Platform → Option Tree → ℕ → Type 0
  CountsOf p None n = n ≡ 0
  CountsOf p (Some tree) n = CountsOn barred tree std_tree p n

  -- those of both trees on all platforms together
  pub data CountsPackages (old : Option Tree) (tree : Tree) : List Platform → ℕ → Type 0 where
    count_none : CountsPackages old tree [] 0
    count_more : {p : Platform} {ps : List Platform} (before now : ℕ) {rest : ℕ} → CountsOf p old before → CountsOf p (Some tree) now → CountsPackages old tree ps rest
        → CountsPackages old tree (p ∷ ps) (before + now + rest)

-- a counter rose by no more than that
abbrev pub CountsAtMost : List (List ℕ) → Option Tree → Tree → Tree → List Platform → ℕ → ℕ → Type 0
CountsAtMost barred old tree std_tree ps before now = (n : ℕ) × CountsPackages barred std_tree old tree ps n × (now ≤ before + n)
