-- Platforms that are alike on files: a run that has typed packages on one of them has the same packages on the other.
-- Public source: "Build constraints" of Go's package go/build; Go specification, "Numeric types", which leaves the sizes of `int`, `uint` and `uintptr` to the platform.
use Rattle.std.specs.Prelude.{◌≡◌, ◌≤◌, ◌<◌, ℕ, List, [], ◌++◌, length, get_or, Option, Some, None}
use Rattle.go_base.specs.Lists.{Has}
use Rattle.go_model.specs.declared.files.build.Header.{Header}
use Rattle.go_model.specs.declared.files.platform.Platform.{Platform}
use Rattle.go_model.specs.declared.files.platform.Platform.TheVariants as p
use Rattle.go_model.specs.declared.files.tree.Tree.{Tree}
use Rattle.go_model.specs.declared.files.tree.TreeFile.{TreeFile}
use Rattle.go_model.specs.files.BuildValues.{is_chosen}
use Rattle.go_model.specs.files.Headers.{IsHeader}
use Rattle.go_model.specs.files.Platforms.{bits_of}

-- both platforms allow the name of the file or neither does, and by a header that it has both choose it or neither does
pub record ChooseAlike (p q : Platform) (file : TreeFile) : Type 0 where
  pub named : is_chosen p file.name None ≡ is_chosen q file.name None
  pub headed : (header : Header) → IsHeader file.bytes header → is_chosen p file.name header.constraint ≡ is_chosen q file.name header.constraint

-- so it is with each of the files
abbrev pub AllChosenAlike : List TreeFile → Platform → Platform → Type 0
AllChosenAlike files p q = (file : TreeFile) → Has files file → ChooseAlike p q file

-- and `int`, `uint` and `uintptr` have as many bits on both
pub record AreAlike (files : List TreeFile) (p q : Platform) : Type 0 where
  pub bits : bits_of p ≡ bits_of q
  pub chosen : AllChosenAlike files p q

-- the files of the old tree, where there is one
abbrev pub old_files : Option Tree → List TreeFile
old_files None = []
old_files (Some tree) = tree.files

-- the files of the trees of a run
abbrev pub files_of : Option Tree → Tree → Tree → List TreeFile
files_of old tree std_tree = old_files old ++ (tree.files ++ std_tree.files)

-- the platform of a number
abbrev pub platform_at : List Platform → ℕ → Platform
platform_at ps n = get_or ps n p.Linux386

-- the platform of the one number is the first in the list that is alike that of the other
pub record IsFirstAlike (files : List TreeFile) (ps : List Platform) (i n : ℕ) : Type 0 where
  pub within : n ≤ i
  pub alike : AreAlike files (platform_at ps n) (platform_at ps i)
  pub first : (m : ℕ) → m < n → AreAlike files (platform_at ps m) (platform_at ps i) → ⊥

-- the number of that platform for each one of the list
pub record AreFirsts (files : List TreeFile) (ps : List Platform) (ns : List ℕ) : Type 0 where
  pub many : length ns ≡ length ps
  pub each : (i : ℕ) → i < length ps → IsFirstAlike files ps i (get_or ns i 0)
