-- Files that are gathered by the import paths of their folders.
use Rattle.std.specs.Prelude.{◌≡◌, ℕ, Option, Some, None, List, [], ◌∷◌, map, option_map, unwrap_or}
use Rattle.std.specs.BTreeMap.{BTreeMap, get}
use Rattle.std.specs.Cmp.Lexicographic.{slice_cmp}
use Rattle.std.specs.Ordering.{nat_cmp}
use Rattle.go_model.specs.declared.files.tree.TreeFile.{TreeFile}
use denote.Ref.{Bor}

abbrev pub Groups : Type 0
Groups = BTreeMap (List ℕ) (List (Bor TreeFile))

abbrev pub lent : List (Bor TreeFile) → List TreeFile
lent files = map (λ (f : Bor TreeFile). f.now) files

abbrev pub no_file : TreeFile
no_file = record { folder = []; name = []; bytes = [] }

-- the files that were gathered under a path
abbrev pub group : Groups → List ℕ → Option (List TreeFile)
group groups path = option_map lent (get (slice_cmp nat_cmp) groups path)

abbrev pub files_in : Groups → List ℕ → List TreeFile
files_in groups path = unwrap_or (group groups path) []

-- a list that is there where it isn't empty
abbrev pub listed : List TreeFile → Option (List TreeFile)
listed [] = None
listed (f ∷ fs) = Some (f ∷ fs)

-- no path has a group without files
abbrev pub AreFull : Groups → Type 0
AreFull groups = (path : List ℕ) → group groups path ≡ listed (files_in groups path)
