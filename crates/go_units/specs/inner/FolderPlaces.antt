-- What the functions on folders ask of one.
use Rattle.std.specs.Prelude.{◌≡◌, ◌≢◌, ◌<◌, ℕ, Bool, true, false, Option, Some, None, List, length, get_or, codes}
use Rattle.go_units.specs.Folders.{folder_of, MayBeFound}
use Rattle.go_units.specs.declared.folder.Folder.{Folder}

-- the answer is the one number of which the fact holds, or there is none
abbrev pub FindsOne : (ℕ → Type 0) → Option ℕ → Type 0
FindsOne P (Some n) = P n × ((m : ℕ) → P m → m ≡ n)
FindsOne P None = (m : ℕ) → P m → ⊥

-- the folder of this number has the path
abbrev pub IsAt : List Folder → List ℕ → ℕ → Type 0
IsAt folders path n = (n < length folders) × ((folder_of folders n).path ≡ path)

abbrev pub IsLibrary : Option (List ℕ) → Type 0
IsLibrary name = name ≢ Some (codes "main")

abbrev pub IsAskedFor : Folder → Type 0
IsAskedFor folder = (folder.from_std ≡ true) × MayBeFound folder

abbrev pub IsFoundable : List Bool → Folder → ℕ → Type 0
IsFoundable packages folder n = (folder.package_name ≢ None) × MayBeFound folder × (get_or packages n false ≡ true)
