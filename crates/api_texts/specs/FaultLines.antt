-- The fault lines of what isn't read, trees and files of frozen lines, and of versions that no other can follow.
-- Own: this project's reports and exit statuses.
use Rattle.std.specs.Prelude.{ℕ, List, ◌++◌, codes}
use Rattle.std.specs.Fmt.{decimal}
use Rattle.go_load.specs.declared.error.LoadError.{LoadError}
use Rattle.go_load.specs.declared.error.LoadError.TheVariants as load
use Rattle.go_model.specs.declared.files.tree.LimitName.{LimitName}
use Rattle.go_model.specs.declared.files.tree.LimitName.TheVariants as limit
use Rattle.api_texts.specs.declared.lines.FrozenFault.{FrozenFault}
use Rattle.api_texts.specs.declared.lines.FrozenFault.TheVariants as frozen
use Rattle.api_texts.specs.declared.lines.Side.{Side}
use Rattle.api_texts.specs.declared.lines.Side.TheVariants as side

-- `apigate: WHERE: WHAT` and a newline
abbrev pub fault_line : List ℕ → List ℕ → List ℕ
fault_line subject what = codes "apigate: " ++ subject ++ codes ": " ++ what ++ codes "\n"

-- how fault lines name a tree of the run
abbrev pub side_name : Side → List ℕ
side_name side.Old = codes "old"
side_name side.New = codes "new"
side_name side.Std = codes "std"
side_name side.Client = codes "client"

abbrev pub limit_text : LimitName → List ℕ
limit_text limit.FileBytes = codes "file-bytes"
limit_text limit.Files = codes "files"
limit_text limit.Bytes = codes "bytes"
limit_text limit.Packages = codes "packages"
limit_text limit.Folders = codes "folders"

-- why a tree isn't loaded; the last two have lines of their own
abbrev pub load_text : LoadError → List ℕ
load_text (load.Missing path) = codes "not found"
load_text load.NoModule = codes "no go.mod"
load_text load.BadModule = codes "no module line in go.mod"
load_text (load.Limit name path) = path ++ codes ": limit " ++ limit_text name
load_text load.ReadFault = codes "read fault"
load_text load.NoMemory = codes "out of memory"

-- a tree isn't loaded
abbrev pub load_line : Side → LoadError → List ℕ
load_line s error = fault_line (side_name s) (load_text error)

-- a file of frozen lines isn't read
abbrev pub frozen_line : List ℕ → FrozenFault → List ℕ
frozen_line path frozen.Missing = fault_line path (codes "not found")
frozen_line path frozen.TooLarge = fault_line path (codes "limit file-bytes")
frozen_line path (frozen.NotUtf8 offset) = fault_line path (codes "not UTF-8 at " ++ decimal offset)
frozen_line path (frozen.NotALine number) = fault_line (path ++ codes ":" ++ decimal number) (codes "not a feature line")

-- the version, as it is written, has a pre-release or build metadata
abbrev pub not_release_line : List ℕ → List ℕ
not_release_line version = codes "apigate: version " ++ version ++ codes " is not a release\n"

-- the number to raise in the version, as it is written, is the last one
abbrev pub no_version_line : List ℕ → List ℕ
no_version_line version = codes "apigate: no version follows " ++ version ++ codes "\n"
