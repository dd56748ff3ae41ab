-- Where the files stand that fault lines name: in a module's tree, in the standard library's, or in a client's folder.
-- Own: this project's reports.
use Rattle.std.specs.Prelude.{ℕ, Bool, not, nat_eq, ◌&&◌, ◌||◌, if◌then◌else◌, List, [], ◌++◌, length, get_or, codes, bytes_eq}
use Rattle.std.specs.List.{starts_with}
use Rattle.go_model.specs.types.Terms.{client_path}
use Rattle.api_refusals.specs.declared.root.Root.{Root}
use Rattle.api_refusals.specs.declared.root.Root.TheVariants as root

-- an import path that neither equals a module's path nor lies under it is of the standard library
abbrev pub is_outside : List ℕ → List ℕ → Bool
is_outside module_path path = not (starts_with nat_eq path module_path && (nat_eq (length path) (length module_path) || nat_eq (get_or path (length module_path) 0) 47))

-- where a package stands, by whether it is of the standard library, and by its path, which a client's alone has
abbrev pub root_by : Bool → List ℕ → Root
root_by from_std path = if bytes_eq path client_path then root.Client else if from_std then root.Std else root.Module

-- where a package of a path stands
abbrev pub root_of : List ℕ → List ℕ → Root
root_of module_path path = root_by (is_outside module_path path) path

abbrev pub prefix : Root → List ℕ
prefix root.Module = []
prefix root.Std = codes "std:"
prefix root.Client = codes "client:"

-- how fault lines name a file, by its path below its root
abbrev pub file_name : Root → List ℕ → List ℕ
file_name r path = prefix r ++ path
