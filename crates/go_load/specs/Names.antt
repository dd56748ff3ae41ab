-- Which entries of a folder the walk takes, and the paths of a tree in its store.
-- Public source: the documentation of Go's command line, "Package lists and patterns" (names that begin with `.` or `_`, and the folders `testdata`), its
-- section on vendoring (the folders `vendor`), and package go/build (the files `.go`, apart from `_test.go`).
use Rattle.std.specs.Prelude.{Bool, not, ◌&&◌, ◌||◌, nat_eq, [], ◌∷◌, ◌++◌, codes}
use Rattle.std.specs.Cmp.Lexicographic.{pointwise}
use Rattle.std.specs.List.{starts_with, ends_with, list_any}
use Rattle.go_model.specs.files.Trees.{is_element}
use Rattle.go_outside.specs.Paths.{Path}

-- a text begins or ends with another
abbrev pub begins : Path → Path → Bool
begins name start = starts_with nat_eq name start

abbrev pub ends : Path → Path → Bool
ends name tail = ends_with nat_eq name tail

abbrev pub is_text : Path → Path → Bool
is_text name text = pointwise nat_eq name text

-- the names that are ignored, of files and of folders
abbrev pub is_hidden : Path → Bool
is_hidden name = begins name (codes ".") || begins name (codes "_")

-- the names of the folders that are walked
abbrev pub is_walked : Path → Bool
is_walked name = is_element name && not (is_hidden name) && not (is_text name (codes "testdata")) && not (is_text name (codes "vendor"))

-- the names of the files that are read; the name of an entry has no `/`
abbrev pub is_candidate : Path → Bool
is_candidate name = ends name (codes ".go") && not (ends name (codes "_test.go")) && not (is_hidden name) && not (list_any (λ b. nat_eq b 47) name)

-- the file that makes a folder the root of a module
abbrev pub go_mod : Path
go_mod = codes "go.mod"

-- a path in a folder of the tree, where the root of the tree is the empty path
abbrev pub under : Path → Path → Path
under [] name = name
under (b ∷ bs) name = b ∷ (bs ++ 47 ∷ name)

-- the path of a folder below a root: of a folder of a tree in its store, and of a package below the path of its module
abbrev pub folder_path : Path → Path → Path
folder_path root [] = root
folder_path root (b ∷ bs) = root ++ 47 ∷ (b ∷ bs)

-- the path of an entry of a folder of the tree in the store
abbrev pub entry_path : Path → Path → Path → Path
entry_path root folder name = folder_path root folder ++ 47 ∷ name
