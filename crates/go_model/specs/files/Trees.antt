-- Paths of modules and of folders, and the facts that a tree of Go files keeps.
-- Public source: Go Modules Reference, "go.mod files: lexical elements" and "Module paths", where an element is made of ASCII letters, digits and `-._~`.
-- The limits are this project's own.
use Rattle.std.specs.Prelude.{◌≡◌, ◌≢◌, ◌≤◌, ◌⊎◌, ℕ, Bool, true, not, ◌&&◌, ◌||◌, nat_eq, nat_le, List, [], length, codes}
use Rattle.std.specs.List.{list_all, slice_split, starts_with}
use Rattle.go_base.specs.Lists.{Each}
use Rattle.go_model.specs.declared.files.tree.Tree.{Tree}
use Rattle.go_model.specs.declared.files.tree.TreeFile.{TreeFile}
use Rattle.go_model.specs.declared.files.tree.LimitName.{LimitName}
use Rattle.go_model.specs.declared.files.tree.LimitName.TheVariants as limit

-- a byte from one to another
unfoldable pub is_within : ℕ → ℕ → ℕ → Bool
is_within low high b = nat_le low b && nat_le b high

-- an ASCII letter or digit, or one of `-`, `.`, `_` and `~`
unfoldable pub is_element_byte : ℕ → Bool
is_element_byte b = is_within 97 122 b || is_within 65 90 b || is_within 48 57 b || nat_eq b 45 || nat_eq b 46 || nat_eq b 95 || nat_eq b 126

-- a text that isn't empty and begins neither with `-` nor with `.`
unfoldable pub begins_element : List ℕ → Bool
begins_element name = not (nat_eq (length name) 0) && not (starts_with nat_eq name (codes "-")) && not (starts_with nat_eq name (codes "."))

-- an element of a path: one or more such bytes, the first neither `-` nor `.`
unfoldable pub is_element : List ℕ → Bool
is_element name = begins_element name && list_all is_element_byte name

-- one or more elements joined by `/`
abbrev pub are_elements : List ℕ → Bool
are_elements path = list_all is_element (slice_split (λ b. nat_eq b 47) path)

-- the path of a module
abbrev pub IsModulePath : List ℕ → Type 0
IsModulePath path = (are_elements path ≡ true) × (path ≢ codes "unsafe") × (path ≢ codes "C")

-- the path of a folder below the root of a tree
abbrev pub IsFolderPath : List ℕ → Type 0
IsFolderPath folder = (folder ≡ []) ⊎ (are_elements folder ≡ true)

-- the number that a count may reach
abbrev pub most : LimitName → ℕ
most limit.FileBytes = 4194304
most limit.Files = 20000
most limit.Bytes = 67108864
most limit.Packages = 4096
most limit.Folders = 65536

-- a file as it stands in a tree
pub record IsTreeFile (file : TreeFile) : Type 0 where
  pub placed : IsFolderPath file.folder
  pub small : length file.bytes ≤ most limit.FileBytes

-- what every tree keeps that was read, whatever the store
pub record IsTree (tree : Tree) : Type 0 where
  pub named : (tree.module ≡ []) ⊎ IsModulePath tree.module
  pub few : length tree.files ≤ most limit.Files
  pub held : Each IsTreeFile tree.files
