-- A package as it is written: its files in the order of their names, each with the imports that it uses and its declarations, both in the
-- order of their places. All that is said to be first is so by the order of these lists.
-- Public source: Go specification, "Source file organization" and "Import declarations". That an import need not be found
-- is own.
use Rattle.std.specs.Prelude.{◌≡◌, ℕ, Bool, true, List, [], Option, None, Some, slice_get}
use Rattle.go_references.specs.go_base.Lists.{Has}
use Rattle.go_rules.specs.go_model.worlds.Worlds.{Packages}
use Rattle.go_references.specs.go_syntax.declared.declaration.Decl.{Decl}

-- an import that a file uses: its name in the file, the path, whether a package is found there, typed or not, and the byte offset of
-- the path's first quote
pub record Import : Type 0 where
  pub name : List ℕ
  pub path : List ℕ
  pub is_found : Bool
  pub place : ℕ

pub record SourceFile : Type 0 where
  pub imports : List Import
  pub declarations : List Decl

pub record PackageSource : Type 0 where
  pub path : List ℕ
  pub name : List ℕ
  pub from_std : Bool
  pub files : List SourceFile

-- what a package is typed in: the packages that its imports are of, the bits of int, uint and uintptr, and whether as a
-- client of the profile
pub record Setting : Type 0 where
  pub world : Packages
  pub bits : ℕ
  pub profile : Bool

abbrev pub import_name : Import → List ℕ
import_name i = i.name

abbrev pub imports_in : Option SourceFile → List Import
imports_in None = []
imports_in (Some f) = f.imports

-- the imports of a file, by its number
abbrev pub imports_of : PackageSource → ℕ → List Import
imports_of u file = imports_in (slice_get u.files file)

-- each import of the package is found
abbrev pub AreFound : PackageSource → Type 0
AreFound u = (file : ℕ) (i : Import) → Has (imports_of u file) i → i.is_found ≡ true
