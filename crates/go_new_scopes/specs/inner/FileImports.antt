-- The imports of files, of which the first of a name counts, and none that is named `init`.
-- Own: words of the contracts inside this crate.
use Rattle.std.specs.Prelude.{ℕ, suc, Bool, ◌||◌, if◌then◌else◌, nat_eq, List, [], ◌∷◌, is_some}
use Rattle.std.specs.BTreeMap.{insert_entry}
use Rattle.std.specs.Map.{lookup}
use Rattle.std.specs.Ordering.{nat_cmp}
use Rattle.go_rules.specs.Names.{Named, value_at, with_value}
use Rattle.go_rules.specs.Scopes.{imports_in}
use Rattle.go_typings.specs.Declarations.{is_init}
use Rattle.go_typings.specs.PackageEnvironments.{had_path}
use Rattle.go_typings.specs.Sources.{Import, SourceFile}

-- the paths under which each file has imports, by their names
abbrev pub Imports : Type 0
Imports = List (ℕ × Named (List ℕ))

abbrev pub imports_at : Imports → ℕ → Named (List ℕ)
imports_at t file = imports_in (lookup (nat_eq file) t)

-- the import is none for the file: it is named `init`, or the file has one of its name
abbrev pub is_passed : Imports → ℕ → List ℕ → Bool
is_passed t file name = is_init name || is_some (value_at (imports_at t file) name)

abbrev pub with_import : ℕ → Imports → Import → Imports
with_import file t i = if is_passed t file i.name then t else insert_entry nat_cmp t file (with_value (imports_at t file) i.name (had_path i))

abbrev pub with_imports : ℕ → Imports → List Import → Imports
with_imports file t [] = t
with_imports file t (i ∷ is) = with_imports file (with_import file t i) is

-- with those of these files, which are numbered from one on
abbrev pub with_files : ℕ → Imports → List SourceFile → Imports
with_files file t [] = t
with_files file t (f ∷ fs) = with_files (suc file) (with_imports file t f.imports) fs
