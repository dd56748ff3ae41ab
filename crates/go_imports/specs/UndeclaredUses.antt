-- The used imports of a file whose names aren't among those that its package declares.
-- Own: words of contracts.
use Rattle.std.specs.Prelude.{ℕ, Bool, not, List, filter}
use Rattle.std.specs.BTreeMap.{is_at}
use Rattle.std.specs.Cmp.Lexicographic.{slice_cmp}
use Rattle.std.specs.List.{list_any}
use Rattle.std.specs.Ordering.{nat_cmp}
use Rattle.go_imports.specs.declared.used_imports.NamedImport.{NamedImport}

-- the import isn't named as one of these
abbrev pub is_undeclared : List (List ℕ) → NamedImport → Bool
is_undeclared declared u = not (list_any (is_at (slice_cmp nat_cmp u.name)) declared)

-- the imports that aren't named as one of these, in their order
abbrev pub undeclared : List (List ℕ) → List NamedImport → List NamedImport
undeclared declared uses = filter (is_undeclared declared) uses
