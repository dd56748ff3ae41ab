-- Why a package has no typing, and where: the first cause in an order of kinds, and its first place.
-- Public source: Go specification, "Declarations and scope" and "Import declarations". The order is own.
use Rattle.std.specs.Prelude.{◌≡◌, ℕ, suc, true, false, List, [], ◌∷◌, ◌++◌, map}
use Rattle.go_references.specs.go_syntax.declared.name.Name.{Name}
use Rattle.go_references.specs.go_syntax.declared.name.Place.{Place}
use Rattle.go_typings.specs.Assignments.{At}
use Rattle.go_typings.specs.Declarations.{Form, method, Declaration, declarations, names_of}
use Rattle.go_typings.specs.Redeclarations.{IsRedeclared}
use Rattle.go_typings.specs.Sources.{Import, PackageSource, Setting, SourceFile}
use Rattle.go_typings.specs.Typings.{IsFirstUnsound}

-- the first cause and its place
pub data Refusal : Type 0 where
  -- a name that was declared before
  redeclared : Place → Refusal
  -- a used import that isn't found
  missing_import : Place → Refusal
  -- a declaration without a typing
  unsound : Place → Refusal

-- ---- imports

abbrev pub import_at : ℕ → Import → ℕ × Import
import_at file i = (file, i)

abbrev pub imports_from : ℕ → List SourceFile → List (ℕ × Import)
imports_from file [] = []
imports_from file (f ∷ fs) = map (import_at file) f.imports ++ imports_from (suc file) fs

-- the first of the imports in the order of the list, each beside its file, that isn't found
pub data IsFirstMissing : List (ℕ × Import) → Place → Type 0 where
  missing_here : {file : ℕ} {i : Import} {is : List (ℕ × Import)} → i.is_found ≡ false → IsFirstMissing ((file, i) ∷ is) (record { file = file; offset = i.place })
  missing_later : {file : ℕ} {i : Import} {is : List (ℕ × Import)} {p : Place} → i.is_found ≡ true → IsFirstMissing is p → IsFirstMissing ((file, i) ∷ is) p

abbrev pub IsMissing : PackageSource → Place → Type 0
IsMissing u p = IsFirstMissing (imports_from 0 u.files) p

-- ---- declarations

abbrev pub first_offset : List Name → ℕ
first_offset [] = 0
first_offset (n ∷ ns) = n.place

-- a declaration stands where its first name does
abbrev pub offset_of : Form → ℕ
offset_of (method receiver f) = f.name.place
offset_of f = first_offset (names_of f)

abbrev pub place_of : Declaration → Place
place_of d = record { file = d.file; offset = offset_of d.form }

-- ---- the refusal of a package

-- the package is refused so
abbrev pub IsRefused : Setting → PackageSource → Refusal → Type 0
IsRefused s u (redeclared p) = IsRedeclared u p
IsRefused s u (missing_import p) = ((q : Place) → IsRedeclared u q → ⊥) × IsMissing u p
IsRefused s u (unsound p) = ((q : Place) → IsRedeclared u q → ⊥) × ((q : Place) → IsMissing u q → ⊥) × ((n : ℕ) × IsFirstUnsound s u n × At (declarations u) n (λ d. place_of d ≡ p))
