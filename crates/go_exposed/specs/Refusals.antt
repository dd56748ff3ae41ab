-- Why a package is refused of which declarations may be left out: the first cause in an order of kinds, and its first place.
-- Public source: Go specification, "Declarations and scope" and "Import declarations". The order, and what is left out, is own.
use Rattle.std.specs.Prelude.{◌≡◌, ◌<◌, ◌⊎◌, ℕ, false, List, ◌∷◌, length}
use Rattle.go_syntax.specs.declared.name.Place.{Place}
use Rattle.go_typings.specs.Assignments.{At}
use Rattle.go_typings.specs.Declarations.{declarations}
use Rattle.go_typings.specs.Redeclarations.{IsRedeclared}
use Rattle.go_typings.specs.Refusals.{Refusal, redeclared, missing_import, unsound, imports_from, place_of}
use Rattle.go_typings.specs.Sources.{Import, PackageSource, Setting}
use Rattle.go_typings.specs.Typings.{IsSound}
use Rattle.go_exposed.specs.BeyondProfile.{IsBeyond}
use Rattle.go_exposed.specs.ExposedDeclarations.{IsExposed}
use Rattle.go_exposed.specs.ImportUses.{SelectsFrom}
use Rattle.go_exposed.specs.KeptDeclarations.{IsLeftOut}

-- ---- imports

-- a declaration of the file that is seen selects from the import
pub record IsSeenIn (u : PackageSource) (file : ℕ) (i : Import) : Type 0 where
  pub number : ℕ
  pub seen : IsExposed u number
  pub selects : At (declarations u) number (λ d. (d.file ≡ file) × SelectsFrom u d i)

-- the import, beside its file, isn't found, and is needed: what is seen selects from it
pub record IsNeeded (u : PackageSource) (x : ℕ × Import) : Type 0 where
  pub missing : x.1.is_found ≡ false
  pub seen : IsSeenIn u x.0 x.1

-- where it stands
abbrev pub import_place : ℕ × Import → Place
import_place x = record { file = x.0; offset = x.1.place }

-- the first of the imports in the order of the list, each beside its file, that is needed
pub data IsFirstMissing (u : PackageSource) : List (ℕ × Import) → Place → Type 0 where
  missing_here : {file : ℕ} {i : Import} {is : List (ℕ × Import)} → IsNeeded u (file, i) → IsFirstMissing u ((file, i) ∷ is) (import_place (file, i))
  missing_later : {file : ℕ} {i : Import} {is : List (ℕ × Import)} {p : Place} → (IsNeeded u (file, i) → ⊥) → IsFirstMissing u is p → IsFirstMissing u ((file, i) ∷ is) p

abbrev pub IsMissing : PackageSource → Place → Type 0
IsMissing u p = IsFirstMissing u (imports_from 0 u.files) p

-- ---- declarations

module _ (s : Setting) (u : PackageSource) where
  -- the declaration has no typing, and other modules see it or it isn't beyond the profile
  pub record IsWrong (n : ℕ) : Type 0 where
    pub unsound : IsSound s u n → ⊥
    pub counts : IsExposed u n ⊎ (IsBeyond s u n → ⊥)

  -- the first such declaration: each before it has a typing or is left out
  pub record IsFirstWrong (n : ℕ) : Type 0 where
    pub is : n < length (declarations u)
    pub wrong : IsWrong n
    pub first : (m : ℕ) → m < n → IsSound s u m ⊎ IsLeftOut s u m

-- ---- the refusal of a package

-- the package is refused so
abbrev pub IsRefused : Setting → PackageSource → Refusal → Type 0
IsRefused s u (redeclared p) = IsRedeclared u p
IsRefused s u (missing_import p) = ((q : Place) → IsRedeclared u q → ⊥) × IsMissing u p
IsRefused s u (unsound p) = ((q : Place) → IsRedeclared u q → ⊥) × ((q : Place) → IsMissing u q → ⊥) × ((n : ℕ) × IsFirstWrong s u n × At (declarations u) n (λ d. place_of d ≡ p))
