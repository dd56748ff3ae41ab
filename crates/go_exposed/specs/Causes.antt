-- Why a declaration is beyond the profile: one cause for each.
-- Own.
use Rattle.std.specs.Prelude.{◌≡◌, ◌≢◌, ◌<◌, ◌⊎◌, ℕ, Bool, List, [], ◌∷◌}
use Rattle.go_syntax.specs.declared.name.Name.{Name}
use Rattle.go_typings.specs.Assignments.{At}
use Rattle.go_typings.specs.Declarations.{Form, method, declarations, names_of}
use Rattle.go_typings.specs.PackageEnvironments.{Entries, environment}
use Rattle.go_typings.specs.References.{DependsOn}
use Rattle.go_typings.specs.Sources.{PackageSource, Setting}
use Rattle.go_exposed.specs.BeyondProfile.{HasInexactType, HasInexactValue, HasNumber, HoldsTyped, IsBeyond, SelectsMissing}
use Rattle.go_exposed.specs.ToldBeyond.{DependsOnKept, IsToldBeyond}

pub data Cause : Type 0 where
  -- a number that the profile can't say
  number : Cause
  -- constants of an inexact type
  constant_type : Cause
  import_not_found : Cause
  -- another declaration, by its first name
  by_another : List ℕ → Cause

-- the names by which a declaration is shown: those that it declares, or a method's own
abbrev pub shown_names : Form → List Name
shown_names (method receiver f) = f.name ∷ []
shown_names f = names_of f

abbrev pub first_name : List Name → List ℕ
first_name [] = []
first_name (n ∷ ns) = n.text

-- the causes, where it is given of which declarations constants are inexact and which are beyond the profile
module _ (u : PackageSource) (Inexact Beyond : ℕ → Type 0) where
  abbrev pub IsOfNumber : ℕ → Type 0
  IsOfNumber n = At (declarations u) n (λ d. HasNumber d.form)

  abbrev pub IsOfMissing : ℕ → Type 0
  IsOfMissing n = At (declarations u) n (λ d. SelectsMissing u d)

  -- it depends on the other declaration, which is beyond the profile
  pub record IsThrough (n m : ℕ) : Type 0 where
    pub other : m ≢ n
    pub depends : At (declarations u) n (λ d. DependsOn u d.form m)
    pub beyond : Beyond m

  -- which is the first such one
  pub record IsFirstThrough (n m : ℕ) : Type 0 where
    pub through : IsThrough n m
    pub first : (k : ℕ) → k < m → IsThrough n k → ⊥

  -- the first cause in this order: another declaration only where none applies by itself
  pub data HasCauseBy (n : ℕ) : Cause → Type 0 where
    of_number : IsOfNumber n → HasCauseBy n number
    of_constant_type : (IsOfNumber n → ⊥) → Inexact n → HasCauseBy n constant_type
    of_import : (IsOfNumber n → ⊥) → (Inexact n → ⊥) → IsOfMissing n → HasCauseBy n import_not_found
    of_another : {m : ℕ} {name : List ℕ} → (IsOfNumber n → ⊥) → (Inexact n → ⊥) → (IsOfMissing n → ⊥) → IsFirstThrough n m → At (declarations u) m (λ d. first_name (shown_names d.form) ≡ name) → HasCauseBy n (by_another name)

-- ---- the cause of a declaration

abbrev pub IsInexactConstant : Setting → PackageSource → ℕ → Type 0
IsInexactConstant s u n = HoldsTyped s u HasInexactType n ⊎ HoldsTyped s u HasInexactValue n

abbrev pub HasCause : Setting → PackageSource → ℕ → Cause → Type 0
HasCause s u n c = HasCauseBy u (IsInexactConstant s u) (IsBeyond s u) n c

-- ---- the same, told in entries that are had and where some declarations are lost

module _ (s : Setting) (u : PackageSource) (a : Entries) (lost : ℕ → Bool) where
  pub record IsToldInexact (n : ℕ) : Type 0 where
    pub kept : DependsOnKept s u a lost n
    pub holds : At (declarations u) n (λ d. HasInexactType (environment s u a d) d.form ⊎ HasInexactValue (environment s u a d) d.form)

  abbrev pub HasToldCause : ℕ → Cause → Type 0
  HasToldCause n c = HasCauseBy u IsToldInexact (IsToldBeyond s u a lost) n c
