-- What is left out of a package, and why, declaration by declaration.
-- Own.
use Rattle.std.specs.Prelude.{◌≡◌, ℕ, suc, Bool, true, false, List, [], ◌∷◌}
use Rattle.go_typings.specs.go_rules.Asks.{texts}
use Rattle.go_syntax.specs.declared.name.Place.{Place}
use Rattle.go_typings.specs.Declarations.{Declaration, declarations}
use Rattle.go_typings.specs.Refusals.{place_of}
use Rattle.go_typings.specs.Sources.{PackageSource, Setting}
use Rattle.go_exposed.specs.Causes.{Cause, HasCause, shown_names}

-- a declaration that is left out: where it stands, the names by which it is shown, and the cause
pub record Skipped : Type 0 where
  pub place : Place
  pub names : List (List ℕ)
  pub cause : Cause

abbrev pub skipped_as : Declaration → Cause → Skipped
skipped_as d c = record { place = place_of d; names = texts (shown_names d.form); cause = c }

module _ (s : Setting) (u : PackageSource) (within : ℕ → Bool) where
  -- of these declarations, which are numbered from one on, the ones that aren't kept are these, in order
  pub data AreSkippedFrom : ℕ → List Declaration → List Skipped → Type 0 where
    skipped_none : {n : ℕ} → AreSkippedFrom n [] []
    skipped_kept : {n : ℕ} {d : Declaration} {ds : List Declaration} {xs : List Skipped} → within n ≡ true → AreSkippedFrom (suc n) ds xs → AreSkippedFrom n (d ∷ ds) xs
    skipped_more : {n : ℕ} {d : Declaration} {ds : List Declaration} {c : Cause} {xs : List Skipped} → within n ≡ false → HasCause s u n c → AreSkippedFrom (suc n) ds xs → AreSkippedFrom n (d ∷ ds) (skipped_as d c ∷ xs)

-- where these declarations of the package are kept, those that are left out are these, in the order of files and places
abbrev pub IsSkippedOf : Setting → PackageSource → (ℕ → Bool) → List Skipped → Type 0
IsSkippedOf s u within xs = AreSkippedFrom s u within 0 (declarations u) xs
