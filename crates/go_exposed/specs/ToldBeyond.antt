-- The declarations that are beyond the profile, told in entries that are had and where some declarations are lost.
-- Own.
use Rattle.std.specs.Prelude.{◌≡◌, ℕ, Bool, false}
use Rattle.go_typings.specs.Assignments.{At}
use Rattle.go_typings.specs.Declarations.{declarations}
use Rattle.go_typings.specs.PackageEnvironments.{Entries, environment}
use Rattle.go_typings.specs.References.{DependsOn}
use Rattle.go_typings.specs.Sources.{PackageSource, Setting}
use Rattle.go_exposed.specs.BeyondProfile.{HasInexactType, HasInexactValue, HasNumber, SelectsMissing}

module _ (s : Setting) (u : PackageSource) (a : Entries) (lost : ℕ → Bool) where
  -- nothing is lost on which the declaration depends
  abbrev pub DependsOnKept : ℕ → Type 0
  DependsOnKept n = (m : ℕ) → At (declarations u) n (λ d. DependsOn u d.form m) → lost m ≡ false

  -- by itself, or for one on which it depends: an inexact constant counts where nothing is lost on which it depends
  pub data IsToldBeyond : ℕ → Type 0 where
    told_number : {n : ℕ} → At (declarations u) n (λ d. HasNumber d.form) → IsToldBeyond n
    told_import : {n : ℕ} → At (declarations u) n (λ d. SelectsMissing u d) → IsToldBeyond n
    told_type : {n : ℕ} → DependsOnKept n → At (declarations u) n (λ d. HasInexactType (environment s u a d) d.form) → IsToldBeyond n
    told_value : {n : ℕ} → DependsOnKept n → At (declarations u) n (λ d. HasInexactValue (environment s u a d) d.form) → IsToldBeyond n
    told_another : {m : ℕ} (n : ℕ) → At (declarations u) m (λ d. DependsOn u d.form n) → IsToldBeyond n → IsToldBeyond m
