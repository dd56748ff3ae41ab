-- Rows whose packages may be checked.
use Rattle.std.proofs.Common.{◌≡◌, ◌≢◌, ℕ, Bool, true, false, not, ◌&&◌, List, [], Option, Some, None, refl, sym, ◌∙◌, subst}
use Rattle.std.specs.Prelude.{IsSome, is_none}
use Rattle.std.specs.Str.{bytes_eq}
use Rattle.std.proofs.lemmas.Slice.Eq.{bytes_eq-Decides}
use mathlib.Core.Bool.{true≢false}
use Rattle.go_base.specs.Keys.{first_with}
use Rattle.go_model.specs.declared.types.package.Package.{Package}
use Rattle.go_model.specs.worlds.Worlds.{path_of}
use Rattle.go_units.specs.declared.unit.«Unit».{«Unit» as PackageUnit}
use Rattle.go_work.specs.declared.rows.Row.{Row}
use Rattle.go_work.specs.inner.Rows.{is_new, is_ready, row_unit}

held : (ps : List Package) (o : Option PackageUnit) → is_new ps o ≡ true → IsSome o
held ps None e = absurd (true≢false (sym e))
held ps (Some u) e = refl

both : (a b : Bool) → (a && b) ≡ true → (a ≡ true) × (b ≡ true)
both true b e = (refl, e)
both false b e = absurd (true≢false (sym e))

off : (b : Bool) → not b ≡ true → b ≡ false
off true e = absurd (true≢false (sym e))
off false e = refl

nothing : (o : Option Package) → is_none o ≡ true → o ≡ None
nothing None e = refl
nothing (Some p) e = absurd (true≢false (sym e))

module _ (ps : List Package) (rs : List Row) (n : ℕ) where
  pub ready_held : is_ready ps rs n ≡ true → IsSome (row_unit rs n)
  ready_held e = held ps (row_unit rs n) e

  module _ (u : PackageUnit) (row : row_unit rs n ≡ Some u) (e : is_ready ps rs n ≡ true) where
    parts : (not (bytes_eq u.path []) ≡ true) × (is_none (first_with path_of ps u.path) ≡ true)
    parts = both (not (bytes_eq u.path [])) (is_none (first_with path_of ps u.path)) (subst (λ (o : Option PackageUnit). is_new ps o ≡ true) row e)

    pub ready_pathed : u.path ≢ []
    ready_pathed is = true≢false (sym ((bytes_eq-Decides u.path []).1 is) ∙ off (bytes_eq u.path []) parts.0)

    pub ready_new : first_with path_of ps u.path ≡ None
    ready_new = nothing (first_with path_of ps u.path) parts.1
