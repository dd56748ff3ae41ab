-- Rows, one of which is set anew.
use Rattle.std.proofs.Common.{◌≡◌, ◌<◌, ◌⊎◌, ℕ, zero, suc, List, [], ◌∷◌, ◌++◌, Option, Some, None, get_or, length, map, slice_get, append_assoc, append-nil, refl, sym, ap, ◌∙◌, inl, inr, arith}
use Rattle.std.specs.Prelude.{IsSome, slice_set}
use mathlib.Core.Bool.{true≢false}
use Rattle.go_exposed.specs.SkippedDeclarations as spec
use Rattle.go_exposed.specs.SkippedValues.{all_skipped}
use Rattle.go_exposed.specs.declared.skipped.Skipped.{Skipped}
use Rattle.go_typings.proofs.Cells.{none_some}
use Rattle.go_units.specs.declared.unit.«Unit».{«Unit» as PackageUnit}
use Rattle.go_work.specs.KeptUnits.{kept_unit, kept_units}
use Rattle.go_work.specs.declared.checked.SkippedUnit.{SkippedUnit}
use Rattle.go_work.specs.declared.rows.Row.{Row}
use Rattle.go_work.specs.inner.Rows.{all_skipped_in, kept_in, kept_of, offered_row, row_skipped, row_unit, skipped_in, waiting_row}

pub set_twice : (rs : List Row) (n : ℕ) (x y : Row) → slice_set (slice_set rs n x) n y ≡ slice_set rs n y
set_twice [] n x y = refl
set_twice (r ∷ rs) zero x y = refl
set_twice (r ∷ rs) (suc n) x y = ap (λ (zs : List Row). r ∷ zs) (set_twice rs n x y)

pub set_length : (rs : List Row) (n : ℕ) (x : Row) → length (slice_set rs n x) ≡ length rs
set_length [] n x = refl
set_length (r ∷ rs) zero x = refl
set_length (r ∷ rs) (suc n) x = ap suc (set_length rs n x)

pub unit_here : (rs : List Row) (n : ℕ) (x : Row) → n < length rs → row_unit (slice_set rs n x) n ≡ x.held
unit_here [] n x l = absurd (omega (arith, l))
unit_here (r ∷ rs) zero x l = refl
unit_here (r ∷ rs) (suc n) x l = unit_here rs n x (omega (arith, l))

pub unit_else : (rs : List Row) (n m : ℕ) (x : Row) → (m ≡ n → ⊥) → row_unit (slice_set rs n x) m ≡ row_unit rs m
unit_else [] n m x d = refl
unit_else (r ∷ rs) zero zero x d = absurd (d refl)
unit_else (r ∷ rs) zero (suc m) x d = refl
unit_else (r ∷ rs) (suc n) zero x d = refl
unit_else (r ∷ rs) (suc n) (suc m) x d = unit_else rs n m x (λ e. d (ap suc e))

pub skipped_here : (rs : List Row) (n : ℕ) (x : Row) → n < length rs → row_skipped (slice_set rs n x) n ≡ x.left_out
skipped_here [] n x l = absurd (omega (arith, l))
skipped_here (r ∷ rs) zero x l = refl
skipped_here (r ∷ rs) (suc n) x l = skipped_here rs n x (omega (arith, l))

pub skipped_else : (rs : List Row) (n m : ℕ) (x : Row) → (m ≡ n → ⊥) → row_skipped (slice_set rs n x) m ≡ row_skipped rs m
skipped_else [] n m x d = refl
skipped_else (r ∷ rs) zero zero x d = absurd (d refl)
skipped_else (r ∷ rs) zero (suc m) x d = refl
skipped_else (r ∷ rs) (suc n) zero x d = refl
skipped_else (r ∷ rs) (suc n) (suc m) x d = skipped_else rs n m x (λ e. d (ap suc e))

pub all_set : (rs : List Row) (n : ℕ) (x : Row) → all_skipped_in (slice_set rs n x) ≡ slice_set (all_skipped_in rs) n (all_skipped x.left_out)
all_set [] n x = refl
all_set (r ∷ rs) zero x = refl
all_set (r ∷ rs) (suc n) x = ap (λ (zs : List (List spec.Skipped)). all_skipped r.left_out ∷ zs) (all_set rs n x)

-- what is left out of a package doesn't change where it is set to what it is
pub set_blank : (rs : List Row) (n : ℕ) → row_skipped rs n ≡ [] → slice_set (all_skipped_in rs) n [] ≡ all_skipped_in rs
set_blank [] n e = refl
set_blank (r ∷ rs) zero e = ap (λ (xs : List Skipped). all_skipped xs ∷ all_skipped_in rs) (sym e)
set_blank (r ∷ rs) (suc n) e = ap (λ (zs : List (List spec.Skipped)). all_skipped r.left_out ∷ zs) (set_blank rs n e)

pub offered_left : (u : PackageUnit) (xs : List Skipped) → (offered_row u xs).left_out ≡ xs
offered_left u [] = refl
offered_left u (x ∷ xs) = refl

pub all_length : (rs : List Row) → length (all_skipped_in rs) ≡ length rs
all_length [] = refl
all_length (r ∷ rs) = ap suc (all_length rs)

-- ---- rows that wait

pub waiting_unit : (us : List PackageUnit) (m : ℕ) (u : PackageUnit) → slice_get us m ≡ Some u → row_unit (map waiting_row us) m ≡ Some u
waiting_unit [] m u e = none_some (slice_get [] m) u refl e
waiting_unit (v ∷ us) zero u e = e
waiting_unit (v ∷ us) (suc m) u e = waiting_unit us m u e

pub waiting_blank : (us : List PackageUnit) (m : ℕ) → row_skipped (map waiting_row us) m ≡ []
waiting_blank [] m = refl
waiting_blank (v ∷ us) zero = refl
waiting_blank (v ∷ us) (suc m) = waiting_blank us m

pub waiting_length : (us : List PackageUnit) → length (map waiting_row us) ≡ length us
waiting_length [] = refl
waiting_length (u ∷ us) = ap suc (waiting_length us)

pub waiting_last : (us : List PackageUnit) (u : PackageUnit) → map waiting_row (us ++ u ∷ []) ≡ map waiting_row us ++ waiting_row u ∷ []
waiting_last [] u = refl
waiting_last (v ∷ us) u = ap (λ (rs : List Row). waiting_row v ∷ rs) (waiting_last us u)

-- ---- what is kept

pub kept_last : (rs : List Row) (r : Row) → kept_in (rs ++ r ∷ []) ≡ kept_in rs ++ kept_of r.held r.left_out
kept_last [] r = append-nil (kept_of r.held r.left_out)
kept_last (s ∷ rs) r = ap (λ (k : List SkippedUnit). kept_of s.held s.left_out ++ k) (kept_last rs r) ∙ sym (append_assoc (kept_of s.held s.left_out) (kept_in rs) (kept_of r.held r.left_out))

-- each of the packages is held by its row where something is left out of it
abbrev pub AreHeld : List PackageUnit → List Row → Type 0
AreHeld us rs = (m : ℕ) (u : PackageUnit) → slice_get us m ≡ Some u → (row_unit rs m ≡ Some u) ⊎ ((row_unit rs m ≡ None) × (row_skipped rs m ≡ []))

pub rows_kept : (us : List PackageUnit) (rs : List Row) → length rs ≡ length us → AreHeld us rs → kept_in rs ≡ kept_units us (skipped_in rs)
rows_kept [] [] e h = refl
rows_kept [] (r ∷ rs) e h = absurd (omega (arith, e))
rows_kept (u ∷ us) [] e h = absurd (omega (arith, e))
rows_kept (u ∷ us) (r ∷ rs) e h =
    ap (λ (k : List SkippedUnit). k ++ kept_in rs) (first (h zero u refl))
    ∙ ap (λ (k : List SkippedUnit). kept_unit u r.left_out ++ k) (rows_kept us rs (omega (arith, e)) (λ m v f. h (suc m) v f))
  where
    first : (r.held ≡ Some u) ⊎ ((r.held ≡ None) × (r.left_out ≡ [])) → kept_of r.held r.left_out ≡ kept_unit u r.left_out
    first (inl f) = ap (λ (o : Option PackageUnit). kept_of o r.left_out) f
    first (inr p) = ap (λ (o : Option PackageUnit). kept_of o r.left_out) p.0 ∙ ap (kept_unit u) (sym p.1)

-- ---- the row of a number

pub unit_less : (rs : List Row) (n : ℕ) → IsSome (row_unit rs n) → n < length rs
unit_less [] n s = absurd (true≢false (sym s))
unit_less (r ∷ rs) zero s = omega arith
unit_less (r ∷ rs) (suc n) s = let l = unit_less rs n s in omega (arith, l)

pub unit_of_row : (rs : List Row) (n : ℕ) (x : Row) → n < length rs → x ≡ get_or rs n x → row_unit rs n ≡ x.held
unit_of_row [] n x l e = absurd (omega (arith, l))
unit_of_row (r ∷ rs) zero x l e = ap (λ (y : Row). y.held) (sym e)
unit_of_row (r ∷ rs) (suc n) x l e = unit_of_row rs n x (omega (arith, l)) e
